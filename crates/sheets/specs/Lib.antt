pub mod Parts
pub mod Rows
pub mod Refusals
pub mod Steps
pub mod Items
