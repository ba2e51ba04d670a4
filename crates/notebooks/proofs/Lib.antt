pub mod Floods
pub mod Notebooks
pub mod Bits
