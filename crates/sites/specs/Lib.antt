pub mod Positions
pub mod Sets
pub mod Lists
pub mod Keepers
pub mod Suspects
pub mod Refusals
