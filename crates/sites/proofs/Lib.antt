pub mod Positions
pub mod Ranges
pub mod Lists
pub mod Sets
pub mod Suspects
pub mod Table
