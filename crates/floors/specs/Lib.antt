pub mod Tables
pub mod Views
pub mod Turns
pub mod Lists
