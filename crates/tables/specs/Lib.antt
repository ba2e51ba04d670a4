pub mod Wirings
pub mod Entries
pub mod Joins
pub mod Steps
pub mod Drafts
pub mod Tables
pub mod Laws
