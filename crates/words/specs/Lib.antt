pub mod Paths
pub mod Kinds
pub mod Layout
pub mod Words
pub mod Examples
