pub mod Floods
pub mod Notebooks
pub mod Laws
