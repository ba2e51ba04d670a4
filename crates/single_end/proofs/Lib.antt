pub mod Fit
pub mod Steps
pub mod InStep
