pub mod Chains
pub mod Runs
pub mod Steps
pub mod Passed
pub mod Readings
