pub mod Ends
pub mod States
pub mod Calls
pub mod InStep
pub mod Kept
