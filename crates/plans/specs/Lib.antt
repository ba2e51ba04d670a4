pub mod Complete
pub mod Taken
pub mod Examples
pub mod Sheets
pub mod Plans
