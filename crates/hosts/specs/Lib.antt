pub mod Answered
pub mod Sheets
pub mod Calls
pub mod Replays
pub mod Ends
pub mod Restored
