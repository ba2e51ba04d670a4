pub mod Six
pub mod Seen
pub mod Turns
pub mod Speaks
pub mod Turned
pub mod Recalls
pub mod Performs
pub mod Ranges
