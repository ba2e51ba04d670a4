pub mod Puts
pub mod SixLanes
pub mod Runs
pub mod Strips
