pub mod Lanes
pub mod Laws
pub mod SixLanes
pub mod Boards
pub mod Runs
pub mod Strips
