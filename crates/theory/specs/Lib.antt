pub mod Network
pub mod Flooding
pub mod Weighing
pub mod Runs
pub mod Expected
pub mod Laws
pub mod Complete
pub mod Examples
