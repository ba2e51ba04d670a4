pub mod State
pub mod Replies
pub mod Runs
pub mod Guarantee
pub mod Laws
pub mod Examples
