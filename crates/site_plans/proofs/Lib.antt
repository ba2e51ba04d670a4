pub mod FanWords
pub mod Made
pub mod Fitted
