pub mod Ears
pub mod Speaking
pub mod Recalling
pub mod Telling
pub mod Laws
