pub mod Paths
pub mod Words
pub mod Scans
pub mod Notes
pub mod Owed
pub mod Weighs
pub mod Alike
pub mod Spoken
