mod Places
mod Counts
mod Performs
mod Heard
mod Phases
