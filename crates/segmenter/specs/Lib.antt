pub mod Ranges
pub mod Reached
