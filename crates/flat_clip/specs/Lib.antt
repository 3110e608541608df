pub mod Tracks
pub mod Rows
pub mod Parts
pub mod Answers
