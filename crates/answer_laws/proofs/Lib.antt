pub mod Steps
pub mod Mappings
pub mod Segments
pub mod Lists
mod Clips
pub mod Due
pub mod Answers
