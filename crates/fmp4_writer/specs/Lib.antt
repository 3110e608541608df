pub mod Front
pub mod Samples
pub mod Entry
pub mod Progress
