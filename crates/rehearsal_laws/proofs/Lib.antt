mod MappingText
mod Ranges
mod Tables
mod Room
mod Movies
mod Checked
mod Parts
mod Planned
pub mod Listed
