pub mod Inits
pub mod Looked
pub mod PartTracks
pub mod Shown
pub mod Tours
pub mod Turned
pub mod Ways
