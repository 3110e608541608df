pub mod Views
pub mod Bounds
pub mod Spans
pub mod Drafts
