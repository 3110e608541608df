pub mod HeaderLemmas
pub mod WayLemmas
pub mod PlaceLemmas
pub mod TurnLemmas
