pub mod CommandLemmas
pub mod RunLemmas
pub mod SettingsReadLemmas
pub mod ServiceLemmas
mod ReadsLemmas
pub mod RehearsalLemmas
pub mod BodyLemmas
