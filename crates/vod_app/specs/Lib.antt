pub mod Commands
pub mod ReadsRuns
pub mod Runs
pub mod Services
pub mod Rehearsals
