pub mod Movies
pub mod Checks
pub mod Rows
pub mod Selection
pub mod Written
pub mod Cuts
pub mod Held
pub mod Shown
