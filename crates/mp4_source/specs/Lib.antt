pub mod Places
pub mod Sought
