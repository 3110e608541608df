pub mod Films
pub mod Listed
