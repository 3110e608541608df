pub mod Asks
pub mod Flat
pub mod Inits
pub mod Listings
pub mod Packed
