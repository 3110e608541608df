pub mod Shown
pub mod Passes
pub mod FirstBroken
