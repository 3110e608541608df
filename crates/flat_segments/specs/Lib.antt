pub mod Cells
pub mod Segments
pub mod Needed
pub mod Planned
pub mod RowFaults
pub mod Bodies
