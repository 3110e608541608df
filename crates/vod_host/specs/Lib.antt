pub mod ReadAhead
