pub mod RowsLemmas
pub mod FrontLemmas
pub mod GrowthLemmas
pub mod EntryLemmas
pub mod SamplesLemmas
pub mod ProgressLemmas
pub mod StepLemmas
