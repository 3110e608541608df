pub mod FrontLemmas
