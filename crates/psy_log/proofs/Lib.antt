-- The lemmas of this crate, by subject.
mod GrowthLemmas
mod HandedLemmas
pub mod lemmas
