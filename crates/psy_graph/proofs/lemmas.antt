-- Lemmas that crates above may cite, by subject.
pub mod Cycles
pub mod Fewer
pub mod MayStarts
pub mod Unique
