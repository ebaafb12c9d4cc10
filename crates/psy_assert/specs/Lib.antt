-- The definitions of this crate, by subject.
pub mod Cuts
pub mod Spans
pub mod Sums
pub mod Tallies
pub mod Verdicts
