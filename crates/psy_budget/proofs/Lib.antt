-- The lemmas of this crate, by subject.
mod Gaps
mod Splits
mod Starts
mod Stretches
pub mod lemmas
