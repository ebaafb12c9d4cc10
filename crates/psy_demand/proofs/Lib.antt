-- The lemmas of this crate, by subject.
mod OneMore
mod Verdicts
pub mod lemmas
