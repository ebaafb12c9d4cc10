-- The lemmas of this crate, by subject.
mod Expiries
pub mod lemmas
