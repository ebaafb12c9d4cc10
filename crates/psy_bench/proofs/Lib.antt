-- The lemmas of this crate, by subject.
mod Stays
mod Stepping
