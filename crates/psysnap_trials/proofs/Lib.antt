-- The lemmas of this crate, by subject.
mod InputPlanned
mod Planned
