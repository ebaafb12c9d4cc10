-- The lemmas of this crate, by subject.
mod Steps
mod Ways
