-- The lemmas of this crate, by subject.
mod Ranges
mod Rising
mod Wrapping
