-- The lemmas of this crate, by subject.
mod Endings
mod Texts
mod Told
mod Whole
