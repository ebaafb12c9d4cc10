-- The lemmas of this crate, by subject.
mod Own
mod OwnSizes
