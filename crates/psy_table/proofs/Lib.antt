-- The lemmas of this crate, by subject.
mod CellLemmas
mod Streaming
