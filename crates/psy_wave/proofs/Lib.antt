-- The lemmas of this crate, by subject.
mod Digits
mod Pieces
mod Rising
mod Streaming
