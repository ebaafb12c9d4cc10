-- Lemmas for the crates above, by subject.
pub mod Pieces
