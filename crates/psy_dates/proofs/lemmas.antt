-- Lemmas that crates above may cite, by subject.
pub mod Begun
pub mod Fits
pub mod Moving
pub mod Names
pub mod OwnCopies
pub mod Placed
pub mod Sets
