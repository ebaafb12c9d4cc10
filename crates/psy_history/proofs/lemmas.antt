-- Lemmas that crates above may cite, by subject.
pub mod Commits
pub mod MoreUnits
pub mod NoInputs
