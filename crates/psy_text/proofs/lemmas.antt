-- Lemmas that crates above may cite, by subject.
pub mod Names
pub mod Numerals
pub mod Runs
