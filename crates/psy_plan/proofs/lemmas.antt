-- Lemmas that crates above may cite, by subject.
pub mod Decisions
pub mod Stopping
