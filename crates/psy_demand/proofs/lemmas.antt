-- Lemmas that crates above may cite, by subject.
pub mod Eaches
pub mod EdgesOf
pub mod OnProcessors
