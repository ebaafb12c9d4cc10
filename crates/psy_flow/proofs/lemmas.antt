-- Lemmas that crates above may cite, by subject.
pub mod Marked
pub mod Mosts
pub mod OneNexts
pub mod Shifted
