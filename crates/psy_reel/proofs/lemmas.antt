-- Lemmas that crates above may use.
pub mod OneFile
