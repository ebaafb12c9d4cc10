-- Lemmas that crates above may cite, by subject.
pub mod Stalls
pub mod Units
