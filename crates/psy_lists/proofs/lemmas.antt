-- Lemmas that crates above cite.
pub mod Members
pub mod Ordered
pub mod Places
pub mod Ranges
pub mod Results
pub mod Searches
pub mod Tests
pub mod Texts
