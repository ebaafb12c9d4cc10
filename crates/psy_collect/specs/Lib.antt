-- The definitions of this crate, by subject.
pub mod Collected
pub mod Keeping
