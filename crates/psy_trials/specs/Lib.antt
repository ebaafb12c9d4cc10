-- The definitions of this crate, by subject.
pub mod Actions
pub mod Looks
