-- The definitions of this crate, by subject.
pub mod Spelling
pub mod Templates
pub mod Told
