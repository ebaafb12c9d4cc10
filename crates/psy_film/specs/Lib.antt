-- The definitions of this crate, by subject.
pub mod Causes
pub mod Films
pub mod Sources
pub mod Walks
