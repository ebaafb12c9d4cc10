-- The definitions of this crate, by subject.
pub mod Ending
pub mod Exports
pub mod Refusals
