-- The definitions of this crate, by subject.
pub mod Fault
pub mod Reading
