-- The definitions of this crate, by subject.
pub mod Acting
pub mod Copying
pub mod Layout
pub mod Parts
pub mod Stepping
