-- The definitions of this crate, by subject.
pub mod Fronts
pub mod Lines
pub mod Words
