-- The definitions of this crate, by subject.
pub mod Columns
pub mod Cutting
pub mod Lines
