-- The definitions of this crate, by subject.
pub mod Operators
pub mod Tables
pub mod Types
pub mod Widths
