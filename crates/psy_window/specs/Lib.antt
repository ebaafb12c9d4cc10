-- The definitions of this crate, by subject.
pub mod Table
pub mod Windows
