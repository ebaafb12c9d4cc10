-- The definitions of this crate, by subject.
pub mod Forms
pub mod Table
pub mod Writing
