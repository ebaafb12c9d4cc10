-- The definitions of this crate, by subject.
pub mod Faults
pub mod Forms
pub mod Options
