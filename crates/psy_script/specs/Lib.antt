-- The definitions of this crate, by subject.
pub mod Answer
pub mod Entries
pub mod Faults
pub mod Inputs
pub mod Numbers
pub mod Rising
pub mod Script
