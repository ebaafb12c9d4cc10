-- The definitions of this crate, by subject.
pub mod Faults
pub mod Files
pub mod Growth
pub mod States
