-- The definitions of this crate, by subject.
pub mod Agents
pub mod Asked
pub mod Measured
pub mod Reports
pub mod Tightness
pub mod Warnings
