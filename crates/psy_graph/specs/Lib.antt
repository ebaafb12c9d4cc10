-- The definitions of this crate, by subject.
pub mod Drawn
pub mod Faults
pub mod Graphs
pub mod Near
pub mod Places
pub mod Steps
