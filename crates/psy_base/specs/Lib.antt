-- The definitions of this crate, by subject.
pub mod Extremes
pub mod Paths
