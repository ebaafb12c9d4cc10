-- The definitions of this crate, by subject.
pub mod Followed
pub mod Horizons
pub mod Lines
pub mod Rows
pub mod Trials
