-- The definitions of this crate, by subject.
pub mod Worked
pub mod Standing
pub mod Fits
pub mod Following
