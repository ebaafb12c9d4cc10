-- The definitions of this crate, by subject.
pub mod Instructions
pub mod Listing
pub mod Straight
