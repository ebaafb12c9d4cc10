-- The definitions of this crate, by subject.
pub mod Lasts
pub mod Remembering
pub mod Tails
