-- The definitions of this crate, by subject.
pub mod Generator
pub mod Text
