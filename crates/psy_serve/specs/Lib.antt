-- The definitions of this crate, by subject.
pub mod Behind
pub mod Speaking
