-- The definitions of this crate, by subject.
pub mod Choice
pub mod Standing
