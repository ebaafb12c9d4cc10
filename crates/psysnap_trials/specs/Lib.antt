-- The definitions of this crate, by subject.
pub mod Input
pub mod Nothing
