-- The definitions of this crate, by subject.
pub mod Names
pub mod Fields
pub mod Formats
pub mod Reading
pub mod Instructions
pub mod Images
pub mod Answers
pub mod Bytes
