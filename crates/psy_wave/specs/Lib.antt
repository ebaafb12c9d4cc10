-- The definitions of this crate, by subject.
pub mod Changes
pub mod Codes
pub mod Heads
pub mod Streams
pub mod Times
