-- The definitions of this crate, by subject.
pub mod Answer
pub mod Asked
pub mod Fetching
pub mod Filming
pub mod Outcome
pub mod Pairing
pub mod Reading
pub mod Refusals
pub mod Views
