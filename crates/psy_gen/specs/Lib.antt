-- The definitions of this crate, by subject.
pub mod Emission
pub mod Keeping
pub mod Rooms
pub mod SameWays
pub mod Spans
