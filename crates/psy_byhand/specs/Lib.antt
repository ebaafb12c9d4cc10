-- The definitions of this crate, by subject.
pub mod Counters
pub mod Laps
pub mod Relays
