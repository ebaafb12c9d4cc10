-- The lemmas of this crate, by subject.
mod Faults
mod Looking
mod Names
mod Readings
mod Sources
mod Walked
