-- The lemmas of this crate, by subject.
mod ByNexts
mod Causes
mod EdgesKept
mod Explored
mod Finding
mod Links
mod NearGraphs
mod Numbers
mod Periods
mod Phases
mod Reached
mod Rooms
mod Timed
mod Timings
pub mod lemmas
