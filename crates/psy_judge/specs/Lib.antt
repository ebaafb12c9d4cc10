-- The definitions of this crate, by subject.
pub mod Judged
pub mod Walked
pub mod Highest
pub mod Deciding
pub mod Judging
pub mod Gathering
pub mod Owned
pub mod Ending
pub mod Climbing
