-- The definitions of this crate, by subject.
pub mod Listing
pub mod Logs
pub mod NameChecks
pub mod Names
pub mod Outcomes
pub mod Progress
pub mod Runs
pub mod Tables
pub mod Telling
