-- The definitions of this crate, by subject.
pub mod Accepted
pub mod Answer
pub mod Asked
pub mod Bounds
pub mod Courses
pub mod Cuts
pub mod Outcome
pub mod OwnLines
pub mod Planned
pub mod Refusals
pub mod Services
pub mod Steps
pub mod Supplies
pub mod Texts
