-- The definitions of this crate, by subject.
pub mod Courses
pub mod Extents
pub mod Lines
pub mod Programs
pub mod Steps
pub mod Supplies
pub mod Tables
