-- The definitions of this crate, by subject.
pub mod Fronts
pub mod Lines
pub mod Notes
pub mod Reading
pub mod Stands
pub mod Texts
