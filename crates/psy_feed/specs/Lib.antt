-- The definitions of this crate, by subject.
pub mod Arrows
pub mod Backs
pub mod Drawing
