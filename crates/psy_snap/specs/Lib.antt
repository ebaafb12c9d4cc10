-- The definitions of this crate, by subject.
pub mod Bytes
pub mod Cuts
pub mod Faults
pub mod Forms
pub mod Plans
pub mod Ranges
pub mod Reading
pub mod Rows
pub mod Shapes
