-- The definitions of this crate, by subject.
pub mod Cells
pub mod CellsState
pub mod Fields
pub mod Rows
pub mod Stands
pub mod Streams
