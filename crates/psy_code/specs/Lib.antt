-- The definitions of this crate, by subject.
pub mod Execution
pub mod Lasting
pub mod Rows
pub mod Views
