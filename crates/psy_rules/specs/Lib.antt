-- The definitions of this crate, by subject.
pub mod Judged
pub mod Tables
pub mod Sites
pub mod Finding
pub mod Clocks
pub mod Heads
pub mod Verdict
pub mod Counted
pub mod Cause
pub mod Numbering
pub mod Lowered
