-- The definitions of this crate, by subject.
pub mod Faults
pub mod Passing
pub mod Queues
pub mod Sending
pub mod Windows
