-- The definitions of this crate, by subject.
pub mod Expiring
pub mod Order
pub mod Standing
