-- The definitions of this crate, by subject.
pub mod Charges
pub mod Standing
