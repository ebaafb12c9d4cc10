-- The definitions of this crate, by subject.
pub mod Breaches
pub mod Claims
pub mod Grammar
pub mod Outcome
