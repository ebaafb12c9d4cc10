-- The definitions of this crate, by subject.
pub mod Criterion
pub mod Demand
pub mod Findings
pub mod Sums
