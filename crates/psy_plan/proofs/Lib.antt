-- The lemmas of this crate, by subject.
mod Courses
mod DecidedPlans
mod DecidedSteps
mod ExtentLemmas
mod GivenWays
mod ProcessorDemands
mod RefusalLemmas
mod SupplyLemmas
mod WayLemmas
pub mod lemmas
