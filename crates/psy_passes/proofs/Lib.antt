-- The lemmas of this crate, by subject.
mod Ends
mod Firsts
mod Kept
mod NameTables
mod Sayings
mod Sinces
mod SummaryNames
mod Surveyed
mod Tails
mod Tellers
mod Twice
pub mod lemmas
