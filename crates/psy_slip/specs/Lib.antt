-- The definitions of this crate, by subject.
pub mod Agents
pub mod Besides
pub mod Declarations
pub mod Earlier
pub mod Listings
pub mod Looks
pub mod Numbers
pub mod Ranges
pub mod Searches
pub mod Slips
pub mod Statements
