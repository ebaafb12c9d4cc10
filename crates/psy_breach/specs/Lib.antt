-- The definitions of this crate, by subject.
pub mod Breaches
pub mod Declarations
pub mod Kinds
pub mod Loops
pub mod Names
pub mod Numbers
pub mod Roles
pub mod Told
pub mod Wrong
