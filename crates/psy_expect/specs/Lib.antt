-- The definitions of this crate, by subject.
pub mod Advice
pub mod Arounds
pub mod Braces
pub mod Foreigns
pub mod Hints
pub mod Mending
pub mod Phrases
pub mod Terminals
