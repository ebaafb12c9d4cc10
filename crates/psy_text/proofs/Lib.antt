-- The lemmas of this crate, by subject.
mod Digits
mod Firsts
mod LinesCut
mod Numbers
mod Values
mod WordsCut
pub mod lemmas
