-- The lemmas of this crate, by subject.
mod Entries
mod Laid
mod Reversed
mod Steps
