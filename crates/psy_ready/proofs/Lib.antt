-- The lemmas of this crate, by subject.
mod Edits
mod Picks
mod Places
mod Sorts
