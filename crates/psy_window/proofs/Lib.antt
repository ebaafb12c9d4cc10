-- The lemmas of this crate, by subject.
mod Cells
mod Existence
mod Lists
mod Paths
mod Rounds
mod Tables
mod Tops
