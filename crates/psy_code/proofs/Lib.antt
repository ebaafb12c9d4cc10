-- The lemmas of this crate, by subject.
mod Heights
mod Homes
mod Lasting
mod Rowed
