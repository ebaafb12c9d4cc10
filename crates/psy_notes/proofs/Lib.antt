-- The lemmas of this crate, by subject.
mod Apart
mod Filling
mod Lines
mod Nexts
mod OneLine
mod Plain
mod Shapes
mod Total
mod Walks
