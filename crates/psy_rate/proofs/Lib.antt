-- The lemmas of this crate, by subject.
mod Cells
mod Cuts
mod Demands
mod Excesses
mod Existence
mod Followed
mod Goings
mod GroupHorizons
mod LeastCovers
mod LinesOn
mod Passed
mod Potentials
mod Steps
mod Walks
