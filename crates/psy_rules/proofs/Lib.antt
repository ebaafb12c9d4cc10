-- The lemmas of this crate, by subject.
mod Tables
mod SlotLists
mod Judging
mod Twice
mod Items
mod Program
mod LeastFaults
mod Verdicts
mod Reach
mod Lowering
mod Counting
mod Room
mod Wholes
mod Paths
