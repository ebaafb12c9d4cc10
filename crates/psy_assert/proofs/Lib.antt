-- The lemmas of this crate, by subject.
mod Added
mod Between
mod ByClaim
mod Extents
mod Kept
mod Newest
mod Ranks
mod Settled
mod Spoken
mod Windows
