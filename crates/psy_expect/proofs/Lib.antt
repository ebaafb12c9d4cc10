-- The lemmas of this crate, by subject.
mod Alike
mod Followed
mod Fronts
mod OpenBraces
mod Picked
mod Renamed
