-- The lemmas of this crate, by subject.
mod Explaining
mod LinesWalked
mod NoteLines
mod OpenPlaces
mod PairsFound
mod TokenStarts
