-- The lemmas of this crate, by subject.
mod Belonged
mod Counting
mod FedNotes
mod LinesOfPlaces
mod Numbered
mod OwnHomes
mod Stopping
mod Summaries
