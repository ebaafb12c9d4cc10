-- Lemmas that crates above may cite, by subject.
pub mod Advances
pub mod Among
pub mod Clocks
pub mod ClocksOf
pub mod Entries
pub mod Faultless
pub mod Limits
pub mod Lists
pub mod Numbers
pub mod PlacesOf
pub mod PointsOf
pub mod Standing
pub mod Tails
pub mod TokenCounts
