-- Lemmas that crates above may cite, by subject.
pub mod ByPoint
pub mod Demands
pub mod Eaches
pub mod Layers
pub mod Leasts
pub mod NoWays
pub mod RestPieces
pub mod RestsOf
pub mod Running
pub mod SlotCells
pub mod SomeSendings
pub mod SoundParts
