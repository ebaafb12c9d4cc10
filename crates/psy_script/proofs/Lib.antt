-- The lemmas of this crate, by subject.
mod EachOnce
mod FirstFaults
mod InputFaults
mod InputNumbers
mod Listed
mod ListsKept
mod NamePlaces
mod Placing
mod Positions
mod PutEntries
mod RisingScripts
mod RoundNumbers
mod ScriptFaults
mod SoundScripts
mod Stated
