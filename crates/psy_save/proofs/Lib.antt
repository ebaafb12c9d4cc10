-- The lemmas of this crate, by subject.
mod BusyDates
mod CellsLong
mod FirstCopies
mod FormParts
mod LeftStates
mod MessageNumbers
mod QueueSizes
mod SavedRuns
mod ShapedStates
mod TextWays
