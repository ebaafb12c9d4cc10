-- The lemmas of this crate, by subject.
pub mod lemmas
mod Calendars
mod Committed
mod Committing
mod Dates
mod Endings
mod Entering
mod Filled
mod Histories
mod Kept
mod Lists
mod MoversThen
mod Opened
mod OwnValues
mod Phases
mod Publications
mod QueuesThen
mod Resumed
mod Seats
mod ShownFrom
mod StillDates
mod StreamLaws
mod StreamsThen
mod Values
