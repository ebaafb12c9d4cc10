-- The definitions of this crate, by subject.
pub mod Beginnings
pub mod BoxStanding
pub mod Calendars
pub mod Messages
pub mod Movers
pub mod Moves
pub mod Outboxes
pub mod Plans
pub mod Publications
pub mod RollStanding
pub mod Rolls
pub mod Standing
pub mod Still
