-- The definitions of this crate, by subject.
pub mod Belonging
pub mod Feeding
pub mod Homes
pub mod Knowledge
pub mod Points
pub mod Silences
