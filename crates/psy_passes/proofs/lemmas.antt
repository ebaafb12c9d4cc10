-- The lemmas that crates above may use.
pub mod Distinct
pub mod Growth
pub mod Notes
pub mod ToldApart
