-- The code of a unit is verified, by subject.
pub mod Agents
pub mod Ends
pub mod Exprs
pub mod Functions
pub mod Marked
pub mod Marking
pub mod Own
pub mod Stmts
pub mod Stretches
