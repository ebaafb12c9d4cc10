-- The definitions of this crate, by subject.
pub mod Deep
pub mod Faults
pub mod Grammar
pub mod Lexemes
pub mod Parts
pub mod Paths
pub mod Places
pub mod Rules
pub mod Scope
pub mod Stands
pub mod Tokens
