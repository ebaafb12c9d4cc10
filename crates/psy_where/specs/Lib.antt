-- The definitions of this crate, by subject.
pub mod Besides
pub mod Broken
pub mod Bytes
pub mod Explained
pub mod Helps
pub mod Indents
pub mod Lacks
pub mod Lexing
pub mod Limits
pub mod Notes
pub mod Places
pub mod Plains
pub mod Refusals
pub mod Unsound
pub mod Untrue
pub mod Writings
