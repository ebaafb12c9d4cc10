-- The lemmas that crates above may use.
pub mod LinesBack
