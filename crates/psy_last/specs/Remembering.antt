-- What contracts see of a sink that remembers the last line.
use Rattle.std.specs.Prelude.{◌≡◌, ◌⊎◌, ℕ, List, [], Option, None, Some}

-- What the sink behind it holds, where that is told, and how many of its calls failed
pub record Remembered : Type 0 where
  pub held : Option (List ℕ)
  pub faults : ℕ

-- Nothing was written yet, as far as that is told.
abbrev pub IsFresh : Option (List ℕ) → Type 0
IsFresh held = (held ≡ None) ⊎ (held ≡ Some [])
