-- How the bytes that a sink holds grow. A sink may stop telling them, and one that doesn't tell them
-- never begins to.
use Rattle.std.specs.Prelude.{◌≡◌, ℕ, List, ◌++◌, take, Option, None, Some}

-- The bytes held grew by this piece, as far as they are told
abbrev pub Grew : Option (List ℕ) → Option (List ℕ) → List ℕ → Type 0
Grew old None piece = Unit {0}
Grew None (Some now) piece = ⊥
Grew (Some old) (Some now) piece = now ≡ old ++ piece

-- The bytes held grew by a front of this text
abbrev pub GrewByFront : Option (List ℕ) → Option (List ℕ) → List ℕ → Type 0
GrewByFront old now text = (n : ℕ) × Grew old now (take n text)
