-- Templates: bytes, of which each `$` is a hole.
use Rattle.std.specs.Prelude.{◌==◌, ℕ, List, [], ◌∷◌, ◌++◌, cond, drop, get_or}

-- What stands at a byte of a template: the first of the holes' texts where it is a hole, nothing where none is left, and else the byte
abbrev pub next : ℕ → List (List ℕ) → List ℕ
next b holes = cond (b == 36) (get_or holes 0 []) (b ∷ [])

-- The holes' texts behind it
abbrev pub holes_behind : ℕ → List (List ℕ) → List (List ℕ)
holes_behind b holes = cond (b == 36) (drop 1 holes) holes

-- A template with these texts in its holes, in their order
unfoldable pub fill : List ℕ → List (List ℕ) → List ℕ
fill [] holes = []
fill (b ∷ template) holes = next b holes ++ fill template (holes_behind b holes)
