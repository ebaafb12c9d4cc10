-- Lists of different names.
use Rattle.std.specs.Prelude.{◌≡◌, ℕ, false, List, [], ◌∷◌, ◌++◌, bytes_eq, if◌then◌else◌}
use Rattle.std.specs.List.{list_any}

-- The names, and behind them this one, where it isn't among them
abbrev pub with_name : List (List ℕ) → List ℕ → List (List ℕ)
with_name names name = if list_any (bytes_eq name) names then names else names ++ name ∷ []

-- No name stands twice.
abbrev pub AreDistinct : List (List ℕ) → Type 0
AreDistinct [] = Unit {0}
AreDistinct (name ∷ names) = (list_any (bytes_eq name) names ≡ false) × AreDistinct names

-- What belongs to each name, but to one of them what is made of it
abbrev pub changed : {X : Type 0} → (List ℕ → X) → List ℕ → (X → X) → List ℕ → X
changed f name g other = if bytes_eq name other then g (f other) else f other
