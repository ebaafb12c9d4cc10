-- Items put in an order, one after the other.
use Rattle.std.specs.Prelude.{Bool, if◌then◌else◌, List, [], ◌∷◌}

-- An item is put before the first one that it comes before.
abbrev pub put : {X : Type 0} → (X → X → Bool) → X → List X → List X
put before x [] = x ∷ []
put before x (y ∷ ys) = if before x y then x ∷ y ∷ ys else y ∷ put before x ys

-- Items put among others that are in order
abbrev pub put_all : {X : Type 0} → (X → X → Bool) → List X → List X → List X
put_all before [] placed = placed
put_all before (x ∷ xs) placed = put_all before xs (put before x placed)

-- Items in their order
abbrev pub rising : {X : Type 0} → (X → X → Bool) → List X → List X
rising before xs = put_all before xs []
