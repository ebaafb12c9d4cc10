-- What stands at the places of names.
use Rattle.std.specs.Prelude.{◌≡◌, ◌<◌, ℕ, Bool, List, [], ◌∷◌, Option, None, Some, bytes_eq, get_or, length, set}
use Rattle.std.specs.List.{position}
use Rattle.psy_draw.specs.Columns.{AddsValues, Dated, Keeps, is_there_still}
use Rattle.psy_draw.specs.Told.{values_of}
use Rattle.psy_draw.specs.declared.column.Column.{Column}
use Rattle.psy_draw.specs.declared.values.Told.{Told}

-- At the place of each name that is among these stands what is of it.
abbrev pub Each : {X : Type 0} → (List ℕ → X → Type 0) → X → List (List ℕ) → List X → Type 0
Each of none names things = (name : List ℕ) (k : ℕ) → position (bytes_eq name) names ≡ Some k → of name (get_or things k none)

-- A value is added to the columns at a place.
abbrev pub AddsAt : (ℕ → ℕ) → (List Dated → Dated → Bool) → ℕ → Dated → List (List Column) → List (List Column) → Type 0
AddsAt place goes k v old new = (columns : List Column) × (new ≡ set old k columns) × AddsValues place goes (v ∷ []) (get_or old k []) columns

-- Columns stand for these values, one by one, where there are some.
abbrev pub AreOfEach : (ℕ → ℕ) → List (Option Told) → List (List Column) → Type 0
AreOfEach place told all =
    (length all ≡ length told) × ((k : ℕ) → k < length told → Keeps place (is_there_still place) (values_of (get_or told k None)) (get_or all k []))
