-- What may be told.
use Rattle.std.specs.Prelude.{◌==◌, ◌&&◌, ℕ, Bool, true, false, List, [], ◌∷◌, Option, None, Some, bytes_eq, cond}
use Rattle.std.specs.Ordering.{int_eq}
use Rattle.psy_draw.specs.Columns.{Dated, dated}
use Rattle.psy_draw.specs.declared.values.Said.{Said}
use Rattle.psy_draw.specs.declared.values.Told.{Told}

-- The value alone, where there is one
abbrev pub values_of : Option Told → List Dated
values_of None = []
values_of (Some told) = dated told.date told.value ∷ []

-- The value that is told of a name, where it is told of this one
abbrev pub said_of : List ℕ → Option Said → List Dated
said_of name None = []
said_of name (Some said) = cond (bytes_eq said.name.now name) (dated said.told.date said.told.value ∷ []) []

-- It is one value, of one date; or there are none.
abbrev pub is_same : Option Told → Option Told → Bool
is_same (Some some) (Some other) = some.date == other.date && int_eq some.value other.value
is_same None None = true
is_same _ _ = false
