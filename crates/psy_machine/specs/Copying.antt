-- The working copies of variables, as entries with an index by variable.
use Rattle.std.specs.Prelude.{◌≡◌, ◌≢◌, ℕ, zero, suc, List, [], ◌∷◌, Some, slice_get, ℤ}
use Rattle.psy_code.specs.declared.code.CopyInit.{CopyInit}
use Rattle.psy_code.specs.Execution.{Copy}
use Rattle.psy_machine.specs.declared.copies.Entry.{Entry}

-- What the entries stand for
abbrev pub copies_in : List Entry → List Copy
copies_in [] = []
copies_in (e ∷ es) = record { variable = e.variable; value = e.value } ∷ copies_in es

-- The entry of a copy that has its first value
abbrev pub entry_from : CopyInit → Entry
entry_from c = record { variable = c.variable; value = c.init }

-- The entry of a copy that has another value
abbrev pub entry_with : CopyInit × ℤ → Entry
entry_with (c, value) = record { variable = c.variable; value = value }

-- Copies with these values, one each
abbrev pub with_values : List Copy → List ℤ → List Copy
with_values [] values = []
with_values (c ∷ copies) [] = []
with_values (c ∷ copies) (value ∷ values) = record c { value = value } ∷ with_values copies values

-- The first entry of a variable stands at a place.
abbrev pub IsFirst : ℕ → List Entry → ℕ → Type 0
IsFirst variable [] place = ⊥
IsFirst variable (e ∷ es) zero = e.variable ≡ variable
IsFirst variable (e ∷ es) (suc place) = (e.variable ≢ variable) × IsFirst variable es place

-- By variable, the place of its first entry
abbrev pub IsIndex : List Entry → List ℕ → Type 0
IsIndex es places = (variable place : ℕ) → IsFirst variable es place → slice_get places variable ≡ Some place
