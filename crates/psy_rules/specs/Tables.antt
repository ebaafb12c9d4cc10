-- What tables of names stand for.
use Rattle.std.specs.Prelude.{◌≡◌, ℕ, Bool, if◌then◌else◌, List, [], ◌∷◌, ◌++◌, map, is_some}
use Rattle.std.specs.List.{list_any}
use Rattle.psy_tree.specs.declared.raw.Name.{Name}
use Rattle.psy_tree.specs.declared.raw.Item.{Item}
use Rattle.psy_tree.specs.declared.reach.Found.{Found}
use Rattle.psy_tree.specs.Scope.{Entry, SlotName, first_named, scalar, slots_of}
use Rattle.psy_tree.specs.Rules.{names_slot}

-- The table has, for each name, the first of these declarations.
abbrev pub StandsFor : List Entry → List Entry → Type 0
StandsFor table entries = (text : List ℕ) → first_named text table ≡ first_named text entries

-- The table with one more declaration, unless the name has one.
abbrev pub added : List Entry → List ℕ → Found → List Entry
added table text what = if is_some (first_named text table) then table else table ++ record { text = text; found = what } ∷ []

-- The names of slots
abbrev pub slot_names : List SlotName → List Name
slot_names slots = map (λ s. s.name) slots

-- As the slots of parameters
abbrev pub as_slots : List Name → List SlotName
as_slots names = map scalar names

-- A name stands inside one of these declarations.
abbrev pub is_inner : List ℕ → List Item → Bool
is_inner text items = list_any (λ i. list_any (names_slot text) (slots_of i)) items

-- The table has the names that stand inside one of them.
abbrev pub HasInner : List Entry → List Item → Type 0
HasInner table items = (text : List ℕ) → is_some (first_named text table) ≡ is_inner text items
