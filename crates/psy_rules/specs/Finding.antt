-- What was found, by its number.
use Rattle.std.specs.Prelude.{ℕ, Bool, false, nat_le, nat_lt, Option, Some}
use Rattle.psy_tree.specs.declared.reach.Found.{Found}
use Rattle.psy_tree.specs.declared.reach.Found.TheVariants as found

-- It is a declaration up to number k.
abbrev pub up_to : ℕ → Option Found → Bool
up_to k (Some (found.Item j)) = nat_le j k
up_to k _ = false

-- It is a declaration of a lesser number.
abbrev pub item_below : ℕ → Option Found → Bool
item_below k (Some (found.Item j)) = nat_lt j k
item_below k _ = false

-- It is a slot of a lesser number.
abbrev pub slot_below : ℕ → Option Found → Bool
slot_below k (Some (found.Slot j)) = nat_lt j k
slot_below k _ = false
