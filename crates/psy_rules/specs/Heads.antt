-- The places of a declaration's head behind its name, and of a list of names.
use Rattle.std.specs.Prelude.{ℕ, ◌+◌, List, [], ◌∷◌, ◌++◌}
use Rattle.psy_base.specs.declared.limits.TheConstants.{BUDGET, DEPTH, KEEP}
use Rattle.psy_tree.specs.declared.raw.Name.{Name}
use Rattle.psy_tree.specs.declared.raw.Item.{Item}
use Rattle.psy_tree.specs.declared.raw.Item.TheVariants as item
use Rattle.psy_tree.specs.declared.reach.Asks.TheVariants as asks
use Rattle.psy_tree.specs.Places.{Place, NamesSlot, Derives, Uses, Ranges, parent_places, processor_places}

-- The places of a declaration's head, but for that of the name it gives.
abbrev pub after_name : Item → List Place
after_name (item.Clock name by parent shift) = Derives name ∷ parent_places parent
after_name (item.Temporal name owner clock init depth) = Uses owner asks.Agent ∷ (Uses clock asks.Clock ∷ (Ranges depth 1 DEPTH ∷ []))
after_name (item.Input name clock init depth) = Uses clock asks.Clock ∷ (Ranges depth 1 DEPTH ∷ [])
after_name (item.Stream name receiver keep clock) = Uses receiver asks.Agent ∷ (Ranges keep 1 KEEP ∷ (Uses clock asks.Clock ∷ []))
after_name (item.Function name params locals stmts) = []
after_name (item.Agent name clock processor budget locals body stmts) = Uses clock asks.Clock ∷ (processor_places processor ++ Ranges budget 1 BUDGET ∷ [])

-- The places where names are given to slots, numbered from k on.
abbrev pub name_places : ℕ → List Name → List Place
name_places k [] = []
name_places k (n ∷ ns) = NamesSlot k n ∷ name_places (k + 1) ns
