-- The sound clocks that a table of names leads to.
use Rattle.std.specs.Prelude.{Bool, false, ◌||◌, nat_le, List, Option, Some, None}
use Rattle.psy_clock.specs.declared.clock.Clock.{Clock}
use Rattle.psy_tree.specs.declared.raw.Name.{Name}
use Rattle.psy_tree.specs.declared.raw.Item.{Item}
use Rattle.psy_tree.specs.declared.raw.Item.TheVariants as item
use Rattle.psy_tree.specs.Scope.{Entry, first_named}
use Rattle.psy_tree.specs.Rules.{base, sound_found, lawful, shift_of, too_slow}

-- What a parent stands for.
abbrev pub parent_clock : List Entry → List (Option Clock) → Option Name → Option Clock
parent_clock table known None = Some base
parent_clock table known (Some parent) = sound_found known (first_named parent.text table)

-- The sound clock that a declaration is.
abbrev pub clock_of : List Entry → List (Option Clock) → Item → Option Clock
clock_of table known (item.Clock name by parent shift) = lawful (parent_clock table known parent) by.value (shift_of shift)
clock_of table known _ = None

-- It is a clock at fault.
abbrev pub faulty : List Entry → List (Option Clock) → Item → Bool
faulty table known (item.Clock name by parent shift) = nat_le by.value (shift_of shift) || too_slow (parent_clock table known parent) by.value
faulty table known _ = false
