-- How many dates of a clock may pass while an action that may look at a variable runs: by its nodes, by its agent, and by all
-- agents of a unit.
use Rattle.std.specs.Prelude.{◌≡◌, ℕ, ◌+◌, ◌-◌, ◌<◌, List}
use Rattle.std.specs.List.{Contains}
use Rattle.psy_clock.specs.declared.clock.Clock.{Clock}
use Rattle.psy_tree.specs.declared.unit.Unit.{Unit as Whole}
use Rattle.psy_meaning.specs.KnownWays.{Looks, Ways}
use Rattle.psy_meaning.specs.RingSizes.{IsDueIn, agent_timing, dates_between}
use Rattle.psy_graph.specs.declared.graph.Node.{Node}
use Rattle.psy_sizes.specs.Windows.{HasDates}

-- So many dates of a clock stand between the start and the deadline of an action of one of these nodes of an agent that may
-- look at a variable.
abbrev pub HasDatesAt : Ways → ℕ → ℕ → Clock → ℕ → List Node → ℕ → Type 0
HasDatesAt ways agent variable clock cycle nodes dates =
    (node : Node) × Contains nodes node × Looks ways agent node.point variable × HasDates clock cycle node.phase node.due dates

-- So many dates of a clock stand between the start and the deadline of an action of the agent of this number that may look at a
-- variable.
abbrev pub HasDatesOf : Whole → Ways → List (List (List ℕ)) → ℕ → Clock → ℕ → ℕ → Type 0
HasDatesOf unit ways nexts variable clock number dates =
    (point date due : ℕ)
    × Looks ways number point variable
    × IsDueIn (agent_timing unit nexts number) point date due
    × (dates ≡ dates_between clock date (date + due - 1))

-- The same of one of the agents before this one
abbrev pub HasDatesBefore : Whole → Ways → List (List (List ℕ)) → ℕ → Clock → ℕ → ℕ → Type 0
HasDatesBefore unit ways nexts variable clock agents dates = (number : ℕ) × (number < agents) × HasDatesOf unit ways nexts variable clock number dates
