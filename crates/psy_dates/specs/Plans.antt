-- What is asked of a plan.
use Rattle.std.specs.Prelude.{◌≡◌, ℕ, ◌<◌, List, [], ℤ}
use Rattle.psy_base.specs.declared.edge.Edge.{Edge}
use Rattle.psy_base.specs.declared.ways.Ways.{Ways as WayLists}
use Rattle.psy_budget.specs.declared.charge.Stall.{Stall}
use Rattle.psy_history.specs.Actions.{Opening, System, plain}
use Rattle.psy_history.specs.Executors.{by_code}
use Rattle.psy_meaning.specs.BufferSizes.{AreSizes}
use Rattle.psy_meaning.specs.Demand.{IsFeasible}
use Rattle.psy_history.specs.Compiled.{AreEdgesOf, coded}
use Rattle.psy_history.specs.Fitting.{FitsBy}
use Rattle.psy_history.specs.Openings.{IsSound}
use Rattle.psy_history.specs.Processors.{edges_for, processors}
use Rattle.psy_dates.specs.declared.plan.Plan.{Plan}
use Rattle.psy_meaning.specs.KnownWays.{Listed}

-- The history of a plan's code, with these inputs and stalls
abbrev pub system_of : Plan → List (List ℤ) → (ℕ → List Stall) → System
system_of plan inputs stalls = coded plan.unit plan.code plan.nexts stalls inputs

-- The history of a plan's code that begins with an opening
abbrev pub opened_of : Plan → Opening → List (List ℤ) → (ℕ → List Stall) → System
opened_of plan opening inputs stalls = record (system_of plan inputs stalls) { opening = opening }

-- The opening of a whole run of a plan
abbrev pub whole_of : Plan → Opening
whole_of plan = plain plan.unit plan.nexts (by_code plan.code)

-- Each processor can supply what the plan's agents that are its own may demand up to its last date.
pub record IsFeasibleFor (plan : Plan) : Type 0 where
  pub graphs : List (List Edge)
  pub drawn : AreEdgesOf (system_of plan [] (λ agent. [])) graphs
  pub feasible : (processor : ℕ) → processor < processors plan.unit → IsFeasible (edges_for plan.unit processor graphs) plan.unit.quantum plan.until

-- A plan that fits: by some ways its code fits its program, the points that follow are those of the ways, buffers have the sizes that the ways
-- ask for, none of them beyond its limit, and the demand is supplied. It may have code that doesn't act as the program's statements.
pub record IsPlan (plan : Plan) : Type 0 where
  pub ways : WayLists
  pub fits : FitsBy plan.unit plan.code ways
  pub nexts : ways.nexts ≡ plan.nexts
  pub buffers : AreSizes plan.unit (Listed ways) plan.nexts plan.sizes
  pub supplied : IsFeasibleFor plan

-- A run of the plan may go on from this opening: it is sound by whatever ways the plan fits.
abbrev pub IsSoundFor : Plan → Opening → List (List ℤ) → (ℕ → List Stall) → Type 0
IsSoundFor plan opening inputs stalls = (its : IsPlan plan) → IsSound (opened_of plan opening inputs stalls) (Listed its.ways) plan.code
