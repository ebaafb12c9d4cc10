-- Where a slice ends: the cycles from one on up to which nothing changes who runs.
use Rattle.std.specs.Prelude.{◌≡◌, ◌⊎◌, ℕ, zero, suc, ◌-◌, ◌*◌, ◌<◌, true, false, List, Option, Some, slice_get}
use Rattle.std.specs.List.{Contains}
use Rattle.psy_history.specs.Actions.{Action}
use Rattle.psy_history.specs.History.{history}
use Rattle.psy_history.specs.Schedule.{Turn, is_pending}
use Rattle.psy_history.specs.Processors.{processor_at}
use Rattle.psy_history.specs.Scheduled.{turns_by, turns_of}
use Rattle.psy_history.specs.declared.told.Order.{Order}
use Rattle.psy_kernel.specs.Progress.{Progress, after_cycle, after_unit, counted, order, system}

-- By agent, what the first so many cycles of its processor go to in a run, the last one first
abbrev pub turns_at : Progress → ℕ → ℕ → List (Option Turn)
turns_at p cycles agent = turns_by (system p) (order p) cycles agent

-- With the last of so many cycles an action finishes or is stopped: before that cycle it was pending, and behind it it isn't.
abbrev pub IsOverBy : Progress → ℕ → Type 0
IsOverBy p cycles = (agent : ℕ) × (r : Action) × Contains (history (system p) p.dates agent) r
    × (is_pending (turns_at p (cycles - 1) agent) r ≡ true) × (is_pending (turns_at p cycles agent) r ≡ false)

-- The same for an action of this processor
abbrev pub IsOverFor : Progress → ℕ → ℕ → Type 0
IsOverFor p processor cycles = (agent : ℕ) × (r : Action) × (processor_at p.plan.unit agent ≡ processor) × Contains (history (system p) p.dates agent) r
    × (is_pending (turns_of (system p) (order p) (cycles - 1) processor) r ≡ true)
    × (is_pending (turns_of (system p) (order p) cycles processor) r ≡ false)

-- No action of a processor's agents is pending behind the cycles done.
abbrev pub IsIdleFor : Progress → ℕ → Type 0
IsIdleFor p processor = (agent : ℕ) (r : Action) → processor_at p.plan.unit agent ≡ processor → Contains (history (system p) p.dates agent) r
    → is_pending (turns_of (system p) (order p) p.cycles processor) r ≡ false

-- With the cycle behind so many an order comes into force.
abbrev pub IsOrderedAt : Progress → ℕ → Type 0
IsOrderedAt p cycles = (place : ℕ) × (o : Order) × (slice_get p.script.orders place ≡ Some o) × (o.cycle ≡ cycles)

-- Behind so many cycles it is asked anew who runs: the next date is due, an action is over, or another order comes into force.
abbrev pub Changes : Progress → ℕ → Type 0
Changes p cycles = (cycles ≡ p.dates * p.plan.unit.quantum) ⊎ IsOverBy p cycles ⊎ IsOrderedAt p cycles

-- A slice ends behind so many cycles: the first change comes there.
pub record IsSliceEnd (p : Progress) (cycles : ℕ) : Type 0 where
  pub some : p.cycles < cycles
  pub changes : Changes p cycles
  pub first : (between : ℕ) → p.cycles < between → between < cycles → Changes p between → ⊥

-- So many units are counted, one by one.
abbrev pub counted_on : ℕ → Progress → Progress
counted_on zero p = p
counted_on (suc n) p = counted (counted_on n p)

-- So many units, one by one
abbrev pub after_units : ℕ → Progress → Progress
after_units zero p = p
after_units (suc n) p = after_unit (after_units n p)

-- So many cycles, one by one
abbrev pub after_cycles : ℕ → Progress → Progress
after_cycles zero p = p
after_cycles (suc n) p = after_cycle (after_cycles n p)
