-- How far the processors of a run are, each by itself: between two dates one may have done more cycles than another.
use Rattle.std.specs.Prelude.{◌≡◌, ◌⊎◌, ℕ, zero, suc, ◌+◌, ◌-◌, ◌*◌, true, false, nat_lt, if◌then◌else◌}
use Rattle.std.specs.Prelude.{List, [], get_or, replicate, Option, None, Some, slice_get, ℤ}
use Rattle.std.specs.List.{Contains}
use Rattle.psy_history.specs.Actions.{Action, Opening, System}
use Rattle.psy_history.specs.History.{history}
use Rattle.psy_history.specs.Lines.{Event, events}
use Rattle.psy_history.specs.Processors.{processor_at, processors}
use Rattle.psy_history.specs.Schedule.{Turn, is_pending}
use Rattle.psy_history.specs.Scheduled.{turns_of}
use Rattle.psy_history.specs.Scripts.{order_of, stalls_of}
use Rattle.psy_history.specs.declared.told.Order.{Order}
use Rattle.psy_history.specs.declared.told.Script.{Script}
use Rattle.psy_dates.specs.Beginnings.{beginning_of}
use Rattle.psy_dates.specs.declared.opening.Opening.{Opening as State}
use Rattle.psy_dates.specs.declared.plan.Plan.{Plan}
use Rattle.psy_dates.specs.Plans.{opened_of}
use Rattle.psy_kernel.specs.Texts.{lines_of, summary_of}

-- A run of a plan with these inputs and this script, from date 0 on or from a state
pub record EngineState : Type 0 where
  pub plan : Plan
  pub inputs : List (List ℤ)
  pub script : Script
  pub opening : Option State
  -- how many dates were done
  pub dates : ℕ
  -- by processor, how many of its cycles were done
  pub done : List ℕ
  -- how many lines of the date done last were given
  pub given : ℕ

-- Where the run begins
abbrev pub opening_of : EngineState → Opening
opening_of e = beginning_of e.plan e.opening

-- The history that the run stands for
abbrev pub history_of : EngineState → System
history_of e = opened_of e.plan (opening_of e) e.inputs (stalls_of e.script)

-- The order of ties, by cycle
abbrev pub ties : EngineState → ℕ → List ℕ
ties e = order_of e.plan.unit e.script

-- Nothing was done.
abbrev pub begun : Plan → List (List ℤ) → Script → EngineState
begun plan inputs script =
    record { plan = plan; inputs = inputs; script = script; opening = None; dates = 0; done = replicate (processors plan.unit) 0; given = 0 }

-- The same behind the date of a state, where all cycles before that date were done
abbrev pub begun_behind : Plan → List (List ℤ) → Script → State → EngineState
begun_behind plan inputs script state = record (begun plan inputs script) {
  opening = Some state;
  dates = state.date + 1;
  done = replicate (processors plan.unit) (state.date * plan.unit.quantum);
}

-- The first cycle of the date that comes next
abbrev pub next_date : EngineState → ℕ
next_date e = e.dates * e.plan.unit.quantum

-- How many cycles of a processor were done
abbrev pub done_on : EngineState → ℕ → ℕ
done_on e processor = get_or e.done processor 0

-- What the first so many cycles of a processor go to
abbrev pub turns_on : EngineState → ℕ → ℕ → List (Option Turn)
turns_on e processor cycles = turns_of (history_of e) (ties e) cycles processor

-- By agent, what the cycles done of its processor went to
abbrev pub turns_done : EngineState → ℕ → List (Option Turn)
turns_done e agent = turns_on e (processor_at e.plan.unit agent) (done_on e (processor_at e.plan.unit agent))

-- With the last of so many cycles of a processor an action finishes or is stopped: before that cycle it was pending, and behind it it isn't.
abbrev pub IsOverOn : EngineState → ℕ → ℕ → Type 0
IsOverOn e processor cycles = (agent : ℕ) × (r : Action) × (processor_at e.plan.unit agent ≡ processor) × Contains (history (history_of e) e.dates agent) r
    × (is_pending (turns_on e processor (cycles - 1)) r ≡ true) × (is_pending (turns_on e processor cycles) r ≡ false)

-- Of the actions of a processor's agents none is pending behind the cycles that it did.
abbrev pub IsIdleOn : EngineState → ℕ → Type 0
IsIdleOn e processor = (agent : ℕ) (r : Action) → processor_at e.plan.unit agent ≡ processor → Contains (history (history_of e) e.dates agent) r
    → is_pending (turns_on e processor (done_on e processor)) r ≡ false

-- With the cycle behind so many an order comes into force.
abbrev pub IsOrderedBy : EngineState → ℕ → Type 0
IsOrderedBy e cycles = (place : ℕ) × (o : Order) × (slice_get e.script.orders place ≡ Some o) × (o.cycle ≡ cycles)

-- Behind so many cycles of a processor it is asked anew who runs there: the next date is due, an action is over, or another order comes into force.
abbrev pub ChangesOn : EngineState → ℕ → ℕ → Type 0
ChangesOn e processor cycles = (cycles ≡ next_date e) ⊎ IsOverOn e processor cycles ⊎ IsOrderedBy e cycles

-- What is told of the last of so many dates: nothing before the first, nor of a date that was done before
abbrev pub told_at : System → ℕ → List Event
told_at s zero = []
told_at s (suc date) = if nat_lt date s.opening.dates then [] else events s date

-- What is told of the date done last
abbrev pub told_of : EngineState → List Event
told_of e = told_at (history_of e) e.dates

-- The lines of the last of so many dates: none before the first, nor of a date that was done before
abbrev pub lines_at : System → ℕ → List (List ℕ)
lines_at s zero = []
lines_at s (suc date) = if nat_lt date s.opening.dates then [] else lines_of s date

-- The lines of the date done last
abbrev pub lines_on_date : EngineState → List (List ℕ)
lines_on_date e = lines_at (history_of e) e.dates

-- The lines of the summary
abbrev pub summary_on : EngineState → List (List ℕ)
summary_on e = summary_of (history_of e) (ties e) e.plan.sizes e.plan.until
