-- How far a run is, what is due next, and what was told.
use Rattle.std.specs.Prelude.{◌≡◌, ℕ, ◌+◌, ◌*◌, ◌==◌, if◌then◌else◌, List, get_or, take, Option, None, Some, ℤ}
use Rattle.std.specs.List.{list_any}
use Rattle.psy_history.specs.Actions.{Opening, System}
use Rattle.psy_history.specs.Lines.{Event}
use Rattle.psy_dates.specs.Beginnings.{beginning_of}
use Rattle.psy_dates.specs.declared.opening.Opening.{Opening as State}
use Rattle.psy_dates.specs.declared.plan.Plan.{Plan}
use Rattle.psy_dates.specs.Plans.{opened_of}
use Rattle.psy_history.specs.declared.told.Script.{Script}
use Rattle.psy_kernel.specs.declared.stage.Stage.{Stage}
use Rattle.psy_kernel.specs.declared.stage.Stage.TheVariants.{DateDue, CycleDue, UnitDue, Over}
use Rattle.psy_history.specs.Processors.{processor_at, processors}
use Rattle.psy_history.specs.Schedule.{Turn}
use Rattle.psy_history.specs.Scheduled.{turns_of}
use Rattle.psy_history.specs.Scripts.{order_of, round_of, stalls_of}
use Rattle.psy_kernel.specs.Engines.{lines_at, told_at}
use Rattle.psy_kernel.specs.Texts.{summary_of}
use Rattle.psy_kernel.specs.declared.seen.Seen.{Seen}
use Rattle.psy_kernel.specs.Units.{IsLookAt, served_at}

-- A unit of a cycle: that of this processor
pub record UnitOf : Type 0 where
  pub processor : ℕ
  pub cycle : ℕ

-- A run of a plan with these inputs and this script, from date 0 on or from a state
pub record Progress : Type 0 where
  pub plan : Plan
  pub inputs : List (List ℤ)
  pub script : Script
  pub opening : Option State
  -- how many dates and cycles were done, and how many units of the cycle that comes next: one for each of the first processors of its round
  pub dates : ℕ
  pub cycles : ℕ
  pub units : ℕ
  -- how many lines of the date done last were given
  pub given : ℕ
  -- the unit that was done last; none where the last step was no unit, and before the first
  pub last : Option UnitOf

-- Where the run begins
abbrev pub beginning : Progress → Opening
beginning p = beginning_of p.plan p.opening

-- The history that the run stands for
abbrev pub system : Progress → System
system p = opened_of p.plan (beginning p) p.inputs (stalls_of p.script)

-- The order of ties, by cycle
abbrev pub order : Progress → ℕ → List ℕ
order p = order_of p.plan.unit p.script

-- Nothing was done.
abbrev pub booted : Plan → List (List ℤ) → Script → Progress
booted plan inputs script = record { plan = plan; inputs = inputs; script = script; opening = None; dates = 0; cycles = 0; units = 0; given = 0; last = None }

-- Nothing was done behind the date of a state, nor, where there is none, before date 0.
abbrev pub began : Plan → List (List ℤ) → Script → Option State → Progress
began plan inputs script None = booted plan inputs script
began plan inputs script (Some state) = record (booted plan inputs script) {
  opening = Some state;
  dates = state.date + 1;
  cycles = state.date * plan.unit.quantum;
}

-- The processor whose unit of the cycle that comes next is due: the next one of the round in force
abbrev pub next_processor : Progress → ℕ
next_processor p = get_or (round_of p.plan.unit p.script p.cycles) p.units 0

-- The processors that had their unit of the cycle that comes next: the first of its round
abbrev pub had_unit : Progress → List ℕ
had_unit p = take p.units (round_of p.plan.unit p.script p.cycles)

-- How many cycles of a processor were done: one more where it had its unit of the cycle that comes next
abbrev pub cycles_on : Progress → ℕ → ℕ
cycles_on p processor = if list_any (λ n. n == processor) (had_unit p) then p.cycles + 1 else p.cycles

-- What is due next: nothing where date `until` was done; a date where all cycles before it were; else a cycle, or a unit of one that was begun.
abbrev pub stage_of : Progress → Stage
stage_of p =
    if p.dates == p.plan.until + 1 then Over
    else if p.cycles == p.dates * p.plan.unit.quantum then DateDue p.dates
    else if p.units == 0 then CycleDue p.cycles
    else UnitDue p.cycles (next_processor p)

-- The last step was no unit.
abbrev pub at_rest : Progress → Progress
at_rest p = record p { last = None }

-- One date more, none of whose lines were given
abbrev pub after_date : Progress → Progress
after_date p = record p { dates = p.dates + 1; given = 0; last = None }

-- One cycle more
abbrev pub after_cycle : Progress → Progress
after_cycle p = record p { cycles = p.cycles + 1; last = None }

-- All cycles before the next date
abbrev pub up_to_date : Progress → Progress
up_to_date p = record p { cycles = p.dates * p.plan.unit.quantum; last = None }

-- One cycle more is counted.
abbrev pub counted_cycle : Progress → Progress
counted_cycle p = record p { cycles = p.cycles + 1 }

-- One unit more is counted: that of the last processor ends its cycle.
abbrev pub counted : Progress → Progress
counted p = if p.units + 1 == processors p.plan.unit then record p { cycles = p.cycles + 1; units = 0 } else record p { units = p.units + 1 }

-- One unit more, that of the next processor
abbrev pub after_unit : Progress → Progress
after_unit p = record (counted p) { last = Some (record { processor = next_processor p; cycle = p.cycles }) }

-- One line more
abbrev pub after_line : Progress → Progress
after_line p = record p { given = p.given + 1 }

-- What is told of the date done last
abbrev pub told : Progress → List Event
told p = told_at (system p) p.dates

-- The lines of the date done last
abbrev pub lines_told : Progress → List (List ℕ)
lines_told p = lines_at (system p) p.dates

-- The lines of the summary
abbrev pub summary_told : Progress → List (List ℕ)
summary_told p = summary_of (system p) (order p) p.plan.sizes p.plan.until

-- ---- the unit that was done last

-- The agent that a unit went to; none where there was no unit, or it went to nobody
abbrev pub ran_in : Progress → Option UnitOf → Option ℕ
ran_in p None = None
ran_in p (Some unit) = served_at (system p) (order p) unit.processor unit.cycle

-- What the unit looked at that was done last: nothing where there was no unit
abbrev pub IsSeenIn : Progress → Option UnitOf → Option Seen → Type 0
IsSeenIn p None seen = seen ≡ None
IsSeenIn p (Some unit) seen = IsLookAt (system p) p.plan (order p) unit.processor unit.cycle seen

-- ---- what is shared

-- By agent, what the cycles done of its processor went to
abbrev pub turns_so_far : Progress → ℕ → List (Option Turn)
turns_so_far p agent = turns_of (system p) (order p) (cycles_on p (processor_at p.plan.unit agent)) (processor_at p.plan.unit agent)
