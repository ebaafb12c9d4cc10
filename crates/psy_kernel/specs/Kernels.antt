-- When a kernel stands for its run: each processor did the cycles done, and its unit of the next one where its turn has come.
use Rattle.std.specs.Prelude.{◌≡◌, ◌==◌, ℕ, ◌-◌, ◌<◌, ◌≤◌, if◌then◌else◌, List, get_or, length, Option, None, Some, slice_get, ⊤}
use Rattle.std.specs.List.{range_with_len}
use Rattle.psy_dates.specs.declared.plan.Plan.{Plan}
use Rattle.psy_dates.specs.Plans.{IsPlan}
use Rattle.psy_history.specs.Actions.{System}
use Rattle.psy_history.specs.Processors.{processors}
use Rattle.psy_history.specs.Scripts.{IsScript}
use Rattle.psy_history.specs.declared.told.Round.{Round}
use Rattle.psy_kernel.specs.Engines.{next_date}
use Rattle.psy_kernel.specs.Progress.{Progress, UnitOf, cycles_on, order, system}
use Rattle.psy_kernel.specs.Units.{IsLookAt, served_at}
use Rattle.psy_kernel.specs.declared.kernel.LastUnit.{LastUnit}
use Rattle.psy_kernel.specs.Standing.{InTick}
use Rattle.psy_kernel.specs.declared.kernel.Kernel.TheInside.{Inside}

-- Which unit was done last
abbrev pub unit_of : Option LastUnit → Option UnitOf
unit_of None = None
unit_of (Some last) = Some (record { processor = last.processor; cycle = last.cycle })

-- How far the run is
abbrev pub progress_of : Inside → Progress
progress_of k = record {
  plan = k.engine.plan;
  inputs = k.engine.inputs;
  script = k.engine.script;
  opening = k.engine.opening;
  dates = k.engine.dates;
  cycles = k.cycles;
  units = k.units;
  given = k.engine.given;
  last = unit_of k.last;
}

-- The round of the last of so many rounds that have come into force, and the first one where none has
abbrev pub round_by : List ℕ → List Round → ℕ → List ℕ
round_by declared rounds turned = if turned == 0 then declared else (get_or rounds (turned - 1) (record { cycle = 0; processors = declared })).processors

-- So many of the rounds have come into force by a cycle, and the others haven't.
pub record AreTurned (rounds : List Round) (turned cycle : ℕ) : Type 0 where
  pub within : turned ≤ length rounds
  pub come : (place : ℕ) (r : Round) → slice_get rounds place ≡ Some r → place < turned → r.cycle ≤ cycle
  pub ahead : (place : ℕ) (r : Round) → slice_get rounds place ≡ Some r → turned ≤ place → cycle < r.cycle

-- It is known which agent ran with the unit that was done last, and what it looked at.
abbrev pub LastStands : System → Plan → (ℕ → List ℕ) → Option LastUnit → Type 0
LastStands s plan order None = ⊤
LastStands s plan order (Some last) = (last.ran ≡ served_at s order last.processor last.cycle) × IsLookAt s plan order last.processor last.cycle last.seen

-- A kernel whose processors did just the cycles and units that it counts
pub record KernelStands (k : Inside) : Type 0 where
  pub plan : IsPlan k.engine.plan
  pub script : IsScript k.engine.plan.unit k.engine.script
  pub in_tick : InTick k.engine.plan.unit.quantum k.engine.plan.until k.engine.dates k.cycles
  pub units : k.units < processors k.engine.plan.unit
  pub inside : 1 ≤ k.units → k.cycles < next_date k.engine
  pub served : length k.engine.done ≡ processors k.engine.plan.unit
  pub exact : (processor done : ℕ) → slice_get k.engine.done processor ≡ Some done → done ≡ cycles_on (progress_of k) processor
  pub declared : k.declared.items ≡ range_with_len 0 (processors k.engine.plan.unit)
  pub turned : AreTurned k.engine.script.rounds k.turned k.cycles
  pub last : LastStands (system (progress_of k)) k.engine.plan (order (progress_of k)) k.last
