-- What a trace of a plan is judged by.
use Rattle.std.specs.Prelude.{ℕ, ◌<◌, ◌≤◌, [], length, get_or}
use Rattle.psy_base.specs.declared.limits.TheConstants.{RING}
use Rattle.psy_dates.specs.declared.plan.Plan.{Plan}
use Rattle.psy_history.specs.Scripts.{order_of}
use Rattle.psy_history.specs.declared.told.Script.{Script}
use Rattle.psy_meaning.specs.Units.{IsBare}
use Rattle.psy_audit.specs.Traces.{Judged}

-- A trace of a plan: its program with the points that follow, the sizes of its rings and its last date. Ties of deadlines aren't told.
abbrev pub untied : Plan → Judged
untied plan = record { unit = plan.unit; nexts = plan.nexts; rings = plan.sizes.rings; until = plan.until; order = λ cycle. [] }

-- The same under a script, which tells the order in force at each cycle
abbrev pub judged_of : Plan → Script → Judged
judged_of plan script = record { unit = plan.unit; nexts = plan.nexts; rings = plan.sizes.rings; until = plan.until; order = order_of plan.unit script }

-- What the judge asks of a plan: its declarations keep their ranges, and each variable has a ring, of at least one place and no more than it may have.
pub record HasRings (plan : Plan) : Type 0 where
  pub bare : IsBare plan.unit
  pub some : (variable : ℕ) → variable < length plan.unit.variables → 0 < get_or plan.sizes.rings variable 0
  pub few : (variable : ℕ) → variable < length plan.unit.variables → get_or plan.sizes.rings variable 0 ≤ RING
