-- What a unit of a processor goes to, and what it looks at.
use Rattle.std.specs.Prelude.{◌≡◌, ℕ, suc, ◌+◌, ◌/◌, List, [], ◌∷◌, Option, Some, None, IfSome, IsSome, get_or, length, ◌<◌}
use Rattle.psy_base.specs.declared.sizes.Sizes.{Sizes}
use Rattle.psy_clock.specs.Dates.{count}
use Rattle.psy_code.specs.Views.{past_of}
use Rattle.psy_dates.specs.declared.plan.Plan.{Plan}
use Rattle.psy_history.specs.Actions.{Action, System, publishing}
use Rattle.psy_history.specs.History.{history}
use Rattle.psy_history.specs.Processors.{served}
use Rattle.psy_history.specs.Rings.{slot_of}
use Rattle.psy_history.specs.Schedule.{Turn, pending, soonest, units}
use Rattle.psy_history.specs.Scheduled.{turns_of}
use Rattle.psy_kernel.specs.Acting.{IsLookIn}
use Rattle.psy_kernel.specs.declared.engine.Runner.{Runner}
use Rattle.psy_kernel.specs.declared.seen.Seen.{Seen}
use Rattle.psy_kernel.specs.Seeing.{Sight, view_in}
use Rattle.psy_kernel.specs.Standing.{IsRunning, charge_after}

-- ---- who gets it

-- The turn that came last
abbrev pub last_turn : List (Option Turn) → Option Turn
last_turn [] = None
last_turn (turn ∷ before) = turn

-- The agent of a turn
abbrev pub agent_of : Option Turn → Option ℕ
agent_of None = None
agent_of (Some turn) = Some turn.agent

-- The agent that a cycle of a processor goes to; none where it goes to nobody
abbrev pub served_at : System → (ℕ → List ℕ) → ℕ → ℕ → Option ℕ
served_at s order processor cycle = agent_of (last_turn (turns_of s order (suc cycle) processor))

-- The action that a cycle of a processor goes to: of those that are pending, the one of the earliest deadline
abbrev pub action_at : System → (ℕ → List ℕ) → ℕ → ℕ → Option Action
action_at s order processor cycle =
    soonest (pending (served s.unit processor (order cycle)) (turns_of s order cycle processor) (history s (cycle / s.unit.quantum + 1)))

-- ---- what it looks at

-- An action finds this value in this place, with buffers of these sizes: the value that it sees from its start on, and the place of the date so far
-- back, of those up to its start.
pub record IsFound (s : System) (sizes : Sizes) (r : Action) (seen : Seen) : Type 0 where
  pub slot : seen.slot ≡ slot_of (get_or sizes.rings seen.variable 0) (count (publishing s seen.variable) r.start) seen.back
  pub value : past_of r.view seen.variable seen.back ≡ Some seen.value

-- The variable that is looked at, and how far back
abbrev pub asked_of : Option Seen → Option (ℕ × ℕ)
asked_of None = None
asked_of (Some seen) = Some (seen.variable, seen.back)

-- The look of the next cycle of an action that had so many: what the instruction looks at that the cycle pays, where it does; with what is found there.
abbrev pub IsLookOf : System → Plan → Action → ℕ → Option Seen → Type 0
IsLookOf s plan r had seen = IsLookIn s plan.code r had (asked_of seen) × IfSome seen (IsFound s plan.sizes r)

-- The same of a cycle that goes to an action, where these went before; one that goes to nobody looks at nothing.
abbrev pub IsLookBy : System → Plan → List (Option Turn) → Option Action → Option Seen → Type 0
IsLookBy s plan turns None seen = seen ≡ None
IsLookBy s plan turns (Some r) seen = IsLookOf s plan r (units r.agent r.number turns) seen

-- The look of a cycle of a processor
abbrev pub IsLookAt : System → Plan → (ℕ → List ℕ) → ℕ → ℕ → Option Seen → Type 0
IsLookAt s plan order processor cycle seen = IsLookBy s plan (turns_of s order cycle processor) (action_at s order processor cycle) seen

-- ---- an action that gets it

-- An action that had so many cycles, with what its agent has: where its next one makes a look, it sees the value of a variable that there is.
pub record MaySee (s : System) (plan : Plan) (r : Action) (had : ℕ) (runner : Runner) (sight : Sight) (start : ℕ) : Type 0 where
  pub charged : runner.charge ≡ charge_after s r had
  pub running : IsRunning plan.code r (charge_after s r had).paid runner.machine
  pub started : start ≡ r.start
  pub known : (variable back : ℕ) → IsLookIn s plan.code r had (Some (variable, back)) → variable < length plan.unit.variables
  pub shown : (variable back : ℕ) → IsLookIn s plan.code r had (Some (variable, back))
      → IsSome (past_of (view_in sight.rings sight.variables sight.clocks sight.start sight.date []) variable back)
  pub alike : (variable back : ℕ) → IsLookIn s plan.code r had (Some (variable, back))
      → past_of (view_in sight.rings sight.variables sight.clocks sight.start sight.date []) variable back ≡ past_of r.view variable back
