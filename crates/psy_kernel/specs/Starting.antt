-- What starts at a date, and what a kernel begins with.
use Rattle.std.specs.Prelude.{◌≡◌, ℕ, ◌==◌, ◌&&◌, Bool, true, false, if◌then◌else◌, List, [], length, Option, Some, None, slice_get}
use Rattle.std.specs.Prelude.{slice_index_or, max, replicate}
use Rattle.psy_budget.specs.Charges.{Charged, after_start}
use Rattle.psy_code.specs.declared.code.Code.{Code}
use Rattle.psy_dates.specs.declared.seat.Phase.{Phase}
use Rattle.psy_dates.specs.declared.seat.Phase.TheVariants as phase
use Rattle.psy_dates.specs.declared.seat.Seat.{Seat}
use Rattle.psy_machine.specs.Stepping.{IsNew, IsOf}
use Rattle.psy_queue.specs.Order.{Queued}
use Rattle.psy_tree.specs.declared.unit.AgentDecl.{AgentDecl}
use Rattle.psy_tree.specs.declared.unit.Point.{Point}
use Rattle.psy_history.specs.declared.told.Script.{Script}
use Rattle.psy_kernel.specs.declared.engine.Runner.{Runner}
use Rattle.psy_kernel.specs.declared.engine.Server.{Server}
use Rattle.psy_kernel.specs.Standing.{ready_of}
use Rattle.psy_ready.specs.Choice.{pending_deadline}
use Rattle.psy_history.specs.Scripts.{stalls_of}
use Rattle.psy_tree.specs.Parts.{no_agent}

-- ---- before date 0

-- The charge of an agent none of whose actions has started
abbrev pub first_charge : Script → ℕ → Charged
first_charge script agent = record { stalls = stalls_of script agent; started = 0; budget = 0; consumed = 0; paid = 0 }

-- What an agent has none of whose actions has started: a new machine, its first charge, and a figure of nothing
pub record IsNewRunner (code : Code) (script : Script) (agent : ℕ) (runner : Runner) : Type 0 where
  pub new : IsNew code agent runner.machine
  pub of_code : IsOf code runner.machine
  pub charge : runner.charge ≡ first_charge script agent
  pub figure : runner.figure ≡ record { count = 0; slack = None }

-- The same of each agent
abbrev pub AreNew : Code → Script → List Runner → Type 0
AreNew code script runners = (agent : ℕ) (runner : Runner) → slice_get runners agent ≡ Some runner → IsNewRunner code script agent runner

-- A processor before its first cycle, for which none of so many agents waits, where so many orders are in force from cycle 0 on
abbrev pub first_server : ℕ → ℕ → Server
first_server agents passed = record { cycles = 0; ready = replicate agents None; passed = passed; chosen = None; stale = true }

-- ---- at a date

-- The action of the seat is pending.
abbrev pub is_acting : Phase → Bool
is_acting phase.Acting = true
is_acting _ = false

-- The action of the seat starts at the date.
abbrev pub starts_at : ℕ → Seat → Bool
starts_at date seat = is_acting seat.phase && seat.start == date

-- The budget of a point: 0 where there is none
abbrev pub budget_in : List Point → ℕ → ℕ
budget_in points point = (slice_index_or points point (record { count = 1; clock = 0; budget = 0 })).budget

-- The seat of an agent: one that waits where there is none
abbrev pub seat_at : List Seat → ℕ → Seat
seat_at seats agent = slice_index_or seats agent
    (record { phase = phase.Waiting; number = 0; point = 0; start = 0; deadline = 0; end = 0; reached = 0; trap = None })

-- The points of an agent: none where there is none
abbrev pub points_at : List AgentDecl → ℕ → List Point
points_at agents agent = (slice_index_or agents agent no_agent).points

-- The charge of an agent, once the action of its seat has started where it starts at the date
abbrev pub charge_at : ℕ → List Seat → List AgentDecl → ℕ → Charged → Charged
charge_at date seats agents agent charge = if starts_at date (seat_at seats agent) then after_start charge
    (budget_in (points_at agents agent) (seat_at seats agent).point) else charge

-- What it has then
abbrev pub runner_at : ℕ → List Seat → List AgentDecl → ℕ → Runner → Runner
runner_at date seats agents agent runner = record runner { charge = charge_at date seats agents agent runner.charge }

-- The deadline for which it waits then
abbrev pub deadline_at : ℕ → List Seat → ℕ → Option ℕ → Option ℕ
deadline_at date seats agent waits = if starts_at date (seat_at seats agent) then Some (seat_at seats agent).deadline else waits

-- The processor of an agent: the first where there is no agent
abbrev pub home_at : List AgentDecl → ℕ → ℕ
home_at agents agent = (slice_index_or agents agent no_agent).processor

-- The deadline for which an agent waits for a processor then
abbrev pub deadline_on : ℕ → List AgentDecl → List Seat → ℕ → ℕ → Option ℕ → Option ℕ
deadline_on date agents seats processor agent waits = if home_at agents agent == processor then deadline_at date seats agent waits else waits

-- The deadline for which an agent waits for its processor
abbrev pub waits_in : List AgentDecl → List Server → ℕ → Option ℕ
waits_in agents servers agent = pending_deadline (ready_of (slice_get servers (home_at agents agent))) agent

-- The greatest number of messages that a stream held, with those of its queue
abbrev pub held_at : List Queued → ℕ → ℕ → ℕ
held_at queues stream most = max most (length (slice_index_or queues stream (record { size = 0; messages = [] })).messages)
