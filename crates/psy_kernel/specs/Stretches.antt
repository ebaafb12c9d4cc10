-- Many cycles in a row that go to one action: what they leave, and how far back rings are reached for with them.
use Rattle.std.specs.Prelude.{◌≡◌, ℕ, zero, suc, ◌+◌, ◌-◌, ◌<◌, ◌≤◌, ◌==◌, true, if◌then◌else◌}
use Rattle.std.specs.Prelude.{Bool, List, ◌∷◌, length, get_or, slice_get, Option, Some, None, ℤ}
use Rattle.psy_budget.specs.Charges.{Charged, tick_of}
use Rattle.psy_budget.specs.declared.charge.Stall.{Stall}
use Rattle.psy_budget.specs.declared.charge.Tick.TheVariants as tick
use Rattle.psy_code.specs.declared.code.Code.{Code}
use Rattle.psy_code.specs.declared.look.Sent.{Sent}
use Rattle.psy_dates.specs.declared.plan.Plan.{Plan}
use Rattle.psy_dates.specs.declared.seat.Seat.{Seat}
use Rattle.psy_dates.specs.Outboxes.{Outboxed}
use Rattle.psy_dates.specs.Plans.{opened_of}
use Rattle.psy_history.specs.Actions.{Action, Opening, System}
use Rattle.psy_history.specs.History.{history}
use Rattle.psy_history.specs.Processors.{processor_at}
use Rattle.psy_history.specs.Schedule.{Turn, is_pending, turn_of, work}
use Rattle.psy_history.specs.Scheduled.{gone_to}
use Rattle.psy_history.specs.Summary.{reach}
use Rattle.psy_machine.specs.declared.machine.Step.{Step}
use Rattle.psy_machine.specs.declared.machine.Step.TheVariants as step
use Rattle.psy_machine.specs.Stepping.{AgentMachine}
use Rattle.psy_queue.specs.Order.{Queued}
use Rattle.psy_tree.specs.declared.unit.Unit.{Unit as Whole}
use Rattle.psy_kernel.specs.declared.engine.Runner.{Runner}
use Rattle.psy_kernel.specs.declared.engine.advance.Gone.{Gone}
use Rattle.psy_kernel.specs.declared.engine.advance.Gone.TheVariants as gone
use Rattle.psy_kernel.specs.declared.engine.stretch.Span.{Span}
use Rattle.psy_kernel.specs.Acting.{AfterCycle, HasDoneBy, IsLookIn, IsOfCode}
use Rattle.psy_kernel.specs.Cycles.{ActsIn, AreQueuesOf, AreRingsOf, BoxStands, IsGiven, IsNear, LooksBack, OneStands, reach_by}
use Rattle.psy_kernel.specs.Seeing.{Sight, sight_in}
use Rattle.psy_kernel.specs.Standing.{HasDone, IsRunning, charge_after}

-- ---- many cycles

-- These many cycles in a row go to one turn, the last one first.
abbrev pub given_to : Option Turn → ℕ → List (Option Turn) → List (Option Turn)
given_to turn zero turns = turns
given_to turn (suc n) turns = turn ∷ given_to turn n turns

-- By agent, what the cycles of its processor went to, where these many more of this processor in a row go to one turn
abbrev pub given_on : Whole → ℕ → Option Turn → ℕ → (ℕ → List (Option Turn)) → ℕ → List (Option Turn)
given_on unit processor turn zero turns = turns
given_on unit processor turn (suc n) turns = gone_to unit processor turn (given_on unit processor turn n turns)

-- One cycle or more of an action that had so many leave what the last of them leaves.
abbrev pub AfterCycles : System → Code → Action → ℕ → ℕ → Gone → Charged → AgentMachine → Type 0
AfterCycles s code r had cycles = AfterCycle s code r (had + cycles - 1)

-- The same of what it sent and took
abbrev pub HasDoneIn : System → Code → Action → ℕ → ℕ → List Sent → List ℕ → Gone → Type 0
HasDoneIn s code r had cycles = HasDoneBy s code r (had + cycles - 1)

-- ---- an action on its way

-- The code of an action that had so many cycles, all within its budget, goes on behind the instructions that these paid, and it did
-- what they did.
pub record IsOnWay (s : System) (code : Code) (r : Action) (had : ℕ) (machine : AgentMachine) (sends : List Sent) (taken : List ℕ) : Type 0 where
  pub within : had ≤ r.budget
  pub agent : machine.agent ≡ r.agent
  pub running : IsRunning code r (charge_after s r had).paid machine
  pub did : HasDone s code r (charge_after s r had).paid sends taken

-- An action that had so many cycles may have more, up to so many in all, at a date: with each of them that it gets it sees what it may
-- look at, and looks no further back than can be counted.
pub record MayGoOn (s : System) (code : Code) (r : Action) (had upto start date : ℕ) (machine : AgentMachine) (sight : Sight) (taken : List ℕ)
    (outbox : Outboxed) : Type 0 where
  pub of_code : IsOfCode s code r
  pub on_way : IsOnWay s code r had machine outbox.sends taken
  pub started : start ≡ r.start
  pub counted : length taken ≡ length s.unit.streams
  pub acts : (now : ℕ) → had ≤ now → now < upto → now < work r → (taken : List ℕ) (after : Outboxed) → length taken ≡ length s.unit.streams
      → after.size ≡ outbox.size → HasDone s code r (charge_after s r now).paid after.sends taken → ActsIn s code r now sight taken after
  pub near : (now : ℕ) → had ≤ now → now < upto → now < work r → (look : Option (ℕ × ℕ)) → IsLookIn s code r now look → IsNear s r.start date look

-- Each of these cycles pays an instruction.
abbrev pub AllPay : System → Action → ℕ → ℕ → Type 0
AllPay s r had upto = (now : ℕ) → had ≤ now → now < upto → tick_of (charge_after s r now) ≡ tick.Paid

-- By how many cycles the action had and by variable, how far back rings are reached for: with each of these cycles as its look says
abbrev pub AreReaches : System → Code → Action → ℕ → ℕ → ℕ → (ℕ → ℕ → Option ℕ) → Type 0
AreReaches s code r had upto date reach = (now variable : ℕ) (look : Option (ℕ × ℕ)) → had ≤ now → now < upto → now < work r
    → IsLookIn s code r now look → reach (suc now) variable ≡ reach_by s variable r.start date look (reach now variable)

-- An action whose budget isn't spent goes on.
abbrev pub gone_on : Charged → Gone
gone_on charge = if charge.consumed == charge.budget then gone.Spent else gone.Going

-- What an action comes to with a step of its machine
abbrev pub gone_by : Charged → Step → Gone
gone_by charge step.Went = gone_on charge
gone_by charge (step.Ended point) = gone.Ended point
gone_by charge (step.Trapped kind) = gone.Trapped kind

-- With these cycles of an action, out of at most so many, rings are reached for as its looks say.
abbrev pub ReachOn : System → Code → Action → ℕ → ℕ → ℕ → ℕ → List (Option ℕ) → List (Option ℕ) → Type 0
ReachOn s code r had most date cycles reaches reaches' = (reach : ℕ → ℕ → Option ℕ) → AreReaches s code r had (had + most) date reach → (variable : ℕ)
    → slice_get reaches variable ≡ Some (reach had variable) → slice_get reaches' variable ≡ Some (reach (had + cycles) variable)

-- What cycles in a row of an action that had so many leave, out of at most so many: what it has and did, and how far back rings are reached for
pub record Passes (s : System) (code : Code) (r : Action) (had most date cycles : ℕ) (gone : Gone) (charge : Charged) (machine : AgentMachine)
    (sends : List Sent) (taken : List ℕ) (reaches reaches' : List (Option ℕ)) : Type 0 where
  pub after : AfterCycles s code r had cycles gone charge machine
  pub did : HasDoneIn s code r had cycles sends taken gone
  pub reached : ReachOn s code r had most date cycles reaches reaches'

-- The same where each of them paid a step of its machine: all were done and it is on its way, or it is over with the last step.
pub record Steps (s : System) (code : Code) (r : Action) (had most date count : ℕ) (answer : Step) (machine : AgentMachine) (sends : List Sent)
    (taken : List ℕ) (reaches reaches' : List (Option ℕ)) : Type 0 where
  pub on_way : answer ≡ step.Went → IsOnWay s code r (had + most) machine sends taken
  pub reached : ReachOn s code r had most date count reaches reaches'
  pub over : (answer ≡ step.Went → ⊥) → Passes s code r had most date count (gone_by (charge_after s r (had + count)) answer)
      (charge_after s r (had + count)) machine sends taken reaches reaches'

-- ---- in a run of a plan

-- What the agent has whose action gets the next cycle, and what the action sees with it and with each of the next so many that it gets
pub record MayLast (plan : Plan) (opening : Opening) (inputs : List (List ℤ)) (stalls : ℕ → List Stall) (turns : ℕ → List (Option Turn))
    (span : Span) (r : Action) (before : List Action) (runner : Runner) (waits : Option ℕ)
    (seat : Seat) (ended : List ℤ) (rings : List (List ℤ)) (queues : List Queued) (taken : List ℕ) (outbox : Outboxed) : Type 0 where
  pub given : IsGiven plan opening inputs stalls (turns span.agent) span.date span.cycle span.agent r before runner waits seat ended
      (sight_in plan.unit rings queues span.agent seat.start span.date) taken outbox
  pub ringed : AreRingsOf (opened_of plan opening inputs stalls) plan.sizes (span.date + 1) rings
  pub queued : AreQueuesOf (opened_of plan opening inputs stalls) plan.sizes (span.date + 1) queues
  pub counted : length taken ≡ length plan.unit.streams
  pub sized : outbox.size ≡ get_or plan.sizes.outboxes r.agent 0
  pub looks : (k : ℕ) → k < span.most → is_pending (given_to (turn_of (Some r)) k (turns span.agent)) r ≡ true
      → LooksBack (opened_of plan opening inputs stalls) plan.sizes plan.code
      (given_on plan.unit (processor_at plan.unit r.agent) (turn_of (Some r)) k turns) span.date r

-- What the cycles in a row leave that go to an agent's last action: each found it pending, and it goes on or is over behind them.
pub record Lasts (plan : Plan) (opening : Opening) (inputs : List (List ℤ)) (stalls : ℕ → List Stall) (turns : ℕ → List (Option Turn))
    (date agent : ℕ) (r : Action) (before : List Action) (waits : Option ℕ) (cycles : ℕ) (goes : Bool) (runner : Runner) (seat : Seat) (ended : List ℤ)
    (sends : List Sent) (taken : List ℕ) (reaches reaches' : List (Option ℕ)) : Type 0 where
  pub pends : (k : ℕ) → k < cycles → is_pending (given_to (turn_of (Some r)) k (turns agent)) r ≡ true
  pub is_on : is_pending (given_to (turn_of (Some r)) cycles (turns agent)) r ≡ goes
  pub has : OneStands (opened_of plan opening inputs stalls) plan.code (given_to (turn_of (Some r)) cycles (turns agent)) plan.until date agent
      (r ∷ before) runner (if goes then waits else None) seat ended
  pub boxed : BoxStands (opened_of plan opening inputs stalls) plan.code (given_to (turn_of (Some r)) cycles (turns agent)) date agent (r ∷ before)
      sends taken
  pub reached : (variable : ℕ)
      → slice_get reaches variable ≡ Some (reach (opened_of plan opening inputs stalls) turns
      (history (opened_of plan opening inputs stalls) (date + 1)) variable)
      → slice_get reaches' variable ≡ Some (reach (opened_of plan opening inputs stalls)
      (given_on plan.unit (processor_at plan.unit r.agent) (turn_of (Some r)) cycles turns)
      (history (opened_of plan opening inputs stalls) (date + 1)) variable)
