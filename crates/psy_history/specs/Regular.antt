-- What the actions of a history keep: each begins where the one before it ended, at a date of a phase that the agent's graph knows, and
-- its code runs on, to an end or a trap within its budget, or to the last cycle of it.
use Rattle.std.specs.Prelude.{◌≡◌, ◌≢◌, ◌⊎◌, ℕ, suc, ◌+◌, ◌<◌, ◌≤◌, List, [], ◌∷◌, length, Option, Some, None, IsSome, slice_get, ⊤}
use Prim.Native.Nat.{◌∣◌}
use Rattle.std.specs.List.{All, Contains}
use Rattle.psy_code.specs.declared.code.AgentCode.{AgentCode}
use Rattle.psy_code.specs.declared.code.Code.{Code}
use Rattle.psy_code.specs.Execution.{RunState, Running, RanTo, Stuck, call_of, copy_of, next_of as next_machine, run_code, run_one}
use Rattle.psy_code.specs.Lasting.{IsOver}
use Rattle.psy_code.specs.Views.{Call, Past, Ready, Take, Send, View, ServesAll, count_in, next_in, past_of}
use Rattle.psy_tree.specs.declared.unit.Unit.{Unit as Whole}
use Rattle.psy_tree.specs.declared.unit.VarDecl.{VarDecl}
use Rattle.psy_history.specs.Actions.{Action, Next, System, Done, next_of, timing}
use Rattle.psy_meaning.specs.Alike.{started}
use Rattle.psy_history.specs.Executors.{carried_by, machine_at}
use Rattle.psy_meaning.specs.Graph.{periods}
use Rattle.psy_history.specs.History.{action_of, history}
use Rattle.psy_meaning.specs.Kept.{Receives}
use Rattle.psy_meaning.specs.Timing.{MayStart, Timing, budget_at, deadline, end_date, following}
use Rattle.psy_history.specs.Ways.{IsSentBy}
use Rattle.psy_meaning.specs.KnownWays.{Looks, Ways}

-- An action of the agent may start at this point and in the phase of this date: the date of one that may start lies whole periods before
-- or behind, of all clocks that the agent's `advance`s name.
pub record MayStartAlike (timing : Timing) (point start : ℕ) : Type 0 where
  pub met : ℕ
  pub may : MayStart timing point met
  pub apart : ℕ
  pub whole : All (λ period. period ∣ apart) (periods timing)
  pub far : (start ≡ met + apart) ⊎ (met ≡ start + apart)

-- An action of the agent: it may start there and in that phase, has that point's budget and deadline, and ends at a point that may follow.
pub record IsRegular (s : System) (agent : ℕ) (r : Action) : Type 0 where
  pub agent_is : r.agent ≡ agent
  pub known : agent < length s.unit.agents
  pub starts : MayStartAlike (timing s agent) r.point r.start
  -- it lasts as long to each next point as one that may start
  pub alike : (to : ℕ) → Contains (following (timing s agent) r.point) to
      → end_date (timing s agent) r.start to + starts.met ≡ end_date (timing s agent) starts.met to + r.start
  pub budget : r.budget ≡ budget_at (timing s agent) r.point
  pub deadline : r.deadline ≡ deadline (timing s agent) r.point r.start
  pub due : r.start < r.deadline
  -- it costs something, and may
  pub granted : 1 ≤ r.budget
  pub charged : 1 ≤ r.charge
  pub ends : (point end : ℕ) → r.verdict ≡ Done point end → Contains (following (timing s agent) r.point) point
      × (end ≡ end_date (timing s agent) r.start point) × (r.deadline ≤ end)

-- The number of the first action of an agent: 0 where it starts none
abbrev pub number_of : Option Next → ℕ
number_of None = 0
number_of (Some next) = next.number

abbrev pub first_number : System → ℕ → ℕ
first_number s agent = number_of (s.opening.starts agent)

-- The action was started at one of the first dates, behind these actions of the agent, where the next one was to start.
pub record WasStarted (s : System) (dates agent : ℕ) (before : List Action) (r : Action) : Type 0 where
  pub next : Next
  pub is_next : next_of s agent before ≡ Some next
  pub at : next.start < dates
  pub made : r ≡ action_of s (history s next.start) agent next
  pub number : r.number ≡ first_number s agent + length before

-- So was each of these actions, the last of which comes first.
abbrev pub WereStarted : System → ℕ → ℕ → List Action → Type 0
WereStarted s dates agent [] = ⊤
WereStarted s dates agent (r ∷ before) = WasStarted s dates agent before r × WereStarted s dates agent before

-- The actions of an agent that are started at the first dates
pub record AreRegular (s : System) (dates agent : ℕ) (actions : List Action) : Type 0 where
  pub were_started : WereStarted s dates agent actions
  pub each : All (IsRegular s agent) actions
  -- no more than one a date
  pub few : length actions ≤ dates

-- A system whose actions are regular: where it begins, and at each date.
pub record IsLawful (s : System) : Type 0 where
  pub opening : (agent : ℕ) (n : Next) → s.opening.starts agent ≡ Some n
      → (agent < length s.unit.agents) × MayStartAlike (timing s agent) n.point n.start
  pub actions : (dates agent : ℕ) → AreRegular s dates agent (history s dates agent)

-- ---- the code of an action

-- An action of the code that has just begun
abbrev pub begun_by : AgentCode → Action → RunState
begun_by its r = started (machine_at its r.point r.before) r.view

-- Two views answer alike what an instruction asks.
abbrev pub AnswerAlike : View → View → Option Call → Type 0
AnswerAlike view other None = ⊤
AnswerAlike view other (Some (Past variable back)) = past_of view variable back ≡ past_of other variable back
AnswerAlike view other (Some (Ready stream)) = count_in view stream ≡ count_in other stream
AnswerAlike view other (Some (Take stream)) = (count_in view stream ≡ count_in other stream) × (next_in view stream ≡ next_in other stream)
AnswerAlike view other (Some (Send sent)) = ⊤

-- What an instruction of an agent's action from a point may ask: a look that a way from there has at a variable, back by less than
-- its depth; messages of streams that the agent receives; and sends to a stream and by a clock that there are, as the ways send.
abbrev pub MayAsk : Ways → Whole → ℕ → ℕ → Option Call → Type 0
MayAsk ways unit agent point None = ⊤
MayAsk ways unit agent point (Some (Past variable back)) = (decl : VarDecl) × (slice_get unit.variables variable ≡ Some decl) × (back < decl.depth)
    × Looks ways agent point variable
MayAsk ways unit agent point (Some (Ready stream)) = Receives unit agent stream
MayAsk ways unit agent point (Some (Take stream)) = Receives unit agent stream
MayAsk ways unit agent point (Some (Send sent)) = IsSentBy ways unit sent

-- After so many instructions an action goes on: its next instruction can be executed, is the same where a view answers alike what it
-- asks, and asks what it may. Its looks were at the values that it saw from the start.
pub record Goes (s : System) (ways : Ways) (code : Code) (its : AgentCode) (r : Action) (n : ℕ) : Type 0 where
  pub state : RunState
  pub running : run_code code its (begun_by its r) n ≡ Running state
  pub next : run_code code its (begun_by its r) (suc n) ≡ run_one code its state
  pub counted : state.deeds.steps ≡ n
  pub able : next_machine code its state.view state.machine ≢ Stuck
  pub same : (view : View) → AnswerAlike view state.view (call_of code state.machine)
      → next_machine code its view state.machine ≡ next_machine code its state.view state.machine
  pub served : ServesAll state.view (call_of code state.machine)
  pub asks : MayAsk ways s.unit r.agent r.point (call_of code state.machine)
  pub pasts : state.view.pasts ≡ r.view.pasts

-- The code of an action runs to an end or a trap within its budget, or goes on until it is spent. Where it ends, the machine stands at the
-- point reached, as the next action begins, with copies of what the agent owns.
pub record Runs (s : System) (ways : Ways) (code : Code) (r : Action) : Type 0 where
  pub its : AgentCode
  pub of_code : slice_get code.agents r.agent ≡ Some its
  pub steps : ℕ
  pub last : RunState
  pub within : steps ≤ r.budget
  pub ends : IsOver (run_code code its (begun_by its r) steps) last
      ⊎ ((steps ≡ r.budget) × (run_code code its (begun_by its r) steps ≡ Running last))
  pub counted : last.deeds.steps ≡ steps
  pub some : 1 ≤ steps
  pub on_the_way : (n : ℕ) → n < steps → Goes s ways code its r n
  pub stands : (point : ℕ) → run_code code its (begun_by its r) steps ≡ RanTo point last → last.machine ≡ machine_at its point (carried_by last.machine)
  pub copies : (point variable : ℕ) (v : VarDecl) → run_code code its (begun_by its r) steps ≡ RanTo point last
      → slice_get s.unit.variables variable ≡ Some v → v.owner ≡ Some r.agent → IsSome (copy_of variable last.machine.copies)
