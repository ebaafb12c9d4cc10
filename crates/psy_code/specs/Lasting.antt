-- What a run promises on the way to its end: it is never stuck, and asks only what its view serves.
use Rattle.std.specs.Prelude.{◌≡◌, ◌≢◌, ℕ, suc, ◌+◌, ◌≤◌, ◌<◌, List, ◌++◌, map, replicate, length}
use Rattle.psy_code.specs.declared.code.Code.{Code}
use Rattle.psy_code.specs.declared.code.AgentCode.{AgentCode}
use Rattle.psy_code.specs.declared.look.Sent.{Sent}
use Rattle.psy_code.specs.Views.{Deeds, Looked, ServesAll}
use Rattle.psy_code.specs.Execution.{Machine, RunState, Run, Running, RanTo, TrappedBy, Went, Stuck, next_of, call_of, deeds_then, run_one, run_code, standing}

-- A run that ended or trapped, with this state
abbrev pub IsOver : Run → RunState → Type 0
IsOver (RanTo point t) s = s ≡ t
IsOver (TrappedBy kind t) s = s ≡ t
IsOver run s = ⊥

-- What was done is the front of all that was done.
pub record IsFront (some all : Deeds) : Type 0 where
  pub steps : some.steps ≤ all.steps
  pub looks : (more : List Looked) × (all.looks ≡ some.looks ++ more)
  pub sends : (more : List Sent) × (all.sends ≡ some.sends ++ more)
  pub takes : (more : List ℕ) × (all.takes ≡ some.takes ++ more)

-- After so many instructions the run from a state goes on: its next instruction can be executed, what that one asks is there
-- to see, and what was done is the front of all that is done in the end; so it is with that instruction, where it goes on.
pub record GoesOn (code : Code) (agent : AgentCode) (s : RunState) (n : ℕ) (all : Deeds) : Type 0 where
  pub state : RunState
  pub running : run_code code agent s n ≡ Running state
  pub next : run_code code agent s (suc n) ≡ run_one code agent state
  pub counted : state.deeds.steps ≡ s.deeds.steps + n
  pub able : next_of code agent state.view state.machine ≢ Stuck
  pub served : ServesAll state.view (call_of code state.machine)
  pub front : IsFront state.deeds all
  pub behind : (m : Machine) → next_of code agent state.view state.machine ≡ Went m → IsFront (deeds_then state.deeds (call_of code state.machine)) all

-- A run that is over after so many instructions, or was before: it lasted as many as were counted, at each of which it went on.
pub record Lasted (code : Code) (agent : AgentCode) (s : RunState) (n : ℕ) (t : RunState) : Type 0 where
  pub steps : ℕ
  pub counted : t.deeds.steps ≡ s.deeds.steps + steps
  pub within : steps ≤ n
  pub over : run_code code agent s steps ≡ run_code code agent s n
  pub on_the_way : (m : ℕ) → m < steps → GoesOn code agent s m t.deeds

-- A machine that ended an action at a point stands there, with as many cells and counters as before, its counters 0, and with
-- copies of the same variables.
pub record StandsAt (agent : AgentCode) (point : ℕ) (before after : Machine) : Type 0 where
  pub known : point < length agent.points
  pub machine : after ≡ standing agent point (record { cells = after.home.cells; counters = replicate (length before.home.counters) 0 }) after.copies
  pub cells : length after.home.cells ≡ length before.home.cells
  pub copies : map (λ c. c.variable) after.copies ≡ map (λ c. c.variable) before.copies
