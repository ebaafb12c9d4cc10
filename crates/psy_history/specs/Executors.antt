-- What executes the actions of a program's agents: its statements, or its code.
use Rattle.std.specs.Prelude.{ℕ, ◌+◌, List, [], ◌∷◌, map, take, drop, replicate, ℤ}
use Rattle.std.specs.List.{flat_map}
use Rattle.psy_arith.specs.declared.operators.Trap.{Trap}
use Rattle.psy_tree.specs.declared.unit.AgentDecl.{AgentDecl}
use Rattle.psy_tree.specs.declared.unit.Unit.{Unit as Whole}
use Rattle.psy_tree.specs.Parts.{agent_at}
use Rattle.psy_code.specs.declared.code.AgentCode.{AgentCode}
use Rattle.psy_code.specs.declared.code.Code.{Code}
use Rattle.psy_code.specs.Execution.{Copy, Frame, Machine, Run, Running, RanTo, TrappedBy, NoRun, copy_from, copy_of, run_code, standing}
use Rattle.psy_code.specs.Views.{Deeds, View, nothing_done}
use Rattle.psy_meaning.specs.Alike.{begun, first_store, started}
use Rattle.psy_meaning.specs.CodeWays.{agent_code_at}
use Rattle.psy_meaning.specs.Rest.{rest}
use Rattle.psy_meaning.specs.Statements.{act}
use Rattle.psy_meaning.specs.States.{Store, Outcome, Halts, value_or_zero}
use Rattle.psy_meaning.specs.States as by

-- What an agent carries from action to action: the cells of its variables and arrays, one behind the other, and its working
-- copies.
pub record Carried : Type 0 where
  pub cells : List ℤ
  pub copies : List Copy

-- What became of an action: it reached an `advance`, it trapped, or neither within its budget.
pub data Fate : Type 0 where
  Reached : (point : ℕ) → Fate
  Trapped : (kind : Trap) → Fate
  Unfinished : Fate

-- What came of an action: its fate, what the agent carries then, and what was done, with as many steps as the action costs
pub record Acted : Type 0 where
  pub fate : Fate
  pub carried : Carried
  pub deeds : Deeds

-- What executes actions.
pub record Executor : Type 0 where
  -- by agent, what it carries into its first action
  pub first : ℕ → Carried
  -- by agent and point, what comes of an action that carries this, sees this and has this budget
  pub act : ℕ → ℕ → Carried → View → ℕ → Acted

-- An action that isn't finished within its budget counts as one cycle more.
abbrev pub past_budget : ℕ → Deeds → Deeds
past_budget budget deeds = record deeds { steps = budget + 1 }

-- ---- statements

-- Cells cut into lists of these lengths
abbrev pub cut : List ℕ → List ℤ → List (List ℤ)
cut [] cells = []
cut (n ∷ lengths) cells = take n cells ∷ cut lengths (drop n cells)

-- The store of an agent that carries this
abbrev pub store_of : AgentDecl → Carried → Store
store_of agent carried = record { slots = cut (map (λ s. s.cells) agent.slots) carried.cells; copies = carried.copies }

-- What an agent with a store carries
abbrev pub carried_in : Store → Carried
carried_in store = record { cells = flat_map (λ cells. cells) store.slots; copies = store.copies }

-- What came of an action, by how its statements ended
abbrev pub acted_by : ℕ → Carried → Outcome → Acted
acted_by budget carried (Halts (by.Ended point s)) = record { fate = Reached point; carried = carried_in s.store; deeds = s.deeds }
acted_by budget carried (Halts (by.Trapped kind s)) = record { fate = Trapped kind; carried = carried_in s.store; deeds = s.deeds }
acted_by budget carried outcome = record { fate = Unfinished; carried = carried; deeds = past_budget budget nothing_done }

-- The statements of a program
abbrev pub by_statements : Whole → Executor
by_statements unit = record {
  first = λ agent. carried_in (first_store unit agent (agent_at unit agent));
  act = λ agent point carried view budget. acted_by budget carried
      (act unit.functions (rest (agent_at unit agent).stmts point) (begun (store_of (agent_at unit agent) carried) view));
}

-- ---- code

-- The agent's own frame with these cells, its counters 0
abbrev pub home_with : AgentCode → List ℤ → Frame
home_with its cells = record { cells = cells; counters = replicate its.counters 0 }

-- The machine of an agent that begins an action at a point, carrying this
abbrev pub machine_at : AgentCode → ℕ → Carried → Machine
machine_at its point carried = standing its point (home_with its carried.cells) carried.copies

-- What an agent with a machine carries
abbrev pub carried_by : Machine → Carried
carried_by machine = record { cells = machine.home.cells; copies = machine.copies }

-- What came of an action, by how the run of its code stands after as many instructions as its budget has cycles
abbrev pub acted_as : ℕ → Carried → Run → Acted
acted_as budget carried (RanTo point s) = record { fate = Reached point; carried = carried_by s.machine; deeds = s.deeds }
acted_as budget carried (TrappedBy kind s) = record { fate = Trapped kind; carried = carried_by s.machine; deeds = s.deeds }
acted_as budget carried (Running s) = record { fate = Unfinished; carried = carried_by s.machine; deeds = past_budget budget s.deeds }
acted_as budget carried NoRun = record { fate = Unfinished; carried = carried; deeds = past_budget budget nothing_done }

-- The code of a program
abbrev pub by_code : Code → Executor
by_code code = record {
  first = λ agent. record { cells = (agent_code_at code agent).cells; copies = map copy_from (agent_code_at code agent).copies };
  act = λ agent point carried view budget. acted_as budget carried
      (run_code code (agent_code_at code agent) (started (machine_at (agent_code_at code agent) point carried) view) budget);
}

-- The working copy of a variable: 0 where there is none
abbrev pub copy_in : Carried → ℕ → ℤ
copy_in carried variable = value_or_zero (copy_of variable carried.copies)
