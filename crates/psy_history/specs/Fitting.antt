-- Code that fits a program, whatever made it: what a run of it needs is said of the code itself, by ways that are given as lists.
use Rattle.std.specs.Prelude.{◌≡◌, ℕ, ◌<◌, List, [], map, length, FitsSigned}
use Rattle.std.specs.Int.{w32}
use Rattle.std.specs.List.{All}
use Rattle.psy_base.specs.declared.ways.Ways.{Ways as WayLists}
use Rattle.psy_code.specs.declared.code.AgentCode.{AgentCode}
use Rattle.psy_code.specs.declared.code.Code.{Code}
use Rattle.psy_code.specs.Views.{View}
use Rattle.psy_tree.specs.declared.unit.Unit.{Unit as Whole}
use Rattle.psy_tree.specs.Parts.{agent_at}
use Rattle.psy_history.specs.Actions.{System, timing}
use Rattle.psy_history.specs.Compiled.{coded}
use Rattle.psy_meaning.specs.CodeWays.{agent_code_at}
use Rattle.psy_history.specs.Executors.{Carried}
use Rattle.psy_history.specs.Openings.{FitCells, MayCarry}
use Rattle.psy_history.specs.Runs.{GoesWell}
use Rattle.psy_meaning.specs.Alike.{IsViewOf, first_copies}
use Rattle.psy_meaning.specs.KnownWays.{Listed}
use Rattle.psy_meaning.specs.ListedWays.{AreWaysFor}
use Rattle.psy_meaning.specs.Timing.{MayStart}
use Rattle.psy_meaning.specs.Units.{IsBare}

-- An agent's code has a place for each of its points, and a copy of each variable that it owns; its cells begin in the ranges of
-- their slots' types, and its copies with values of 32 bits.
pub record IsAgentCodeFor (unit : Whole) (agent : ℕ) (its : AgentCode) : Type 0 where
  pub points : length its.points ≡ length (agent_at unit agent).points
  pub cells : FitCells (agent_at unit agent) its.cells
  pub copies : map (λ c. c.variable) its.copies ≡ map (λ c. c.variable) (first_copies unit agent)
  pub inits : All (λ c. FitsSigned w32 c.init) its.copies

-- The code has the program's agents.
pub record IsCodeFor (unit : Whole) (code : Code) : Type 0 where
  pub agents : length code.agents ≡ length unit.agents
  pub each : (agent : ℕ) → agent < length unit.agents → IsAgentCodeFor unit agent (agent_code_at code agent)

-- A run of the code from date 0 on that nothing stalls and whose inputs have no lists: what is asked of the code speaks of no stall and no list
abbrev pub undisturbed : Whole → Code → List (List (List ℕ)) → System
undisturbed unit code nexts = coded unit code nexts (λ agent. []) []

-- The code fits the program by these ways. Each run from a point where an action of an agent may start, with whatever the agent may
-- carry and see, goes well for as many instructions as the point's budget: it is never stuck, looks and sends as the ways do, takes and asks
-- for messages that the agent receives, and where it ends, it does so at a point that follows, with what the agent may carry.
pub record FitsBy (unit : Whole) (code : Code) (ways : WayLists) : Type 0 where
  pub bare : IsBare unit
  pub inits : All (λ v. FitsSigned w32 v.init) unit.variables
  pub lists : AreWaysFor unit ways
  pub parts : IsCodeFor unit code
  pub runs : (agent point start : ℕ) (carried : Carried) (view : View) → agent < length unit.agents
      → MayStart (timing (undisturbed unit code ways.nexts) agent) point start → MayCarry unit code agent carried → IsViewOf unit agent view
      → GoesWell (undisturbed unit code ways.nexts) (Listed ways) code agent point carried view
