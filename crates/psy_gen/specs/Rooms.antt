-- How much room code asks for: as much as the statements hold at most.
use Rattle.std.specs.Prelude.{◌≡◌, ℕ, length, map, Some, slice_get}
use Rattle.psy_tree.specs.declared.unit.AgentDecl.{AgentDecl}
use Rattle.psy_tree.specs.declared.unit.FunctionDecl.{FunctionDecl}
use Rattle.psy_tree.specs.declared.unit.Unit.{Unit as Whole}
use Rattle.psy_code.specs.declared.code.AgentCode.{AgentCode}
use Rattle.psy_code.specs.declared.code.Code.{Code}
use Rattle.psy_code.specs.declared.code.FunctionCode.{FunctionCode}
use Rattle.psy_meaning.specs.Depths.{agent_depth, loops_in}

-- The room of an agent's machine
pub record HasAgentRoom (unit : Whole) (agent : AgentDecl) (its : AgentCode) : Type 0 where
  -- Operands: as many as its statements hold at most, those of the functions that they call among them
  pub stack : its.stack ≡ (agent_depth unit agent).operands
  -- Cells and counters of open calls: as many as there are at most at a time
  pub frames : its.frames ≡ (agent_depth unit agent).cells
  -- Counters: one for each bounded loop of its body
  pub counters : its.counters ≡ loops_in agent.stmts

-- The room of a call: its parameters, its locals with their first values, and a counter for each bounded loop
pub record HasCallRoom (f : FunctionDecl) (its : FunctionCode) : Type 0 where
  pub params : its.params ≡ f.params
  pub locals : its.locals ≡ map (λ l. l.init) f.locals
  pub counters : its.counters ≡ loops_in f.stmts

-- Each agent and each function of a unit has its room.
pub record HasRooms (unit : Whole) (code : Code) : Type 0 where
  pub agents : (number : ℕ) (agent : AgentDecl) (its : AgentCode) → slice_get unit.agents number ≡ Some agent
      → slice_get code.agents number ≡ Some its → HasAgentRoom unit agent its
  pub functions : (number : ℕ) (f : FunctionDecl) (its : FunctionCode) → slice_get unit.functions number ≡ Some f
      → slice_get code.functions number ≡ Some its → HasCallRoom f its
  pub all_agents : length code.agents ≡ length unit.agents
  pub all_functions : length code.functions ≡ length unit.functions
