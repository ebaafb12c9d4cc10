-- When the ways of code are those of a unit's statements.
use Rattle.std.specs.Prelude.{◌≡◌, ℕ, ◌<◌, List, length, Some, slice_get, ◌↔◌}
use Rattle.std.specs.List.{All}
use Rattle.psy_base.specs.Extremes.{IsMost}
use Rattle.psy_base.specs.declared.ways.Ways.{Ways}
use Rattle.psy_code.specs.declared.code.Code.{Code}
use Rattle.psy_code.specs.declared.instr.Instr.TheVariants as instr
use Rattle.psy_tree.specs.declared.unit.AgentDecl.{AgentDecl}
use Rattle.psy_tree.specs.declared.unit.Unit.{Unit as Whole}
use Rattle.psy_tree.specs.Parts.{agent_at}
use Rattle.psy_meaning.specs.CodeWays.{HasCodeDelay, HasCodeSends, IsCodeWay, IsOnWay, place_of}
use Rattle.psy_meaning.specs.Flow.{AreAllNexts, HasSends, IsNext, MayLook}
use Rattle.psy_meaning.specs.ListedWays.{AreByPoint, AreDelays, AreLooks, points_of}
use Rattle.psy_meaning.specs.Sendings.{longest_delay}
use Rattle.psy_meaning.specs.Sound.{Each}
use Rattle.psy_flow.specs.declared.paths.Paths.{Paths}
use Rattle.psy_gen.specs.Keeping.{HasSendlessLoops}

-- From a point the ways of the code end where those of the statements do and look at the same variables; and where no send stands in a
-- bounded loop of the agent, those to each point have as many sends to each stream.
pub record SameFrom (unit : Whole) (code : Code) (number point : ℕ) (agent : AgentDecl) : Type 0 where
  pub nexts : (to : ℕ) → IsNext unit.functions agent point to ↔ ((places : List ℕ) × IsCodeWay code.instrs to (place_of code number point) places)
  pub looks : (variable : ℕ) → MayLook unit.functions agent point variable
      ↔ ((back : ℕ) × IsOnWay code.instrs (place_of code number point) (instr.Past variable back))
  pub sends : Each HasSendlessLoops agent.stmts → (to stream sends : ℕ) → HasSends unit.functions agent point to stream sends
      ↔ HasCodeSends code.instrs (place_of code number point) to stream sends

-- So it is from each point of each agent, and the greatest delay of the sends to a stream is that of the statements.
pub record HasSameWays (unit : Whole) (code : Code) : Type 0 where
  pub from : (number point : ℕ) (agent : AgentDecl) → slice_get unit.agents number ≡ Some agent → point < length agent.points
      → SameFrom unit code number point agent
  pub delays : (stream : ℕ) → IsMost (HasCodeDelay unit code stream) (longest_delay unit stream)

-- No send stands in a bounded loop of an agent.
abbrev pub SendsOutsideLoops : Whole → Type 0
SendsOutsideLoops unit = All (λ (agent : AgentDecl). Each HasSendlessLoops agent.stmts) unit.agents

-- They are those of the statements: the points that follow, the variables looked at, and how long messages take.
pub record ArePathsOf (unit : Whole) (paths : Paths) : Type 0 where
  pub nexts : AreAllNexts unit paths.nexts
  pub looks : AreByPoint (points_of unit) (λ agent. AreLooks unit.functions (agent_at unit agent)) paths.looks
  pub delays : AreDelays unit paths.delays

-- The lists of the ways are the same but for the sends.
pub record AreSameButSends (these those : Ways) : Type 0 where
  pub nexts : these.nexts ≡ those.nexts
  pub looks : these.looks ≡ those.looks
  pub delays : these.delays ≡ those.delays
