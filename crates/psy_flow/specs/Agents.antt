-- What is known of the agents of a text.
use Rattle.std.specs.Prelude.{◌≡◌, ℕ, Some, slice_get}
use Rattle.psy_tree.specs.declared.unit.AgentDecl.{AgentDecl}
use Rattle.psy_tree.specs.declared.unit.Unit.{Unit as Whole}
use Rattle.psy_meaning.specs.Flow.{IsNext}
use Rattle.psy_meaning.specs.Kept.{IsAdvanceOf}
use Rattle.psy_meaning.specs.Paths.{NoneAdvances}
use Rattle.psy_meaning.specs.Sound.{IsSoundUnit}
use Rattle.psy_meaning.specs.Units.{IsOfText}

-- The agent is one of a unit of a text, by its number.
abbrev pub IsAgentOf : Whole → ℕ → AgentDecl → Type 0
IsAgentOf unit number agent = IsOfText unit × (slice_get unit.agents number ≡ Some agent)

-- Some unit of a text has the agent.
abbrev pub IsOfSome : AgentDecl → Type 0
IsOfSome agent = (unit : Whole) × (number : ℕ) × IsAgentOf unit number agent

-- What is known of an agent of a text: its unit is sound, no function of it advances, and from each point a way goes on to
-- some point, which is that of an `advance`.
pub record IsKnown (unit : Whole) (number : ℕ) (agent : AgentDecl) : Type 0 where
  pub sound : IsSoundUnit unit
  pub none : NoneAdvances unit.functions
  pub goes_on : (point : ℕ) → (to : ℕ) × IsNext unit.functions agent point to
  pub inner : (point to : ℕ) → IsNext unit.functions agent point to → IsAdvanceOf agent to
