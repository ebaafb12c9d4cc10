-- Agents whose actions all last from one date of a clock to the next, as declarations without statements.
use Rattle.std.specs.Prelude.{ℕ, List, [], ◌∷◌, Some, pos}
use Rattle.psy_clock.specs.declared.clock.Clock.{Clock}
use Rattle.psy_tree.specs.declared.unit.AgentDecl.{AgentDecl}
use Rattle.psy_tree.specs.declared.unit.Point.{Point}
use Rattle.psy_tree.specs.declared.unit.VarDecl.{VarDecl}

-- The clock of every tenth tick
abbrev pub tenth : Clock
tenth = record { period = 10; first = 0 }

-- The head of an agent's body, and its one `advance`, to the next date of that clock
abbrev pub points_of : ℕ → List Point
points_of budget = record { count = 0; clock = 0; budget = budget } ∷ record { count = 1; clock = 0; budget = budget } ∷ []

-- The agent of the first processor whose name is this letter, and whose actions may take so many cycles
abbrev pub agent_of : ℕ → ℕ → AgentDecl
agent_of letter budget = record { name = letter ∷ []; clock = 0; processor = 0; budget = budget; slots = []; points = points_of budget; stmts = [] }

-- Both its points are followed by the `advance`.
abbrev pub onwards : List (List ℕ)
onwards = (1 ∷ []) ∷ (1 ∷ []) ∷ []

-- The variable `v` of an agent, 0 at first
abbrev pub variable_of : ℕ → VarDecl
variable_of owner = record { name = 118 ∷ []; owner = Some owner; clock = 0; init = pos 0; depth = 1 }
