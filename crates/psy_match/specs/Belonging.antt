-- Whether what psyc wrote is of a program: the number, counted from 1, of the first note that isn't.
use Rattle.std.specs.Prelude.{◌≡◌, ◌<◌, ℕ, suc, ◌+◌, ◌-◌, ◌^◌, ◌==◌, Bool, false, List, [], ◌∷◌, ◌++◌, bytes_eq, cond, drop, length, min}
use Rattle.std.specs.Prelude.{Option, None, Some, option_map, slice_get}
use Rattle.psy_log.specs.declared.note.Note.{Note}
use Rattle.psy_log.specs.declared.note.Note.TheVariants as note
use Rattle.psy_match.specs.declared.run.Belonging.{Belonging}
use Rattle.psy_tree.specs.declared.unit.AgentDecl.{AgentDecl}
use Rattle.psy_tree.specs.declared.unit.Point.{Point}
use Rattle.psy_tree.specs.declared.unit.StreamDecl.{StreamDecl}
use Rattle.psy_tree.specs.declared.unit.VarDecl.{VarDecl}
use Rattle.psy_tree.specs.declared.unit.Unit.{Unit as Whole}

-- One note more stands before it.
abbrev pub behind : Option ℕ → Option ℕ
behind found = option_map suc found

-- So many are left where the notes end: then that is what isn't of the program.
abbrev pub left_over : ℕ → Option ℕ
left_over left = cond (left == 0) None (Some 1)

-- ---- of a graph

-- A point of an agent has this budget
abbrev pub has_budget : Option Point → ℕ → Bool
has_budget None budget = false
has_budget (Some point) budget = point.budget == budget

-- The first of these agents has this name.
abbrev pub is_next_agent : List AgentDecl → List ℕ → Bool
is_next_agent [] name = false
is_next_agent (agent ∷ agents) name = bytes_eq name agent.name

-- Its points
abbrev pub next_points : List AgentDecl → List Point
next_points [] = []
next_points (agent ∷ agents) = agent.points

-- The first note of a graph that isn't of these agents, behind notes of an agent with these points: another agent's graph, a node at a point that the
-- agent hasn't, or with another budget than that has, or the end where agents are left
abbrev pub first_in_graph : List Point → List AgentDecl → List Note → Option ℕ
first_in_graph points agents [] = left_over (length agents)
first_in_graph points agents (note.AgentGraph name nodes edges ∷ notes) =
    cond (is_next_agent agents name.now) (behind (first_in_graph (next_points agents) (drop 1 agents) notes)) (Some 1)
first_in_graph points agents (note.Node number point phase budget worst due ∷ notes) =
    cond (has_budget (slice_get points point) budget) (behind (first_in_graph points agents notes)) (Some 1)
first_in_graph points agents (_ ∷ notes) = behind (first_in_graph points agents notes)

-- The first note of a graph that isn't of a program
abbrev pub foreign_in_graph : Whole → List Note → Option ℕ
foreign_in_graph unit notes = first_in_graph [] unit.agents notes

-- ---- of a run

-- The first of these variables has this name.
abbrev pub is_next_variable : List VarDecl → List ℕ → Bool
is_next_variable [] name = false
is_next_variable (variable ∷ variables) name = bytes_eq name variable.name

-- The first of these streams has this name.
abbrev pub is_next_stream : List StreamDecl → List ℕ → Bool
is_next_stream [] name = false
is_next_stream (stream ∷ streams) name = bytes_eq name stream.name

-- The first note of a run whose summary doesn't list these agents, variables and streams, in this order each: one with another name, or the end where
-- some are left
abbrev pub first_in_run : List AgentDecl → List VarDecl → List StreamDecl → List Note → Option ℕ
first_in_run agents variables streams [] = left_over (length agents + length variables + length streams)
first_in_run agents variables streams (note.AgentEnd name count slack ∷ notes) =
    cond (is_next_agent agents name.now) (behind (first_in_run (drop 1 agents) variables streams notes)) (Some 1)
first_in_run agents variables streams (note.VariableEnd name size reach ∷ notes) =
    cond (is_next_variable variables name.now) (behind (first_in_run agents (drop 1 variables) streams notes)) (Some 1)
first_in_run agents variables streams (note.StreamEnd name size held ∷ notes) =
    cond (is_next_stream streams name.now) (behind (first_in_run agents variables (drop 1 streams) notes)) (Some 1)
first_in_run agents variables streams (_ ∷ notes) = behind (first_in_run agents variables streams notes)

-- The first note of a run that isn't of a program
abbrev pub foreign_in_run : Whole → List Note → Option ℕ
foreign_in_run unit notes = first_in_run unit.agents unit.variables unit.streams notes

-- ---- of a run whose notes come one by one

-- So many more notes stand before it.
abbrev pub further : ℕ → Option ℕ → Option ℕ
further n found = option_map (λ k. k + n) found

-- The first note that isn't of the program: the one that was found, or what is found behind so many notes
abbrev pub found_or : Option ℕ → ℕ → Option ℕ → Option ℕ
found_or None n more = further n more
found_or (Some found) n more = Some found

-- These notes of a run were taken in, as far as notes can be counted: whatever notes come behind them, the first of all that isn't of the program was found,
-- or it is the first of those behind that isn't of what is left.
pub record Belongs (unit : Whole) (notes : List Note) (belonging : Belonging) : Type 0 where
  pub count : belonging.notes ≡ min (length notes) (2 ^ 64 - 1)
  pub goes_on : length notes < 2 ^ 64 - 1 → (more : List Note) → foreign_in_run unit (notes ++ more) ≡ found_or belonging.foreign belonging.notes
      (first_in_run belonging.left.agents.now belonging.left.variables.now belonging.left.streams.now more)
