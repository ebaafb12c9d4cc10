-- The line above the demand of a graph: its rate, by the closed paths, and its intercept, by all paths (the greatest cycle
-- ratio: Dantzig, Blattner, Rao 1967; the linear bound of a demand: Stigge, Ekberg, Guan, Yi 2011). Numbers are natural, so
-- what would be subtracted stands on the other side.
use Rattle.std.specs.Prelude.{◌≡◌, ℕ, ◌+◌, ◌*◌, ◌≤◌, ◌==◌, if◌then◌else◌, List, [], ◌∷◌, get_or, length, map, ⊤}
use Rattle.std.specs.List.{range_with_len}
use Rattle.psy_base.specs.declared.edge.Edge.{Edge}
use Rattle.psy_base.specs.declared.limits.TheConstants.{PROCESSORS}
use Rattle.psy_base.specs.Paths.{IsPathFrom, IsPath, weight_of, length_of}
use Rattle.psy_rate.specs.declared.line.Rate.{Rate}
use Rattle.psy_rate.specs.declared.line.TheConstants.{SCALE}

-- The node where a path ends that begins at a node.
abbrev pub end_of : ℕ → List Edge → ℕ
end_of node [] = node
end_of node (e ∷ path) = end_of e.to path

-- A closed path: one of the graph that isn't empty and ends where it begins.
abbrev pub IsClosed : List Edge → List Edge → Type 0
IsClosed graph [] = ⊥
IsClosed graph (e ∷ path) = IsPathFrom graph e.from (e ∷ path) × (end_of e.from (e ∷ path) ≡ e.from)

-- From the start of a path's first action to the due of its last: the lengths before the last edge, and that edge's due.
abbrev pub due_of : List Edge → ℕ
due_of [] = 0
due_of (e ∷ []) = e.due
due_of (e ∷ path) = e.len + due_of path

-- Each closed path weighs at most the rate by its length, in parts of a cycle.
abbrev pub Allows : List Edge → ℕ → Type 0
Allows graph rate = (path : List Edge) → IsClosed graph path → SCALE * weight_of path ≤ rate * length_of path

-- The rate is the least number that each closed path allows.
pub record IsRate (graph : List Edge) (rate : ℕ) : Type 0 where
  pub allows : Allows graph rate
  pub least : (less : ℕ) → Allows graph less → rate ≤ less

-- The intercept is the greatest number by which a path weighs more than the rate by the time until it is due; of the empty
-- path it is 0.
pub record IsIntercept (graph : List Edge) (rate n : ℕ) : Type 0 where
  pub most : (path : List Edge) → IsPath graph path → SCALE * weight_of path ≤ rate * due_of path + n
  pub one : (path : List Edge) × IsPath graph path × (SCALE * weight_of path ≡ rate * due_of path + n)

-- The line of a graph: its rate and its intercept.
abbrev pub IsRateOf : List Edge → Rate → Type 0
IsRateOf graph line = IsRate graph line.rate × IsIntercept graph line.rate line.intercept

-- The lines of graphs, one each.
abbrev pub AreRates : List (List Edge) → List Rate → Type 0
AreRates [] [] = ⊤
AreRates [] (line ∷ lines) = ⊥
AreRates (graph ∷ graphs) [] = ⊥
AreRates (graph ∷ graphs) (line ∷ lines) = IsRateOf graph line × AreRates graphs lines

-- The same of groups of graphs.
abbrev pub AreAll : List (List (List Edge)) → List (List Rate) → Type 0
AreAll [] [] = ⊤
AreAll [] (lines ∷ others) = ⊥
AreAll (graphs ∷ groups) [] = ⊥
AreAll (graphs ∷ groups) (lines ∷ others) = AreRates graphs lines × AreAll groups others

-- The line of an agent that asks for nothing
abbrev pub no_line : Rate
no_line = record { rate = 0; intercept = 0 }

-- By agent, its line where its processor is this one, and that of nothing where it is another
abbrev pub lines_on : List ℕ → ℕ → List Rate → List Rate
lines_on homes processor lines =
    map (λ agent. if get_or homes agent 0 == processor then get_or lines agent no_line else no_line) (range_with_len 0 (length lines))

-- By processor, the lines of its agents
abbrev pub lines_by : List ℕ → List Rate → List (List Rate)
lines_by homes lines = map (λ processor. lines_on homes processor lines) (range_with_len 0 PROCESSORS)
