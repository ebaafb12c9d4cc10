-- The edges of a graph, and which of its paths fit a length.
use Rattle.std.specs.Prelude.{ℕ, ◌<◌, ◌≤◌, List}
use Rattle.psy_base.specs.declared.edge.Edge.{Edge}
use Rattle.psy_base.specs.declared.limits.TheConstants.{BUDGET}
use Rattle.psy_base.specs.Paths.{FitsDueLast, FitsFirstFree}
use Rattle.psy_window.specs.declared.span.Span.{Span}
use Rattle.psy_window.specs.declared.span.Span.TheVariants.{DueLast, FirstFree}

-- An edge of a graph of so many nodes: its ends are nodes, its action is due after its start and by its end, and it weighs
-- no more than the greatest budget.
pub record IsEdge (nodes : ℕ) (e : Edge) : Type 0 where
  pub from : e.from < nodes
  pub to : e.to < nodes
  pub after : 1 ≤ e.due
  pub due : e.due ≤ e.len
  pub weight : e.weight ≤ BUDGET

-- Which paths fit a length.
abbrev pub Fits : Span → ℕ → List Edge → Type 0
Fits DueLast within path = FitsDueLast within path
Fits FirstFree within path = FitsFirstFree within path
