-- The table: by length, then node, the greatest weight of a path that begins at the node and is that long at most.
-- Of the last edge its due counts where the span asks for it, else its length.
use Rattle.std.specs.Prelude.{◌≡◌, ◌⊎◌, ℕ, ◌+◌, ◌-◌, ◌*◌, ◌<◌, ◌≤◌, ◌==◌, nat_le, min, if◌then◌else◌, List, ◌∷◌, length, get_or}
use Rattle.std.specs.List.{Contains}
use Rattle.psy_base.specs.declared.edge.Edge.{Edge}
use Rattle.psy_base.specs.declared.limits.TheConstants.{BUDGET}
use Rattle.psy_base.specs.Paths.{IsPathFrom, DueBy, weight_of, length_of}
use Rattle.psy_window.specs.declared.layout.Layout.{Layout}
use Rattle.psy_window.specs.declared.span.Span.{Span}
use Rattle.psy_window.specs.declared.span.Span.TheVariants.{DueLast, FirstFree}

-- What counts of the last edge of a path.
abbrev pub last_of : Span → Edge → ℕ
last_of DueLast e = e.due
last_of FirstFree e = e.len

-- The path is at most so long.
abbrev pub IsWithin : Span → ℕ → List Edge → Type 0
IsWithin DueLast within path = DueBy within 0 path
IsWithin FirstFree within path = length_of path ≤ within

-- n is the greatest weight of a path from the node that is at most so long, of those whose first edge is among the
-- first `seen` edges of the graph; the empty path is there from the start.
pub record IsCell (graph : List Edge) (seen : ℕ) (span : Span) (within node n : ℕ) : Type 0 where
  pub most : (i : ℕ) (e : Edge) (path : List Edge) → i < seen → get_or graph i e ≡ e → e.from ≡ node → IsPathFrom graph e.to path
      → IsWithin span within (e ∷ path) → weight_of (e ∷ path) ≤ n
  pub one : (path : List Edge) × IsPathFrom graph node path × IsWithin span within path × (weight_of path ≡ n)
  pub small : n ≤ BUDGET * within

-- The same of paths whose first edge is this one.
pub record IsThrough (graph : List Edge) (span : Span) (within : ℕ) (e : Edge) (n : ℕ) : Type 0 where
  pub most : (path : List Edge) → IsPathFrom graph e.to path → IsWithin span within (e ∷ path) → weight_of (e ∷ path) ≤ n
  pub one : (path : List Edge) × IsPathFrom graph e.from path × IsWithin span within path × (weight_of path ≡ n)
  pub small : n ≤ BUDGET * within

-- A row of the table: a cell for each node.
abbrev pub IsRow : List Edge → ℕ → ℕ → Span → ℕ → List ℕ → Type 0
IsRow graph seen nodes span within row = (node : ℕ) → node < nodes → IsCell graph seen span within node (get_or row node 0)

-- The row so many lengths back, of a table of so many rows of which this one is next: the rows go round.
abbrev pub row_back : ℕ → ℕ → ℕ → ℕ
row_back rows next back = if nat_le back next then next - back else next + rows - back

-- The row behind the next one
abbrev pub row_after : ℕ → ℕ → ℕ
row_after rows next = if next + 1 == rows then 0 else next + 1

-- The rows of the lengths right below this one, as many as are kept.
pub record KeepsRows (graph : List Edge) (span : Span) (within : ℕ) (layout : Layout) (table : List ℕ) : Type 0 where
  pub size : length table ≡ layout.rows * layout.nodes
  pub next : layout.next < layout.rows
  pub cells : (back node : ℕ) → 1 ≤ back → back ≤ layout.rows → back ≤ within → node < layout.nodes
      → IsCell graph (length graph) span (within - back) node (get_or table (row_back layout.rows layout.next back * layout.nodes + node) 0)

-- An edge leads back over no more rows than these, where it isn't longer than the length.
abbrev pub Reaches : ℕ → ℕ → Edge → Type 0
Reaches within rows e = min e.len within ≤ rows

-- An edge's weight together with the cell of the node where it ends.
abbrev pub behind : List ℕ → Edge → ℕ
behind row e = e.weight + get_or row e.to 0

-- n is the greatest number that f gives at the first `seen` items, or 0 where it gives none above.
pub record IsTop {X : Type 0} (f : X → ℕ) (items : List X) (seen n : ℕ) : Type 0 where
  pub most : (i : ℕ) (d : X) → i < seen → f (get_or items i d) ≤ n
  pub one : (n ≡ 0) ⊎ ((item : X) × Contains items item × (f item ≡ n))
