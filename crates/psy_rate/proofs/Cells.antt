-- The cells of a row, as it takes in edge after edge.
use Rattle.std.proofs.Common.{◌≡◌, ◌≢◌, ◌⊎◌, ℕ, ◌+◌, ◌-◌, ◌*◌, ◌<◌, ◌≤◌, List, [], ◌∷◌, length, get_or, max, sym, subst, ◌∙◌, inl, inr, arith}
use Rattle.std.specs.List.{Contains}
use Rattle.std.proofs.lemmas.Bool.{cases_eq, cases_lt}
use Rattle.psy_base.specs.declared.edge.Edge.{Edge}
use Rattle.psy_base.specs.declared.limits.TheConstants.{BUDGET, EDGES}
use Rattle.psy_base.specs.Paths.{IsPathFrom, weight_of}
use Rattle.psy_rate.specs.Lines.{due_of}
use Rattle.psy_rate.specs.Rows.{excess, IsSeen, IsWithin, IsCell, IsRow}
use Rattle.psy_rate.specs.declared.line.TheConstants.{SCALE}
use Rattle.psy_rate.proofs.Excesses.{within_more, within_nil, within_cons, given_one}
use Rattle.psy_window.specs.Windows.{IsEdge}

-- Of one edge more that is seen, it is the next one from the last, or was seen before.
pub seen_cases : (graph : List Edge) (seen : ℕ) (e f : Edge) → seen < length graph → ((d : Edge) → get_or graph (length graph - 1 - seen) d ≡ e) → IsSeen graph (seen + 1) f → (e ≡ f) ⊎ IsSeen graph seen f
seen_cases graph seen e f less at is =
    elim (cases_eq is.0 (length graph - 1 - seen)) [
      | inl same ↦ inl (sym (at f) ∙ subst (λ i. get_or graph i f ≡ f) same is.3)
      | inr other ↦ inr (is.0, is.1, omega (arith, is.1, is.2, other, less), is.3)
    ]

-- The cell of the node where the next edge begins takes that edge in.
cell_taken : (graph : List Edge) (seen rate count n behind m : ℕ) (e : Edge) → seen < length graph → ((d : Edge) → get_or graph (length graph - 1 - seen) d ≡ e) → Contains graph e → e.due ≤ e.len → e.weight ≤ BUDGET
    → m ≡ max n (excess rate e behind) → IsCell graph seen rate count e.to behind → IsCell graph seen rate count e.from n → IsCell graph (seen + 1) rate count e.from m
cell_taken graph seen rate count n behind m e less at in' due weight is from cell =
    record {
      most = λ path is_path short. within_more rate n m path (omega arith) (cell.most path is_path short);
      more = λ f path seen_f begins is_path short. elim (seen_cases graph seen e f less at seen_f) [
        | inl same ↦ (
            let P : Edge → Type 0 = λ g. IsPathFrom graph g.to path → IsWithin rate m (g ∷ path) in
            subst P same (λ is_path'. within_cons rate behind m e path (from.most path is_path' short) (omega (arith, is))) is_path)
        | inr before ↦ within_more rate n m (f ∷ path) (omega arith) (cell.more f path before begins is_path short)
      ];
      one = elim (cases_lt n (excess rate e behind)) [
        | inl grew ↦ (
            let same : excess rate e behind ≡ m = omega (arith, grew, is) in
            subst (λ x. (path : List Edge) × IsPathFrom graph e.from path × (SCALE * weight_of path ≡ rate * due_of path + x)) same (given_one graph rate behind e in' due (omega (arith, grew)) from.one))
        | inr stays ↦ (
            let same : n ≡ m = omega (arith, stays, is) in
            subst (λ x. (path : List Edge) × IsPathFrom graph e.from path × (SCALE * weight_of path ≡ rate * due_of path + x)) same cell.one)
      ];
      small = omega (arith, is, cell.small, from.small, weight);
    }

-- Other cells stay.
cell_kept : (graph : List Edge) (seen rate count node n : ℕ) (e : Edge) → seen < length graph → ((d : Edge) → get_or graph (length graph - 1 - seen) d ≡ e) → (e.from ≡ node → ⊥) → IsCell graph seen rate count node n → IsCell graph (seen + 1) rate count node n
cell_kept graph seen rate count node n e less at other cell =
    record {
      most = cell.most;
      more = λ f path seen_f begins is_path short. elim (seen_cases graph seen e f less at seen_f) [
        | inl same ↦ absurd (other (subst (λ g. g.from ≡ node) (sym same) begins))
        | inr before ↦ cell.more f path before begins is_path short
      ];
      one = cell.one;
      small = omega (arith, cell.small);
    }

-- A row takes in the next edge where the cell of the edge's first node does, and the others stay.
pub row_more : (graph : List Edge) (seen rate count : ℕ) (row new : List ℕ) (e : Edge) → seen < length graph → ((d : Edge) → get_or graph (length graph - 1 - seen) d ≡ e) → Contains graph e → IsEdge (length row) e
    → length new ≡ length row → get_or new e.from 0 ≡ max (get_or row e.from 0) (excess rate e (get_or row e.to 0)) → ((node : ℕ) → node ≢ e.from → get_or new node 0 ≡ get_or row node 0)
    → IsRow graph seen rate count row → IsRow graph (seen + 1) rate count new
row_more graph seen rate count row new e less at in' edge size here others cells node inside =
    elim (cases_eq node e.from) [
      | inl same ↦ (
          let taken : IsCell graph (seen + 1) rate count e.from (get_or new e.from 0) = cell_taken graph seen rate count (get_or row e.from 0) (get_or row e.to 0) (get_or new e.from 0) e less at in' edge.due edge.weight here (cells e.to edge.to) (cells e.from edge.from) in
          subst (λ m. IsCell graph (seen + 1) rate count m (get_or new m 0)) (sym same) taken)
      | inr other ↦ (
          let kept : IsCell graph (seen + 1) rate count node (get_or row node 0) = cell_kept graph seen rate count node (get_or row node 0) e less at (λ same. other (sym same)) (cells node (omega (arith, inside, size))) in
          subst (λ x. IsCell graph (seen + 1) rate count node x) (sym (others node other)) kept)
    ]

-- Once all edges are taken in the row speaks of paths of one edge more.
pub row_done : (graph : List Edge) (rate count : ℕ) (row : List ℕ) → length graph ≤ EDGES → IsRow graph (length graph) rate count row → IsRow graph 0 rate (count + 1) row
row_done graph rate count row few cells node inside =
    let n : ℕ = get_or row node 0 in
    let cell : IsCell graph (length graph) rate count node n = cells node inside in
    record {
      most = all cell;
      more = λ e path seen. absurd (omega (arith, seen.1, seen.2));
      one = cell.one;
      small = omega (arith, cell.small, few);
    }
  where
    all : IsCell graph (length graph) rate count node (get_or row node 0) → (path : List Edge) → IsPathFrom graph node path → length path ≤ count + 1 → IsWithin rate (get_or row node 0) path
    all cell [] is short = within_nil rate (get_or row node 0)
    all cell (e ∷ path) is short = cell.more e path (is.0.0, is.0.1, omega arith, is.0.2) is.1 is.2 (omega (arith, short))

-- A row of nothing but 0 speaks of the empty paths.
pub row_none : (graph : List Edge) (rate : ℕ) (row : List ℕ) → ((node : ℕ) → node < length row → get_or row node 0 ≡ 0) → IsRow graph 0 rate 0 row
row_none graph rate row zeros node inside =
    record {
      most = none;
      more = λ e path seen. absurd (omega (arith, seen.1, seen.2));
      one = ([], tt, omega (arith, zeros node inside));
      small = omega (arith, zeros node inside);
    }
  where
    none : (path : List Edge) → IsPathFrom graph node path → length path ≤ 0 → IsWithin rate (get_or row node 0) path
    none [] is short = within_nil rate (get_or row node 0)
    none (e ∷ path) is short = absurd (omega (arith, short))
