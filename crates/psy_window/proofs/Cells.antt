-- The cells of the table: what a cell says of every path from its node, and the paths that begin with one edge.
use Rattle.std.proofs.Common.{◌≡◌, ℕ, ◌+◌, ◌-◌, ◌<◌, ◌≤◌, List, [], ◌∷◌, length, get_or, max, set, refl, sym, subst, ◌∙◌, inl, inr, arith}
use Rattle.std.specs.List.{Contains}
use Rattle.std.proofs.lemmas.Bool.{cases_eq, cases_lt}
use Rattle.std.proofs.lemmas.List.{get_or-set_same, get_or-set_other, get_or_default}
use Rattle.psy_base.specs.declared.edge.Edge.{Edge}
use Rattle.psy_base.specs.Paths.{IsPathFrom, weight_of}
use Rattle.psy_window.specs.declared.span.Span.{Span}
use Rattle.psy_window.specs.declared.span.Span.TheVariants.{DueLast, FirstFree}
use Rattle.psy_window.specs.Table.{last_of, IsWithin, IsCell, IsThrough, IsRow}
use Rattle.psy_window.specs.Windows.{IsEdge}
use Rattle.psy_window.proofs.Paths.{within_nil, within_one, within_cons, within_first, within_rest}

-- A cell over all edges is above every path from its node.
pub cell_above : (graph : List Edge) (span : Span) (within node n : ℕ) (path : List Edge) → IsCell graph (length graph) span within node n → IsPathFrom graph node path → IsWithin span within path → weight_of path ≤ n
cell_above graph span within node n [] cell is fits = omega arith
cell_above graph span within node n (e ∷ path) cell is fits = cell.most is.0.0 e path is.0.1 is.0.2 is.1 is.2 fits

-- At least one tick of an edge counts.
last_after : (nodes : ℕ) (span : Span) (e : Edge) → IsEdge nodes e → 1 ≤ last_of span e
last_after nodes DueLast e edge = edge.after
last_after nodes FirstFree e edge = omega (arith, edge.after, edge.due)

-- No path that begins with an edge is short enough.
pub through_none : (graph : List Edge) (nodes : ℕ) (span : Span) (within : ℕ) (e : Edge) → IsEdge nodes e → within < last_of span e → IsThrough graph span within e 0
through_none graph nodes span within e edge long =
    record {
      most = λ path is fits. (let l : last_of span e ≤ within = within_first span within e path edge.due fits in omega arith);
      one = ([], tt, within_nil span within, refl);
      small = omega arith;
    }

-- The edge alone is.
pub through_alone : (graph : List Edge) (nodes : ℕ) (span : Span) (within : ℕ) (e : Edge) → IsEdge nodes e → Contains graph e → last_of span e ≤ within → within < e.len → IsThrough graph span within e e.weight
through_alone graph nodes span within e edge in' last long =
    record {
      most = λ path is fits. elim (within_rest span within e path fits) [
        | inl none ↦ subst (λ p. weight_of (e ∷ p) ≤ e.weight) (sym none) (omega arith)
        | inr rest ↦ omega (arith, rest.0)
      ];
      one = (e ∷ [], (in', refl, tt), within_one span within e last, omega arith);
      small = omega (arith, edge.weight, last_after nodes span e edge);
    }

-- It is before the greatest path from where it ends.
pub through_on : (graph : List Edge) (nodes : ℕ) (span : Span) (within : ℕ) (e : Edge) (n : ℕ) → IsEdge nodes e → Contains graph e → last_of span e ≤ within → e.len ≤ within → IsCell graph (length graph) span (within - e.len) e.to n → IsThrough graph span within e (e.weight + n)
through_on graph nodes span within e n edge in' last len cell =
    record {
      most = λ path is fits. elim (within_rest span within e path fits) [
        | inl none ↦ subst (λ p. weight_of (e ∷ p) ≤ e.weight + n) (sym none) (omega arith)
        | inr rest ↦ (let l : weight_of path ≤ n = cell_above graph span (within - e.len) e.to n path cell is rest.1 in omega arith)
      ];
      one = (e ∷ cell.one.0, (in', refl, cell.one.1), within_cons span within e cell.one.0 last len cell.one.2, omega (arith, cell.one.3));
      small = omega (arith, cell.small, edge.weight, edge.after, edge.due);
    }

-- The cell of the node where edge number `seen` begins takes that edge in.
cell_taken : (graph : List Edge) (seen : ℕ) (span : Span) (within n w : ℕ) (e : Edge) → ((d : Edge) → get_or graph seen d ≡ e) → IsThrough graph span within e w → IsCell graph seen span within e.from n → IsCell graph (seen + 1) span within e.from (max n w)
cell_taken graph seen span within n w e at through cell =
    record {
      most = λ i f path less is from is' fits. elim (cases_eq i seen) [
        | inl same ↦ (
            let P : Edge → Type 0 = λ f. IsPathFrom graph f.to path → IsWithin span within (f ∷ path) → weight_of (f ∷ path) ≤ max n w in
            let same_edge : e ≡ f = sym (at f) ∙ subst (λ j. get_or graph j f ≡ f) same is in
            subst P same_edge (λ is'' fits'. (let l : weight_of (e ∷ path) ≤ w = through.most path is'' fits' in omega arith)) is' fits)
        | inr other ↦ (let l : weight_of (f ∷ path) ≤ n = cell.most i f path (omega (arith, less, other)) is from is' fits in omega arith)
      ];
      one = elim (cases_lt n w) [
        | inl less ↦ (through.one.0, through.one.1, through.one.2, omega (arith, less, through.one.3))
        | inr less ↦ (cell.one.0, cell.one.1, cell.one.2, omega (arith, less, cell.one.3))
      ];
      small = omega (arith, through.small, cell.small);
    }

-- Other cells stay.
cell_kept : (graph : List Edge) (seen : ℕ) (span : Span) (within node n : ℕ) (e : Edge) → ((d : Edge) → get_or graph seen d ≡ e) → (e.from ≡ node → ⊥) → IsCell graph seen span within node n → IsCell graph (seen + 1) span within node n
cell_kept graph seen span within node n e at other cell =
    record {
      most = λ i f path less is from is' fits. elim (cases_eq i seen) [
        | inl same ↦ (
            let same_edge : f ≡ e = sym (subst (λ j. get_or graph j f ≡ f) same is) ∙ at f in
            absurd (other (subst (λ f'. f'.from ≡ node) same_edge from)))
        | inr differs ↦ cell.most i f path (omega (arith, less, differs)) is from is' fits
      ];
      one = cell.one;
      small = cell.small;
    }

-- A row takes in edge number `seen` where the cell of the edge's first node does.
pub row_more : (graph : List Edge) (seen nodes : ℕ) (span : Span) (within w : ℕ) (row : List ℕ) (e : Edge) → length row ≡ nodes → seen < length graph → e ≡ get_or graph seen e → e.from < nodes → IsThrough graph span within e w → IsRow graph seen nodes span within row
    → IsRow graph (seen + 1) nodes span within (set row e.from (max (get_or row e.from 0) w))
row_more graph seen nodes span within w row e long less is small through cells node inside =
    let at : (d : Edge) → get_or graph seen d ≡ e = λ d. get_or_default graph seen d e less ∙ sym is in
    let v : ℕ = max (get_or row e.from 0) w in
    elim (cases_eq node e.from) [
      | inl same ↦ (
          let P : ℕ → Type 0 = λ x. IsCell graph (seen + 1) span within e.from x in
          let Q : ℕ → Type 0 = λ m. IsCell graph (seen + 1) span within m (get_or (set row e.from v) m 0) in
          let taken : P v = cell_taken graph seen span within (get_or row e.from 0) w e at through (cells e.from small) in
          let new : get_or (set row e.from v) e.from 0 ≡ v = get_or-set_same row e.from v 0 (omega (arith, small, long)) in
          subst Q (sym same) (subst P (sym new) taken))
      | inr other ↦ (
          let P : ℕ → Type 0 = λ x. IsCell graph (seen + 1) span within node x in
          subst P (sym (get_or-set_other row e.from node v 0 other)) (cell_kept graph seen span within node (get_or row node 0) e at (λ same. other (sym same)) (cells node inside)))
    ]
