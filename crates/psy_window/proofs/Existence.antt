-- The greatest weights are there, for the table can be filled whatever the graph; and each is one.
use Rattle.std.proofs.Common.{◌≡◌, ℕ, zero, suc, ◌+◌, ◌-◌, ◌*◌, ◌<◌, ◌≤◌, List, [], length, get_or, ◌++◌, max, set, replicate, All, add-one, refl, sym, subst, ◌∙◌, inl, inr, arith}
use Rattle.std.specs.List.{Contains}
use Rattle.std.proofs.lemmas.Bool.{cases_lt}
use Rattle.std.proofs.lemmas.List.{get_or-replicate, get_or_default, length-replicate, length-set}
use Rattle.std.proofs.lemmas.List.Elements.{All-get_or, Contains-get_or}
use Rattle.psy_base.specs.declared.edge.Edge.{Edge}
use Rattle.psy_base.specs.Paths.{IsGreatestWeight}
use Rattle.psy_window.specs.declared.span.Span.{Span}
use Rattle.psy_window.specs.declared.span.Span.TheVariants.{DueLast, FirstFree}
use Rattle.psy_window.specs.Table.{last_of, IsCell, IsThrough, IsRow, IsTop, behind}
use Rattle.psy_window.specs.Windows.{IsEdge, Fits}
use Rattle.psy_window.proofs.Cells.{through_none, through_alone, through_on, row_more}
use Rattle.psy_window.proofs.Paths.{within_nil}
use Rattle.psy_window.proofs.Tables.{IsTable, table_more}
use Rattle.psy_window.proofs.Tops.{top_none, top_more, greatest_due, greatest_free}

abbrev no_edge : Edge
no_edge = record { from = 0; to = 0; len = 0; due = 0; weight = 0 }

-- Through an edge, over the rows of the shorter lengths.
through_some : (graph : List Edge) (nodes : ℕ) (span : Span) (within : ℕ) (table : List ℕ) (e : Edge) → IsTable graph nodes span within table → IsEdge nodes e → Contains graph e → (n : ℕ) × IsThrough graph span within e n
through_some graph nodes span within table e is edge in' =
    elim (cases_lt within (last_of span e)) [
      | inl long ↦ (0, through_none graph nodes span within e edge long)
      | inr last ↦ elim (cases_lt within e.len) [
        | inl long ↦ (e.weight, through_alone graph nodes span within e edge in' (omega (arith, last)) long)
        | inr short ↦ (
            let before : ℕ = within - e.len in
            let less : before < within = omega (arith, short, edge.after, edge.due) in
            let n : ℕ = get_or table (before * nodes + e.to) 0 in
            (e.weight + n, through_on graph nodes span within e n edge in' (omega (arith, last)) (omega (arith, short)) (is.cells before e.to less edge.to)))
      ]
    ]

-- A row over the rows of the shorter lengths, as far as its edges are seen.
row_some : (graph : List Edge) (nodes : ℕ) (span : Span) (within : ℕ) (table : List ℕ) → All (IsEdge nodes) graph → IsTable graph nodes span within table → (seen : ℕ) → seen ≤ length graph → (row : List ℕ) × (length row ≡ nodes) × IsRow graph seen nodes span within row
row_some graph nodes span within table edges is zero less = (
  replicate nodes 0,
  length-replicate nodes 0,
  λ node inside. subst (λ n. IsCell graph 0 span within node n) (sym (get_or-replicate nodes node 0 0 inside)) (record {
    most = λ i e path none. absurd (omega (arith, none));
    one = ([], tt, within_nil span within, refl);
    small = omega arith;
  }),
)
row_some graph nodes span within table edges is (suc seen) less =
    let before = row_some graph nodes span within table edges is seen (omega (arith, less)) in
    let here : seen < length graph = omega (arith, less) in
    let e : Edge = get_or graph seen no_edge in
    let edge : IsEdge nodes e = All-get_or (IsEdge nodes) graph seen no_edge here edges in
    let through = through_some graph nodes span within table e is edge (Contains-get_or graph seen no_edge here) in
    let v : ℕ = max (get_or before.0 e.from 0) through.0 in
    let row = row_more graph seen nodes span within through.0 before.0 e before.1 here (get_or_default graph seen no_edge e here) edge.from through.1 before.2 in
    (set before.0 e.from v, length-set before.0 e.from v ∙ before.1, subst (λ n. IsRow graph n nodes span within (set before.0 e.from v)) (add-one seen) row)

-- A table, row by row.
table_some : (graph : List Edge) (nodes : ℕ) (span : Span) → All (IsEdge nodes) graph → (rows : ℕ) → (table : List ℕ) × IsTable graph nodes span rows table
table_some graph nodes span edges zero = ([], record { size = omega arith; cells = λ within node none. absurd (omega (arith, none)) })
table_some graph nodes span edges (suc rows) =
    let before = table_some graph nodes span edges rows in
    let row = row_some graph nodes span rows before.0 edges before.1 (length graph) (omega arith) in
    (before.0 ++ row.0, subst (λ n. IsTable graph nodes span n (before.0 ++ row.0)) (add-one rows) (table_more graph nodes span rows before.0 row.0 before.1 row.1 row.2))

-- The greatest of what f gives at the first items.
top_some : (X : Type 0) (f : X → ℕ) (items : List X) (d : X) (seen : ℕ) → seen ≤ length items → (n : ℕ) × IsTop f items seen n
top_some X f items d zero less = (0, top_none f items)
top_some X f items d (suc seen) less =
    let before = top_some X f items d seen (omega (arith, less)) in
    let m : ℕ = max before.0 (f (get_or items seen d)) in
    (m, subst (λ n. IsTop f items n m) (add-one seen) (top_more X f items seen before.0 m d (omega (arith, less)) refl before.1))

-- The paths that fit a length have a greatest weight.
pub greatest_some : (graph : List Edge) (nodes : ℕ) (span : Span) (within : ℕ) → All (IsEdge nodes) graph → (n : ℕ) × IsGreatestWeight graph (Fits span within) n
greatest_some graph nodes DueLast within edges =
    let table = table_some graph nodes DueLast edges within in
    let row = row_some graph nodes DueLast within table.0 edges table.1 (length graph) (omega arith) in
    let top = top_some ℕ (λ cell. cell) row.0 0 (length row.0) (omega arith) in
    (top.0, greatest_due graph nodes within top.0 row.0 edges row.1 row.2 top.1)
greatest_some graph nodes FirstFree within edges =
    let table = table_some graph nodes FirstFree edges within in
    let row = row_some graph nodes FirstFree within table.0 edges table.1 (length graph) (omega arith) in
    let top = top_some Edge (behind row.0) graph no_edge (length graph) (omega arith) in
    (top.0, greatest_free graph nodes within top.0 row.0 edges row.2 top.1)

-- They have no two.
pub greatest_one : (graph : List Edge) (Fit : List Edge → Type 0) (n m : ℕ) → IsGreatestWeight graph Fit n → IsGreatestWeight graph Fit m → n ≡ m
greatest_one graph Fit n m is is' =
    let l : n ≤ m = subst (λ w. w ≤ m) is.one.3 (is'.most is.one.0 is.one.1 is.one.2) in
    let l' : m ≤ n = subst (λ w. w ≤ n) is'.one.3 (is.most is'.one.0 is'.one.1 is'.one.2) in
    omega (arith, l, l')
