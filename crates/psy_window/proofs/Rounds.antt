-- The rows that are kept, which go round.
use Rattle.std.proofs.Common.{◌≡◌, ◌⊎◌, ℕ, ◌+◌, ◌-◌, ◌*◌, ◌<◌, ◌≤◌, List, length, get_or, ◌++◌, take, drop, ap, add-one, length-append, length-drop, sym, subst, ◌∙◌, inl, inr, arith}
use Rattle.std.specs.Prelude.{◌≢◌}
use Rattle.std.proofs.lemmas.Bool.{cases_eq, cases_order}
use Rattle.std.proofs.lemmas.Bool.Decides.{nat_tests}
use Rattle.std.proofs.lemmas.List.{get_or_append_left, get_or-append-add, get_or-append_right, get_or-take, get_or-drop, length-take}
use Rattle.std.proofs.lemmas.Nat.{mul-le}
use Rattle.std.proofs.Math.Nat.{suc-mul}
use Rattle.psy_base.specs.declared.edge.Edge.{Edge}
use Rattle.psy_window.specs.declared.span.Span.{Span}
use Rattle.psy_window.specs.Table.{IsCell, IsRow, KeepsRows, row_after, row_back}

module _ (rows next : ℕ) (inside : next < rows) where
  -- a row that is kept on isn't the one that is next
  back_apart : (back : ℕ) → 1 ≤ back → back < rows → row_back rows next back ≢ next
  back_apart back some most same = grind (arith, nat_tests)

  pub after_inside : row_after rows next < rows
  after_inside = grind (arith, nat_tests)

  -- behind the next row it stands one back, and the others one further
  after_first : row_back rows (row_after rows next) 1 ≡ next
  after_first = grind (arith, nat_tests)

  after_further : (back : ℕ) → 1 ≤ back → back < rows → row_back rows (row_after rows next) (back + 1) ≡ row_back rows next back
  after_further back some most = grind (arith, nat_tests)

module _ (table row : List ℕ) (place : ℕ) (fits : place + length row ≤ length table) where
  -- the table with a row put at a place
  abbrev put : List ℕ
  put = take place table ++ row ++ drop (place + length row) table

  front : length (take place table) ≡ place
  front = omega (arith, length-take place table, fits)

  before_rest : length (take place table ++ row) ≡ place + length row
  before_rest = omega (arith, front, length-append (take place table) row)

  put_long : length put ≡ length table
  put_long = omega (arith, fits, before_rest, length-append (take place table ++ row) (drop (place + length row) table), length-drop (place + length row) table)

  put_here : (i : ℕ) → i < length row → get_or put (place + i) 0 ≡ get_or row i 0
  put_here i less =
      get_or_append_left (take place table ++ row) (drop (place + length row) table) 0 (place + i) (omega (arith, less, before_rest))
      ∙ ap (λ n. get_or (take place table ++ row) (n + i) 0) (sym front)
      ∙ get_or-append-add (take place table) row i 0

  put_below : (i : ℕ) → i < place → get_or put i 0 ≡ get_or table i 0
  put_below i less =
      get_or_append_left (take place table ++ row) (drop (place + length row) table) 0 i (omega (arith, less, before_rest))
      ∙ get_or_append_left (take place table) row 0 i (omega (arith, less, front))
      ∙ get_or-take place table i 0 less

  put_above : (i : ℕ) → place + length row ≤ i → get_or put i 0 ≡ get_or table i 0
  put_above i more =
      let same : place + length row + (i - (place + length row)) ≡ i = omega (arith, more) in
      get_or-append_right (take place table ++ row) (drop (place + length row) table) (place + length row) i 0 before_rest more
      ∙ get_or-drop (place + length row) table (i - (place + length row)) 0
      ∙ ap (λ n. get_or table n 0) same

-- The end of a row is the start of the next one.
row_end : (row nodes : ℕ) → (row + 1) * nodes ≡ row * nodes + nodes
row_end row nodes = rw (add-one row) (suc-mul row nodes)

-- A row is within the table.
pub row_fits : (rows nodes row : ℕ) → row < rows → row * nodes + nodes ≤ rows * nodes
row_fits rows nodes row less = omega (arith, row_end row nodes, mul-le (row + 1) nodes rows nodes (omega (arith, less)) (omega arith))

pub cell_fits : (rows nodes row node : ℕ) → row < rows → node < nodes → row * nodes + node < rows * nodes
cell_fits rows nodes row node less inside = omega (arith, row_fits rows nodes row less, inside)

-- A cell of another row stands before a row or behind it.
other_row : (nodes next row node : ℕ) → row ≢ next → node < nodes → (row * nodes + node < next * nodes) ⊎ (next * nodes + nodes ≤ row * nodes + node)
other_row nodes next row node apart inside = elim (cases_order row next) [
  | inl same ↦ absurd (apart same)
  | inr other ↦ elim other [ inl first ↦ inl (cell_fits next nodes row node first inside) | inr last ↦ inr (omega (arith, row_fits row nodes next last)) ]
]

module _ (graph : List Edge) (nodes : ℕ) (span : Span) (rows next within : ℕ) (table row : List ℕ) (before : KeepsRows graph span within (record { nodes = nodes; rows = rows; next = next }) table) (long : length row ≡ nodes)
    (cells : IsRow graph (length graph) nodes span within row) where
  fits : next * nodes + length row ≤ length table
  fits = omega (arith, long, before.size, row_fits rows nodes next before.next)

  abbrev then : List ℕ
  then = put table row (next * nodes) fits

  here : (node : ℕ) → node < nodes → get_or then (next * nodes + node) 0 ≡ get_or row node 0
  here node inside = put_here table row (next * nodes) fits node (omega (arith, long, inside))

  others : (r node : ℕ) → r ≢ next → node < nodes → get_or then (r * nodes + node) 0 ≡ get_or table (r * nodes + node) 0
  others r node apart inside = elim (other_row nodes next r node apart inside) [
    | inl first ↦ put_below table row (next * nodes) fits (r * nodes + node) first
    | inr last ↦ put_above table row (next * nodes) fits (r * nodes + node) (omega (arith, last, long))
  ]

  kept : (back node : ℕ) → 1 ≤ back → back ≤ rows → back ≤ within + 1 → node < nodes → IsCell graph (length graph) span (within + 1 - back) node (get_or then (row_back rows (row_after rows next) back * nodes + node) 0)
  kept back node some most reached inside =
      let C : ℕ → ℕ → Type 0 = λ w v. IsCell graph (length graph) span w node v in
      elim (cases_eq back 1) [
        | inl one ↦
            let length_is : within ≡ within + 1 - back = omega (arith, one) in
            let place : row_back rows (row_after rows next) back ≡ next = ap (row_back rows (row_after rows next)) one ∙ after_first rows next before.next in
            let value : get_or row node 0 ≡ get_or then (row_back rows (row_after rows next) back * nodes + node) 0 = sym (here node inside) ∙ ap (λ r. get_or then (r * nodes + node) 0) (sym place) in
            subst (λ w. C w (get_or then (row_back rows (row_after rows next) back * nodes + node) 0)) length_is (subst (C within) value (cells node inside))
        | inr further ↦
            let b : ℕ = back - 1 in
            let back_is : back ≡ b + 1 = omega (arith, some) in
            let first : 1 ≤ b = omega (arith, some, further) in
            let less : b < rows = omega (arith, some, most) in
            let place : row_back rows (row_after rows next) back ≡ row_back rows next b = ap (row_back rows (row_after rows next)) back_is ∙ after_further rows next before.next b first less in
            let value : get_or table (row_back rows next b * nodes + node) 0 ≡ get_or then (row_back rows (row_after rows next) back * nodes + node) 0 =
            sym (others (row_back rows next b) node (back_apart rows next before.next b first less) inside) ∙ ap (λ r. get_or then (r * nodes + node) 0) (sym place) in
            let length_is : within - b ≡ within + 1 - back = omega (arith, back_is) in
            subst (λ w. C w (get_or then (row_back rows (row_after rows next) back * nodes + node) 0)) length_is
            (subst (C (within - b)) value (before.cells b node first (omega (arith, less)) (omega (arith, back_is, reached)) inside))
      ]

  -- The next row takes the place of the oldest.
  pub rows_more : KeepsRows graph span (within + 1) (record { nodes = nodes; rows = rows; next = row_after rows next }) (take (next * nodes) table ++ row ++ drop (next * nodes + length row) table)
  rows_more = record { size = put_long table row (next * nodes) fits ∙ before.size; next = after_inside rows next before.next; cells = kept }
