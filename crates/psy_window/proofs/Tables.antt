-- The whole table, as far as a length.
use Rattle.std.proofs.Common.{◌≡◌, ℕ, ◌+◌, ◌*◌, ◌<◌, List, length, get_or, ◌++◌, ap, add-one, length-append, sym, subst, ◌∙◌, inl, inr, arith}
use Rattle.std.proofs.lemmas.Bool.{cases_eq}
use Rattle.std.proofs.lemmas.List.{get_or_append_left, get_or-append-add}
use Rattle.std.proofs.lemmas.Nat.{mul-add-lt}
use Rattle.std.proofs.Math.Nat.{mul_comm, suc-mul}
use Rattle.psy_base.specs.declared.edge.Edge.{Edge}
use Rattle.psy_window.specs.declared.span.Span.{Span}
use Rattle.psy_window.specs.Table.{IsCell, IsRow}

-- The table up to and without a row: its rows one after another.
pub record IsTable (graph : List Edge) (nodes : ℕ) (span : Span) (rows : ℕ) (table : List ℕ) : Type 0 where
  pub size : length table ≡ rows * nodes
  pub cells : (within node : ℕ) → within < rows → node < nodes → IsCell graph (length graph) span within node (get_or table (within * nodes + node) 0)

-- The table goes on by a row.
pub table_more : (graph : List Edge) (nodes : ℕ) (span : Span) (rows : ℕ) (table row : List ℕ) → IsTable graph nodes span rows table → length row ≡ nodes → IsRow graph (length graph) nodes span rows row → IsTable graph nodes span (rows + 1) (table ++ row)
table_more graph nodes span rows table row before long cells =
    record {
      size = (let e : (rows + 1) * nodes ≡ rows * nodes + nodes = rw (add-one rows) (suc-mul rows nodes) in omega (arith, length-append table row, before.size, long, e));
      cells = λ within node less inside.
          let P : ℕ → Type 0 = λ v. IsCell graph (length graph) span within node v in
          elim (cases_eq within rows) [
            | inl same ↦ (
                let Q : ℕ → Type 0 = λ w. IsCell graph (length graph) span w node (get_or row node 0) in
                let end : rows * nodes + node ≡ length table + node = omega (arith, before.size) in
                let place : within * nodes + node ≡ length table + node = ap (λ w. w * nodes + node) same ∙ end in
                let there : get_or (table ++ row) (within * nodes + node) 0 ≡ get_or row node 0 = ap (λ i. get_or (table ++ row) i 0) place ∙ get_or-append-add table row node 0 in
                subst P (sym there) (subst Q (sym same) (cells node inside)))
            | inr other ↦ (
                let earlier : within < rows = omega (arith, less, other) in
                let here : within * nodes + node < length table = omega (arith, mul-add-lt within nodes node rows earlier inside, mul_comm nodes rows, before.size) in
                subst P (sym (get_or_append_left table row 0 (within * nodes + node) here)) (before.cells within node earlier inside))
          ];
    }
