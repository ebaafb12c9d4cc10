-- A row takes in the next edge: it grows at the edge's node, or it stays.
use Rattle.std.proofs.Common.{◌≡◌, ℕ, ◌+◌, ◌-◌, ◌<◌, ◌≤◌, List, Option, Some, length, get_or, set, length-set, All, refl, arith}
use Rattle.std.specs.List.{Contains}
use Rattle.std.proofs.lemmas.List.{get_or_default, get_or-set_same, get_or-set_other}
use Rattle.std.proofs.lemmas.List.Elements.{All-get_or, Contains-get_or}
use Rattle.psy_base.specs.declared.edge.Edge.{Edge}
use Rattle.psy_rate.specs.Rows.{excess, IsRow, HasGone}
use Rattle.psy_rate.proofs.Cells.{row_more}
use Rattle.psy_rate.proofs.Goings.{gone_stays, gone_grows}
use Rattle.psy_window.specs.Windows.{IsEdge}

-- What stands where there is no edge.
abbrev no_edge : Edge
no_edge = record { from = 0; to = 0; len = 0; due = 0; weight = 0 }

-- The next edge, from the last one on
abbrev pub next_of : List Edge → ℕ → Edge
next_of graph seen = get_or graph (length graph - 1 - seen) no_edge

module _ (graph : List Edge) (seen rate : ℕ) (row : List ℕ) (less : seen < length graph) (edges : All (IsEdge (length row)) graph) where
  inside : length graph - 1 - seen < length graph
  inside = omega (arith, less)

  at : (d : Edge) → get_or graph (length graph - 1 - seen) d ≡ next_of graph seen
  at d = get_or_default graph (length graph - 1 - seen) d no_edge inside

  edge : IsEdge (length row) (next_of graph seen)
  edge = All-get_or (IsEdge (length row)) graph (length graph - 1 - seen) no_edge inside edges

  contained : Contains graph (next_of graph seen)
  contained = Contains-get_or graph (length graph - 1 - seen) no_edge inside

  pub next_stays : (count : ℕ) → excess rate (next_of graph seen) (get_or row (next_of graph seen).to 0) ≤ get_or row (next_of graph seen).from 0 → IsRow graph seen rate count row → IsRow graph (seen + 1) rate count row
  next_stays count given cells = row_more graph seen rate count row row (next_of graph seen) less at contained edge refl (omega (arith, given)) (λ node other. refl) cells

  pub next_grows : (count given : ℕ) → given ≡ excess rate (next_of graph seen) (get_or row (next_of graph seen).to 0) → get_or row (next_of graph seen).from 0 < given → IsRow graph seen rate count row → IsRow graph (seen + 1) rate count (set row (next_of graph seen).from given)
  next_grows count given is grew cells =
      let from : ℕ = (next_of graph seen).from in
      row_more graph seen rate count row (set row from given) (next_of graph seen) less at contained edge (length-set row from given) (omega (arith, is, grew, get_or-set_same row from given 0 edge.from)) (λ node other. get_or-set_other row from node given 0 other) cells

  pub stays_gone : (before : List ℕ) (last : Option ℕ) → excess rate (next_of graph seen) (get_or row (next_of graph seen).to 0) ≤ get_or row (next_of graph seen).from 0 → HasGone graph seen rate before row last → HasGone graph (seen + 1) rate before row last
  stays_gone before last given gone = gone_stays graph seen rate before row last (next_of graph seen) less at given gone

  pub grows_gone : (before : List ℕ) (last : Option ℕ) (given : ℕ) → get_or row (next_of graph seen).from 0 < given → HasGone graph seen rate before row last → HasGone graph (seen + 1) rate before (set row (next_of graph seen).from given) (Some (next_of graph seen).from)
  grows_gone before last given grew gone =
      let from : ℕ = (next_of graph seen).from in
      gone_grows graph seen rate before row (set row from given) last from edge.from (length-set row from given) (omega (arith, grew, get_or-set_same row from given 0 edge.from)) (λ node other. get_or-set_other row from node given 0 other) gone
