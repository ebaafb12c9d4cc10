-- What is left of the proof of `table::fill_row`.
use Rattle.std.proofs.Common.{ℕ, ◌+◌, get_or, set, sym, subst, arith}
use Rattle.std.proofs.lemmas.List.{get_or_default}
use Rattle.std.proofs.lemmas.List.Elements.{All-get_or}
use Rattle.psy_base.specs.declared.edge.Edge.{Edge}
use Rattle.psy_window.specs.Table.{IsRow}
use Rattle.psy_window.specs.Windows.{IsEdge}
use Rattle.psy_window.proofs.Cells.{row_more}
use Rattle.psy_window.proofs.table.fill_row.Goals as goal

abbrev no_edge : Edge
no_edge = record { from = 0; to = 0; len = 0; due = 0; weight = 0 }

pub loop-at-preserved : goal.loop-at-preserved
loop-at-preserved c =
    let edges = c.args.edges.now in
    let at = c.loop-at.at in
    let row = c.loop-at.row in
    let e = get_or edges at no_edge in
    let edge : IsEdge c.args.layout.nodes e = All-get_or (IsEdge c.args.layout.nodes) edges at no_edge c.loop-at-test.true c.requires.edges in
    let P : ℕ → Type 0 = λ v. IsRow edges (at + 1) c.args.layout.nodes c.args.span c.args.within (set row e.from v) in
    subst P (sym c.max.ensures) (row_more edges at c.args.layout.nodes c.args.span c.args.within c.through-weight.result row e (omega (arith, c.loop-at.auto.row, c.fill.ensures.len, c.requires.row)) c.loop-at-test.true (get_or_default edges at no_edge e c.loop-at-test.true) edge.from (c.through-weight.ensures no_edge) c.loop-at.invariant)
