-- What is left of the proof of `greatest::greatest`.
use Rattle.std.proofs.Common.{length, sym, subst}
use Rattle.psy_base.specs.Paths.{IsGreatestWeight}
use Rattle.psy_window.specs.declared.span.Span.{Span}
use Rattle.psy_window.specs.Table.{IsRow}
use Rattle.psy_window.specs.Windows.{Fits}
use Rattle.psy_window.proofs.Tops.{greatest_due, greatest_free, row_small}
use Rattle.psy_window.proofs.greatest.greatest.Goals as goal

pub returns-in-DueLast-clause-greatest : goal.returns-in-DueLast-clause-greatest
returns-in-DueLast-clause-greatest c =
    let edges = c.args.edges.now in
    let row = c.args.row.now in
    let P : Span → Type 0 = λ span. IsRow edges (length edges) c.args.nodes span c.args.within row → IsGreatestWeight edges (Fits span c.args.within) c.greatest_cell.result in
    subst P (sym c.in-DueLast.is) (λ cells. greatest_due edges c.args.nodes c.args.within c.greatest_cell.result row c.requires.edges c.requires.row cells c.greatest_cell.ensures) c.requires.cells

pub returns-in-DueLast-clause-small : goal.returns-in-DueLast-clause-small
returns-in-DueLast-clause-small c = row_small c.args.edges.now c.args.nodes c.args.span c.args.within c.greatest_cell.result c.args.row.now c.requires.row c.requires.cells c.greatest_cell.ensures

pub returns-in-FirstFree-clause-greatest : goal.returns-in-FirstFree-clause-greatest
returns-in-FirstFree-clause-greatest c =
    let edges = c.args.edges.now in
    let row = c.args.row.now in
    let P : Span → Type 0 = λ span. IsRow edges (length edges) c.args.nodes span c.args.within row → IsGreatestWeight edges (Fits span c.args.within) c.greatest_behind.result in
    subst P (sym c.in-FirstFree.is) (λ cells. greatest_free edges c.args.nodes c.args.within c.greatest_behind.result row c.requires.edges cells c.greatest_behind.ensures) c.requires.cells
