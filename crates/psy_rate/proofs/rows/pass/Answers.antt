-- What is left of the proof of `rows::pass`.
use Rattle.std.proofs.Common.{◌≡◌, All, length, sym, subst, arith}
use Rattle.psy_window.specs.Windows.{IsEdge}
use Rattle.psy_rate.specs.Rows.{IsRow, HasGone}
use Rattle.psy_rate.proofs.Cells.{row_done}
use Rattle.psy_rate.proofs.Goings.{gone_none}
use Rattle.psy_rate.proofs.rows.pass.Goals as goal

pub loop-seen-init : goal.loop-seen-init
loop-seen-init c = (λ count cells. cells, gone_none c.args.edges.now c.args.rate c.args.row.now, c.requires.chosen)

pub loop-seen-preserved : goal.loop-seen-preserved
loop-seen-preserved c = (
  λ count cells. c.take_edge-last.ensures.row count (c.loop-seen.invariant.0 count cells),
  c.take_edge-last.ensures.gone c.args.row.now c.loop-seen.invariant.1,
  omega arith,
)

pub take_edge-last-requires : goal.take_edge-last-requires
take_edge-last-requires c =
    record {
      edges = subst (λ n. All (IsEdge n) c.args.edges.now) (sym c.loop-seen.auto.row) c.requires.edges;
      seen = c.loop-seen-test.true;
      few = c.requires.few;
      row = (c.requires.row.0, c.requires.row.1, c.loop-seen.invariant.0 c.requires.row.0 c.requires.row.2);
      chosen = c.loop-seen.invariant.2;
    }

pub returns : goal.returns
returns c =
    let edges = c.args.edges.now in
    let row = c.loop-seen.row in
    let all : c.loop-seen.seen ≡ length edges = omega arith in
    record {
      row = λ count cells. row_done edges c.args.rate count row c.requires.few (subst (λ seen. IsRow edges seen c.args.rate count row) all (c.loop-seen.invariant.0 count cells));
      gone = subst (λ seen. HasGone edges seen c.args.rate c.args.row.now row c.loop-seen.last) all c.loop-seen.invariant.1;
    }
