-- What is left of the proof of `rates::try_rate`.
use Rattle.std.proofs.Common.{◌≡◌, ◌+◌, ◌<◌, All, length, refl, arith, sym, subst}
use Rattle.std.specs.List.{Contains}
use Rattle.std.proofs.lemmas.List.Elements.{All-contains}
use Rattle.psy_base.specs.declared.edge.Edge.{Edge}
use Rattle.psy_rate.specs.Rows.{IsRow}
use Rattle.psy_rate.proofs.Cells.{row_none}
use Rattle.psy_rate.proofs.Passed.{grown}
use Rattle.psy_rate.proofs.Potentials.{allowed, intercept}
use Rattle.psy_rate.proofs.rates.try_rate.Goals as goal
use Rattle.psy_window.specs.Windows.{IsEdge}

pub loop-init : goal.loop-init
loop-init c = (
  row_none c.args.edges.now c.args.rate c.fill.new.self (λ node inside. c.fill.ensures.clones node 0 (omega (arith, inside, c.fill.ensures.len)) refl),
  λ none. absurd (omega (arith, none)),
)

pub loop-preserved : goal.loop-preserved
loop-preserved c =
    let edges = c.args.edges.now in
    let before = c.loop.row in
    let row = c.pass.new.row in
    let node = c.in-Some.last in
    let size : length row ≡ length before = c.in-Some.ensures.gone.size in
    let nodes : length before ≡ length c.args.row.now = omega arith in
    let all : All (IsEdge (length before)) edges = subst (λ n. All (IsEdge n) edges) (sym nodes) c.requires.edges in
    let new : IsRow edges 0 c.args.rate (c.loop.counter + 1) row = c.in-Some.ensures.row c.loop.counter c.loop.invariant.0 in (
      new,
      λ many. grown edges c.args.rate c.loop.counter node before row all (omega (arith, many, size)) size c.in-Some.ensures.gone.outcome.0 c.in-Some.ensures.gone.outcome.1 c.loop.invariant.0 new,
    )

pub pass-requires : goal.pass-requires
pass-requires c =
    let nodes : length c.loop.row ≡ length c.args.row.now = omega arith in
    record {
      edges = subst (λ n. All (IsEdge n) c.args.edges.now) (sym nodes) c.requires.edges;
      few = c.requires.few;
      row = (c.loop.counter, omega arith, c.loop.invariant.0);
      chosen = omega arith;
    }

pub returns-in-None : goal.returns-in-None
returns-in-None c =
    let edges = c.args.edges.now in
    let row = c.pass.new.row in
    let size : length row ≡ length c.args.row.now = omega (arith, c.in-None.ensures.gone.size) in
    let inside : (e : Edge) → Contains edges e → e.from < length row = λ e in'. omega (arith, size, (All-contains (IsEdge (length c.args.row.now)) edges e c.requires.edges in').from) in (
      allowed edges c.args.rate row c.in-None.ensures.gone.outcome.1,
      intercept edges c.args.rate (c.loop.counter + 1) c.greatest.result row inside c.in-None.ensures.gone.outcome.1 (c.in-None.ensures.row c.loop.counter c.loop.invariant.0) c.greatest.ensures,
    )
