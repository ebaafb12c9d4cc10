-- What is left of the proof of `rates::certify`.
use Rattle.std.proofs.Common.{◌≡◌, ◌*◌, ◌≤◌, All, length, arith, sym, subst}
use Rattle.psy_base.specs.declared.limits.TheConstants.{BUDGET}
use Rattle.psy_rate.specs.declared.line.TheConstants.{SCALE}
use Rattle.psy_rate.proofs.Passed.{intercept_small, rate_small}
use Rattle.psy_rate.proofs.rates.certify.Goals as goal
use Rattle.psy_window.specs.Windows.{IsEdge}

pub returns : goal.returns
returns c =
    let edges = c.args.edges.now in
    let line = c.rise.result in
    let rate : line.rate ≤ SCALE * BUDGET = rate_small edges c.args.nodes line.rate c.requires.edges c.rise.ensures.0.least in
    let intercept : line.intercept ≤ SCALE * BUDGET * c.args.nodes = intercept_small edges c.args.nodes line.rate line.intercept c.requires.edges c.rise.ensures.0.allows c.rise.ensures.1 in
    record { line = c.rise.ensures; rate = omega (arith, rate); intercept = omega (arith, intercept, c.requires.nodes) }

pub rise-requires : goal.rise-requires
rise-requires c =
    let nodes : length c.deref_mut.result.now ≡ c.args.nodes = omega (arith, c.deref_mut.ensures.len, c.in_ok-row.ensures.len) in
    record {
      edges = subst (λ n. All (IsEdge n) c.args.edges.now) (sym nodes) c.requires.edges;
      few = c.requires.few;
      nodes = omega (arith, nodes, c.requires.nodes);
      chosen = omega (arith, nodes, c.deref_mut-2.ensures.len, c.in_ok-chosen.ensures.len);
    }
