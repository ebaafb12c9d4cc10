-- What is left of the proof of `rates::rise`.
use Rattle.std.proofs.Common.{◌≡◌, ◌*◌, ◌≤◌, All, length, arith, sym, subst}
use Rattle.psy_base.specs.declared.limits.TheConstants.{BUDGET}
use Rattle.psy_rate.specs.declared.line.TheConstants.{SCALE}
use Rattle.psy_rate.proofs.Passed.{passed_least, rate_small}
use Rattle.psy_rate.proofs.rates.rise.Goals as goal
use Rattle.psy_window.specs.Windows.{IsEdge}

pub loop-intercept-preserved : goal.loop-intercept-preserved
loop-intercept-preserved c less allows = passed_least c.args.edges.now c.loop-intercept.rate c.in-Passed.next less c.in-Passed.ensures allows

pub loop-intercept-smaller : goal.loop-intercept-smaller
loop-intercept-smaller c =
    let small : c.in-Passed.next ≤ SCALE * BUDGET = rate_small c.args.edges.now (length c.args.row.now) c.in-Passed.next c.requires.edges (λ less allows. passed_least c.args.edges.now c.loop-intercept.rate c.in-Passed.next less c.in-Passed.ensures allows) in
    omega (arith, small, c.in-Passed.ensures.above)

pub try_rate-requires : goal.try_rate-requires
try_rate-requires c =
    let nodes : length c.loop-intercept.row ≡ length c.args.row.now = omega arith in
    let small : c.loop-intercept.rate ≤ SCALE * BUDGET = rate_small c.args.edges.now (length c.args.row.now) c.loop-intercept.rate c.requires.edges c.loop-intercept.invariant in
    record {
      edges = subst (λ n. All (IsEdge n) c.args.edges.now) (sym nodes) c.requires.edges;
      few = c.requires.few;
      nodes = omega arith;
      chosen = omega arith;
      rate = omega (arith, small);
    }

pub returns-in-Allowed : goal.returns-in-Allowed
returns-in-Allowed c = (record { allows = c.in-Allowed.ensures.0; least = c.loop-intercept.invariant }, c.in-Allowed.ensures.1)
