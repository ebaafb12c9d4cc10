-- What is left of the proof of `brace::open_brace`.
use Rattle.std.proofs.Common.{◌-◌, sym, arith, ◌∙◌}
use Rattle.psy_expect.specs.declared.brace.Brace.TheVariants.{Opens, Closes, Neither}
use Rattle.psy_expect.proofs.OpenBraces.{closed-back, closed-end, found, none-back, open-back, open-end}
use Rattle.psy_expect.proofs.brace.open_brace.Goals as goal

pub back-init : goal.back-init
back-init c = record { within = omega arith; closed = closed-end c.args.front.now; few = omega arith; none = open-end c.args.front.now }

pub back-preserved : goal.back-preserved
back-preserved c =
    let t = c.index-front-at.result in
    let kind = sym c.in-Neither.is ∙ c.brace_of.ensures in
    record {
      within = omega arith;
      closed = closed-back c.args.front.now c.back.at t t Neither c.back.closed c.back-test.true c.back.invariant.within c.index-front-at.is kind c.back.invariant.closed;
      few = omega arith;
      none = open-back c.args.front.now c.back.at t t Neither c.back.closed c.back-test.true c.back.invariant.within c.index-front-at.is kind c.back.invariant.closed c.back.invariant.none;
    }

pub back-preserved-in-Closes : goal.back-preserved-in-Closes
back-preserved-in-Closes c =
    let t = c.index-front-at.result in
    let kind = sym c.in-Closes.is ∙ c.brace_of.ensures in
    record {
      within = omega arith;
      closed = closed-back c.args.front.now c.back.at t t Closes c.back.closed c.back-test.true c.back.invariant.within c.index-front-at.is kind c.back.invariant.closed;
      few = omega arith;
      none = open-back c.args.front.now c.back.at t t Closes c.back.closed c.back-test.true c.back.invariant.within c.index-front-at.is kind c.back.invariant.closed c.back.invariant.none;
    }

pub returns-then-closed-eq0 : goal.returns-then-closed-eq0
returns-then-closed-eq0 c =
    let t = c.index-front-at.result in
    let kind = sym c.in-Opens.is ∙ c.brace_of.ensures in
    let closed = sym c.if-closed-eq0.true ∙ c.back.invariant.closed in
    let open_here = open-back c.args.front.now c.back.at t t Opens 0 c.back-test.true c.back.invariant.within c.index-front-at.is kind closed c.back.invariant.none in
    sym (found c.args.front.now (c.back.at - 1) t.place open_here)

pub back-preserved-in-Opens : goal.back-preserved-in-Opens
back-preserved-in-Opens c =
    let t = c.index-front-at.result in
    let kind = sym c.in-Opens.is ∙ c.brace_of.ensures in
    record {
      within = omega arith;
      closed = closed-back c.args.front.now c.back.at t t Opens c.back.closed c.back-test.true c.back.invariant.within c.index-front-at.is kind c.back.invariant.closed;
      few = omega arith;
      none = none-back c.args.front.now c.back.at t c.back.closed c.if-closed-eq0.false c.back-test.true c.back.invariant.within c.index-front-at.is kind c.back.invariant.closed c.back.invariant.none;
    }
