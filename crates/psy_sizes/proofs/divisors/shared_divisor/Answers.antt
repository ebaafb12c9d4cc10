-- What is left of the proof of `divisors::shared_divisor`.
use Rattle.std.proofs.Common.{◌+◌, ◌/◌, ◌*◌, ◌<◌, get_or, length, sym, subst, subst₂, arith}
use Rattle.std.specs.Int.{IsGcd}
use Rattle.std.proofs.Math.Nat.{pos_of_dvd_of_pos}
use Rattle.std.proofs.lemmas.Nat.Gcd.{le_of_dvd}
use Rattle.std.proofs.lemmas.List.{get_or_default}
use Rattle.psy_clock.specs.declared.clock.Clock.{Clock}
use Rattle.psy_sizes.proofs.Sharing.{Shares, periods_before, period_of, no_point, no_clock, shares_nil, shares_some, shares_more, periods_more, own_some, shared_by}
use Rattle.psy_sizes.proofs.divisors.shared_divisor.Goals as goal
use Rattle.psy_sizes.proofs.divisors.shared_divisor.Goals.{After-common_divisor}

-- What is shared with one point more
more : (c : After-common_divisor) → Shares (periods_before c.args.clocks.now c.args.points.now (c.points.point + 1)) c.args.period (c.points.shared / c.common_divisor.result * c.common_divisor-common.result)
more c =
    let clocks = c.args.clocks.now in
    let points = c.args.points.now in
    let at = c.points.point in
    let named : (get_or points at no_point).clock < length clocks = c.requires.named at no_point c.points-test.true in
    let nothing : Clock = record { period = 0; first = 0 } in
    let own : IsGcd (period_of clocks (get_or points at no_point)) c.args.period c.common_divisor-common.result =
    subst (λ k. IsGcd k.period c.args.period c.common_divisor-common.result) (get_or_default clocks (get_or points at no_point).clock nothing no_clock named)
    (subst₂ (λ n p. IsGcd n p c.common_divisor-common.result) c.from.ensures c.from-in-points.ensures c.common_divisor-common.ensures) in
    subst (λ ns. Shares ns c.args.period (c.points.shared / c.common_divisor.result * c.common_divisor-common.result)) (sym (periods_more clocks points at (omega arith) c.points-test.true))
    (shares_more (periods_before clocks points at) c.args.period c.points.shared (period_of clocks (get_or points at no_point)) c.common_divisor-common.result c.common_divisor.result c.requires.some
    (own_some clocks points at c.requires.clocks c.requires.named c.points-test.true) c.points.invariant own c.common_divisor.ensures)

pub points-init : goal.points-init
points-init c = shares_nil c.args.period

pub nonzero_div-shared : goal.nonzero_div-shared
nonzero_div-shared c = pos_of_dvd_of_pos c.common_divisor.ensures.0 (shares_some (periods_before c.args.clocks.now c.args.points.now c.points.point) c.args.period c.points.shared c.points.invariant)

pub overflow_mul-shared : goal.overflow_mul-shared
overflow_mul-shared c = let few = le_of_dvd c.requires.some (more c).is.1 in omega (arith, few, c.requires.period)

pub points-preserved : goal.points-preserved
points-preserved c = more c

pub returns : goal.returns
returns c = shared_by c.args.clocks.now c.args.points.now c.points.point c.args.period c.points.shared c.points-test.false c.points.invariant

pub overflow_cast-result : goal.overflow_cast-result
overflow_cast-result c = let few = le_of_dvd c.requires.some c.points.invariant.is.1 in omega (arith, few, c.requires.period)
