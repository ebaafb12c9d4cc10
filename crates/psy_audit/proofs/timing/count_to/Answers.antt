-- What is left of the proof of `timing::count_to`.
use Rattle.std.proofs.Common.{◌≡◌, ◌<◌, ◌≤◌, ◌+◌, ◌-◌, ◌/◌, arith}
use Rattle.psy_clock.specs.Dates.{count}
use Rattle.psy_audit.proofs.Counts.{counted}
use Rattle.psy_audit.proofs.timing.count_to.Goals as goal

pub returns-clause-value : goal.returns-clause-value
returns-clause-value c =
    let clock = c.args.clock in
    let some : 0 < clock.period = omega (arith, c.requires.first) in
    let behind : clock.first ≤ c.args.t = omega (arith, c.if-t-first.false, c.from-first.ensures) in
    let is : (c.args.t - clock.first) / clock.period + 1 ≡ count clock c.args.t =
    counted clock.first clock.period c.args.t (count clock c.args.t) (λ i. c.dates.ensures.count clock c.args.t i c.requires) some behind in
    cc
