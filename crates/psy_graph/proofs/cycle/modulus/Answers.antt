-- What is left of the proof of `cycle::modulus`.
use Rattle.std.proofs.Common.{◌≡◌, ◌+◌, ◌-◌, ◌≤◌, map, take, drop, ap, sym, subst, arith, length-drop}
use Rattle.std.proofs.lemmas.List.{take_all}
use Rattle.psy_meaning.specs.Graph.{IsLeastCommonMultiple}
use Rattle.psy_graph.specs.Steps.{timing_by, joined}
use Rattle.psy_graph.proofs.lemmas.Cycles.{least_nil}
use Rattle.psy_graph.proofs.Periods.{period_of, multiple_more, modulus_near, modulus_far}
use Rattle.psy_graph.proofs.cycle.modulus.Goals as goal

pub points-init : goal.points-init
points-init c = record { multiple = least_nil; some = omega arith; near = omega arith }

pub points-preserved : goal.points-preserved
points-preserved c =
    let timing = timing_by c.args.times.now in
    let more = multiple_more timing c.points.point c.points.multiple c.clock.result.period c.requires (omega arith) (omega arith) c.points.invariant.some (ap (λ k. k.period) c.clock.ensures) c.points.invariant.multiple in
    let is = c.common_multiple-multiple.ensures in
    record {
      multiple = subst (λ m. IsLeastCommonMultiple (map (period_of timing) (take (c.points.point + 1 - 1) (drop 1 timing.points))) m) (sym is) more.0;
      some = subst (λ m. 1 ≤ m) (sym is) more.1;
      near = omega arith;
    }

pub returns-then-multiple-gt-FAR : goal.returns-then-multiple-gt-FAR
returns-then-multiple-gt-FAR c =
    let timing = timing_by c.args.times.now in
    let more = multiple_more timing c.points.point c.points.multiple c.clock.result.period c.requires (omega arith) (omega arith) c.points.invariant.some (ap (λ k. k.period) c.clock.ensures) c.points.invariant.multiple in
    let is = c.common_multiple-multiple.ensures in
    modulus_far timing (c.points.point + 1 - 1) (joined c.points.multiple c.clock.result.period) c.requires (omega arith) more.0

pub returns : goal.returns
returns c =
    let timing = timing_by c.args.times.now in
    let all : take (c.points.point - 1) (drop 1 timing.points) ≡ drop 1 timing.points = take_all (c.points.point - 1) (drop 1 timing.points) (omega (arith, length-drop 1 timing.points)) in
    modulus_near timing c.points.multiple c.requires c.points.invariant.some (subst (λ xs. IsLeastCommonMultiple (map (period_of timing) xs) c.points.multiple) all c.points.invariant.multiple)
