-- What is left of the proof of `axis::ticks_of`.
use Rattle.std.proofs.Common.{◌≡◌, ◌++◌, ◌+◌, ◌*◌, ◌-◌, [], ℕ, ap, subst, ◌∙◌, arith}
use Rattle.std.specs.List.{flat_map, range_with_len}
use Rattle.psy_draw.specs.Axes.{step_of, tick_at, tick_by}
use Rattle.psy_draw.proofs.Joining.{numbered}
use Rattle.psy_draw.proofs.axis.ticks_of.Goals as goal

pub ticks-preserved : goal.ticks-preserved
ticks-preserved c =
    let scale = c.args.scale.now in
    let step = c.step_of-step.result in
    numbered (tick_by scale.from scale.to step) c.ticks.number [] c.ticks.ticks.items c.add_tick.new.ticks.items c.ticks.invariant
    (c.in_ok-add_tick.ensures ∙ ap (λ first. c.ticks.ticks.items ++ tick_at scale.to (first + c.ticks.number * step)) c.first_tick-first.ensures.first)

pub returns : goal.returns
returns c =
    let scale = c.args.scale.now in
    let all : c.ticks.number ≡ 17 = omega (arith, c.ticks-test.false, c.ticks.auto.number-end) in
    let P : ℕ → ℕ → Type 0 = λ step n. c.ticks.ticks.items ≡ flat_map (tick_by scale.from scale.to step) (range_with_len 0 n) in
    let ticks : P (step_of (scale.to - scale.from)) 17 = subst (λ s. P s 17) c.step_of-step.ensures.least (subst (P c.step_of-step.result) all c.ticks.invariant) in
    ticks
