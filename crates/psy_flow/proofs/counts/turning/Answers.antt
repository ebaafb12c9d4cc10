-- What is left of the proof of `counts::turning`.
use Rattle.std.proofs.Common.{◌≡◌, ◌+◌, ◌-◌, ◌*◌, min, ap, ◌∙◌}
use Rattle.psy_flow.specs.Tops.{limit_of, in_step, falling, or_else}
use Rattle.psy_flow.proofs.Limits.{sum_is, min-mul-min, sum_steps_is}
use Rattle.psy_flow.proofs.Turnings.{capped_once, capped_on}
use Rattle.psy_flow.proofs.counts.turning.Goals as goal

pub returns-in-None : goal.returns-in-None
returns-in-None c =
    let g = c.args.gauge in
    let n = c.sum-tested.result in
    let tested : n ≡ min (c.args.test + (in_step g + in_step g)) (limit_of g) = sum_steps_is g n c.args.test c.step-step.result c.sum.result c.sum-tested.ensures c.sum.ensures c.step-step.ensures in
    c.or_else.ensures
    ∙ ap (λ t. or_else t c.behind.result) c.falling-out.ensures
    ∙ ap (or_else (falling n)) c.behind.ensures
    ∙ capped_once g c.args.most c.args.test n c.args.body c.if-most-eq0.false c.in-None.is c.requires tested

pub returns-in-Some : goal.returns-in-Some
returns-in-Some c =
    let g = c.args.gauge in
    let s = in_step g in
    let m = limit_of g in
    let f = c.in-Some.fell in
    let test = c.args.test + (s + s) in
    let turn = test + (f + s) in
    let most = c.args.most in
    let tested : c.sum-tested.result ≡ min test m = sum_steps_is g c.sum-tested.result c.args.test c.step-step.result c.sum.result c.sum-tested.ensures c.sum.ensures c.step-step.ensures in
    let fell : c.sum-in-Some.result ≡ min (f + s) m = c.sum-in-Some.ensures ∙ ap (λ x. min (f + x) m) c.step-step.ensures in
    let turned : c.sum-turn.result ≡ min turn m = sum_is c.sum-turn.result c.sum-tested.result c.sum-in-Some.result test (f + s) m c.sum-turn.ensures tested fell in
    let all : c.times.result ≡ min (most * turn) m = c.times.ensures ∙ ap (λ x. min (most * x) m) turned ∙ min-mul-min most turn m in
    let before : c.times-before.result ≡ min ((most - 1) * turn) m = c.times-before.ensures ∙ ap (λ x. min ((most - 1) * x) m) turned ∙ min-mul-min (most - 1) turn m in
    c.or_else-in-Some.ensures
    ∙ ap (λ t. or_else t c.behind-leaving.result) c.falling.ensures
    ∙ ap (or_else (falling c.sum-whole.result)) c.behind-leaving.ensures
    ∙ capped_on g most c.args.test f c.sum-whole.result c.sum-in-Some-2.result c.args.body c.if-most-eq0.false c.in-Some.is c.requires
    (sum_is c.sum-whole.result c.times.result c.sum-tested.result (most * turn) test m c.sum-whole.ensures all tested)
    (sum_is c.sum-in-Some-2.result c.times-before.result c.sum-tested.result ((most - 1) * turn) test m c.sum-in-Some-2.ensures before tested)
