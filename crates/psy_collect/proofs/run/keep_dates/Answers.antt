-- What is left of the proof of `run::keep_dates`.
use Rattle.std.proofs.Common.{◌∙◌, ap, length, refl, arith}
use Rattle.psy_collect.proofs.Large.{large, same_trace}
use Rattle.psy_collect.proofs.run.keep_dates.Goals as goal

pub returns-then-is_large-clause-large : goal.returns-then-is_large-clause-large
returns-then-is_large-clause-large c _ =
    let p = c.keep_step.new.kernel in
    let k = c.keep_step.new.kept in
    let most = large p k c.in_ok-keep_step.ensures.running in
    let here = same_trace c.steps.kernel p c.in_ok-keep_step.ensures.same ∙ same_trace c.args.kernel.now c.steps.kernel c.steps.invariant.same in
    omega (arith, most, c.if-is_large.ensures.large refl, ap length here)
