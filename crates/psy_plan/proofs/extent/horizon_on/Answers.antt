-- What is left of the proof of `extent::horizon_on`.
use Rattle.std.proofs.Common.{◌∙◌, ap, ◌^◌, ◌<◌, ◌≤◌, sym, subst, All, length, arith}
use Rattle.psy_plan.proofs.ExtentLemmas.{length-lines_on, lines_hold}
use Rattle.psy_plan.proofs.extent.horizon_on.Goals as goal

pub horizon-requires-clause-few : goal.horizon-requires-clause-few
horizon-requires-clause-few c =
    omega (arith, ap length (c.as_slice.ensures ∙ c.in_ok-own.ensures), length-lines_on c.args.homes.now c.args.processor c.args.lines.now, c.requires.few)

pub horizon-requires-clause-rates : goal.horizon-requires-clause-rates
horizon-requires-clause-rates c =
    subst (All (λ line. line.rate ≤ 2 ^ 40)) (sym (c.as_slice.ensures ∙ c.in_ok-own.ensures))
    (lines_hold (λ line. line.rate ≤ 2 ^ 40) c.args.homes.now c.args.processor c.args.lines.now (omega arith) c.requires.rates)

pub horizon-requires-clause-intercepts : goal.horizon-requires-clause-intercepts
horizon-requires-clause-intercepts c =
    subst (All (λ line. line.intercept < 2 ^ 50)) (sym (c.as_slice.ensures ∙ c.in_ok-own.ensures))
    (lines_hold (λ line. line.intercept < 2 ^ 50) c.args.homes.now c.args.processor c.args.lines.now (omega arith) c.requires.intercepts)
