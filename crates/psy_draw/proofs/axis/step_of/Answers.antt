-- What is left of the proof of `axis::step_of`.
use Rattle.std.proofs.Common.{◌≡◌, ◌*◌, ◌+◌, ◌<◌, ℕ, cond, drop, get_or, nat_le, true, false, sym, ap, ◌∙◌, arith, rules}
use Rattle.std.proofs.lemmas.Grind.{common_steps}
use Rattle.std.proofs.lemmas.List.{at_drop_all, at_drop_more}
use Rattle.psy_draw.specs.declared.axis.TheConstants.{STEPS}
use Rattle.psy_draw.specs.Axes.{step_among}
use Rattle.psy_draw.proofs.axis.step_of.Goals as goal

pub returns-then-dates-step-clause-least : goal.returns-then-dates-step-clause-least
returns-then-dates-step-clause-least c =
    let more = at_drop_more (λ steps. step_among steps c.args.dates) STEPS c.loop-step.step-index 0 c.loop-step-test.true in
    let step = get_or STEPS c.loop-step.step-index 0 in
    let long : nat_le c.args.dates (16 * step) ≡ true = search rules in
    sym (sym c.loop-step.invariant ∙ more ∙ ap (λ b. cond b step (step_among (drop (c.loop-step.step-index + 1) STEPS) c.args.dates)) long)

-- A greater number
beyond : (a b : ℕ) → b < a → nat_le a b ≡ false
beyond a b h = grind (arith, common_steps)

pub loop-step-preserved : goal.loop-step-preserved
loop-step-preserved c =
    let more = at_drop_more (λ steps. step_among steps c.args.dates) STEPS c.loop-step.step-index 0 c.loop-step-test.true in
    let step = get_or STEPS c.loop-step.step-index 0 in
    let short : nat_le c.args.dates (16 * step) ≡ false = beyond c.args.dates (16 * step) c.if-dates-step.false in
    sym (ap (λ b. cond b step (step_among (drop (c.loop-step.step-index + 1) STEPS) c.args.dates)) short) ∙ sym more ∙ c.loop-step.invariant

pub returns-clause-least : goal.returns-clause-least
returns-clause-least c = sym (at_drop_all (λ steps. step_among steps c.args.dates) STEPS c.loop-step.step-index (omega (arith, c.loop-step-test.false))) ∙ c.loop-step.invariant
