-- What is left of the proof of `engine::open::charge_behind`.
use Rattle.std.proofs.Common.{◌≡◌, ℕ, ◌+◌, ◌-◌, ◌∙◌, ap, arith}
use Rattle.psy_budget.specs.Charges.{Charged, after_start_at}
use Rattle.psy_kernel.specs.Resuming.{charge_behind}
use Rattle.psy_kernel.proofs.engine.open.charge_behind.Goals as goal

pub returns : goal.returns
returns c =
    let script = c.args.script.now in
    let agent = c.args.agent in
    let started = c.args.started in
    let made : ℕ → Charged = λ n. charge_behind script agent n in
    let back : started - 1 + 1 ≡ started = omega (arith, c.if-started-eq0.false) in
    let same = ap (λ (x : Charged). after_start_at x (started - 1) 0) c.in_ok-charge.ensures ∙ ap made back in
    c.start_at.ensures ∙ same
