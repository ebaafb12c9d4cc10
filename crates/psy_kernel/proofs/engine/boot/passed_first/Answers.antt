-- What is left of the proof of `engine::boot::passed_first`.
use Rattle.std.proofs.Common.{◌≡◌, ◌==◌, true, false, sym, subst, inl, inr}
use Rattle.std.proofs.lemmas.Bool.{cases_Bool}
use Rattle.psy_kernel.specs.Standing.{AreInForce}
use Rattle.psy_kernel.proofs.Booted.{in_force_at_first}
use Rattle.psy_kernel.proofs.engine.boot.passed_first.Goals as goal

pub returns-in-Some : goal.returns-in-Some
returns-in-Some c =
    let orders = c.args.orders.now in
    let first = c.in-Some.order.now in
    elim (cases_Bool (first.cycle == 0)) [
      | inl e ↦ (let one : c.from.result ≡ 1 = rw e at c.from.ensures in subst (λ n. AreInForce orders n 0) (sym one) (in_force_at_first orders first true c.requires (sym c.in-Some.ensures.value) e))
      | inr e ↦ (let none : c.from.result ≡ 0 = rw e at c.from.ensures in subst (λ n. AreInForce orders n 0) (sym none) (in_force_at_first orders first false c.requires (sym c.in-Some.ensures.value) e))
    ]
