-- What is left of the proof of `kernel::boot::turned_first`.
use Rattle.std.proofs.Common.{◌≡◌, ◌==◌, true, false, sym, subst, inl, inr}
use Rattle.std.proofs.lemmas.Bool.{cases_Bool}
use Rattle.psy_kernel.specs.Kernels.{AreTurned}
use Rattle.psy_kernel.proofs.RoundsInForce.{turned_at_first}
use Rattle.psy_kernel.proofs.kernel.boot.turned_first.Goals as goal

pub returns-in-Some : goal.returns-in-Some
returns-in-Some c =
    let rounds = c.args.rounds.now in
    let first = c.in-Some.round.now in
    elim (cases_Bool (first.cycle == 0)) [
      | inl e ↦ (let one : c.from.result ≡ 1 = rw e at c.from.ensures in subst (λ n. AreTurned rounds n 0) (sym one) (turned_at_first rounds c.requires first true (sym c.in-Some.ensures.value) e))
      | inr e ↦ (let none : c.from.result ≡ 0 = rw e at c.from.ensures in subst (λ n. AreTurned rounds n 0) (sym none) (turned_at_first rounds c.requires first false (sym c.in-Some.ensures.value) e))
    ]
