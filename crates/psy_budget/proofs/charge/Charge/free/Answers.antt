-- What is left of the proof of `charge::Charge::free`.
use Rattle.std.proofs.Common.{Bool, false, ◌==◌, ◌≡◌, ℕ, ◌+◌, ◌-◌, ◌<◌, sym, subst, arith}
use Rattle.std.specs.Prelude.{◌≢◌}
use Rattle.std.proofs.lemmas.Bool.Decides.{nat_tests}
use Rattle.psy_budget.specs.declared.charge.Tick.TheVariants.{Paid}
use Rattle.psy_budget.specs.Charges.{Charged, IsStretch, stalled}
use Rattle.psy_budget.specs.Standing.{charged}
use Rattle.psy_budget.proofs.Stretches.{paid_stretch, has_started}
use Rattle.psy_budget.proofs.charge.Charge.free.Goals as goal

not_spent : (spent : Bool) (c : Charged) → spent ≡ (c.consumed == c.budget) → spent ≡ false → c.consumed ≢ c.budget
not_spent spent c is more = grind (arith, nat_tests)

pub returns : goal.returns
returns c =
    let action : ℕ = c.self.inside.started - 1 in
    let paid : ℕ = c.self.inside.paid in
    let n : ℕ = c.unstalled.result in
    let stalls : c.as_slice.result.now ≡ c.self.inside.stalls = c.as_slice.ensures in
    let started : 0 < c.self.inside.started =
    has_started c.self.inside c.self.invariant (not_spent c.spent.result (charged c.self.inside) (subst (λ d. c.spent.result ≡ (d.consumed == d.budget)) (sym c.self.view_is) c.spent.ensures) c.if-spent.false) in
    subst (λ d. IsStretch d Paid c.args.most n) c.self.view_is
    (paid_stretch (charged c.self.inside) c.self.invariant.within (omega (arith, c.self.invariant.left started, c.if-self-gt0.false)) c.args.most c.min-granted.result n (omega (arith, c.min-granted.ensures, c.from.ensures)) c.unstalled.ensures.within
    (subst (λ s. (k : ℕ) → k < n → stalled s action (paid + k + 1) ≡ stalled s action (paid + 1)) stalls c.unstalled.ensures.same)
    (subst (λ s. n < c.min-granted.result → stalled s action (paid + 1) < stalled s action (paid + n + 1)) stalls c.unstalled.ensures.next))
