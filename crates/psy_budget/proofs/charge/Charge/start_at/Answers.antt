-- What is left of the proof of `charge::Charge::start_at`.
use Rattle.std.proofs.Common.{◌≡◌, ℕ, ◌+◌, ◌-◌, subst, arith}
use Rattle.psy_budget.proofs.lemmas.Stalls.{none_stalled}
use Rattle.psy_budget.specs.Charges.{stalled}
use Rattle.psy_budget.specs.Standing.{AreSplit}
use Rattle.psy_budget.proofs.charge.Charge.start_at.Goals as goal

pub invariant_of-self : goal.invariant_of-self
invariant_of-self c =
    let number : ℕ = c.args.number in
    let action : number ≡ number + 1 - 1 = omega arith in
    let same : c.as_slice-stalls.result.now ≡ c.self.inside.stalls = cc in
    let split = subst (λ s. AreSplit s c.next_stall-next.result.passed number 1) same c.next_stall-next.ensures.split in
    let left = subst (λ s. 0 + stalled s number 1 ≡ 0 + c.next_stall-next.result.cycles) same (omega (arith, c.next_stall-next.ensures.cycles, none_stalled number c.as_slice-stalls.result.now)) in
    record {
      rise = c.self.invariant.rise;
      within = omega arith;
      unstarted = λ e. absurd (omega (arith, e));
      split = λ _. subst (λ n. AreSplit c.self.inside.stalls c.next_stall-next.result.passed n 1) action split;
      left = λ _. subst (λ n. 0 + stalled c.self.inside.stalls n 1 ≡ 0 + c.next_stall-next.result.cycles) action left;
    }
