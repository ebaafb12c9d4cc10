-- What is left of the proof of `charge::Charge::pay`.
use Rattle.std.proofs.Common.{◌≡◌, ℕ, ◌+◌, ◌-◌, sym, ap, subst, ◌∙◌, arith}
use Rattle.psy_budget.specs.declared.charge.Tick.TheVariants.{Paid}
use Rattle.psy_budget.specs.declared.charge.Charge.TheInside.{Inside}
use Rattle.psy_budget.specs.Charges.{Charged, AllGoTo, stalled, ticked}
use Rattle.psy_budget.specs.Standing.{AreSplit, IsCharge, charged}
use Rattle.psy_budget.proofs.Stretches.{ArePaid, they_pay, ticked_all}
use Rattle.psy_budget.proofs.charge.Charge.pay.Goals as goal

module _ (c : Inside) (view : Charged) (cycles : ℕ) (is : IsCharge c) (view_is : charged c ≡ view) (some : cycles ≡ 0 → ⊥) (all : AllGoTo view Paid cycles) where
  of_inside : ArePaid (charged c) c.left cycles
  of_inside = they_pay c cycles is (omega (arith, some)) (subst (λ d. AllGoTo d Paid cycles) (sym view_is) all)

  leaves : record (charged c) { consumed = c.consumed + cycles; paid = c.paid + cycles } ≡ ticked view cycles
  leaves = sym (ticked_all Paid (charged c) cycles (subst (λ d. AllGoTo d Paid cycles) (sym view_is) all)) ∙ ap (λ d. ticked d cycles) view_is

pub overflow_add-self : goal.overflow_add-self
overflow_add-self c = omega (arith, (of_inside c.self.inside c.args.self.now c.args.cycles c.self.invariant c.self.view_is c.if-cycles-eq0.false c.requires).granted)

pub overflow_add-self-2 : goal.overflow_add-self-2
overflow_add-self-2 c =
    let p : ArePaid (charged c.self.inside) c.self.inside.left c.args.cycles = of_inside c.self.inside c.args.self.now c.args.cycles c.self.invariant c.self.view_is c.if-cycles-eq0.false c.requires in
    omega (arith, p.granted, p.same)

pub invariant_of-self : goal.invariant_of-self
invariant_of-self c =
    let p : ArePaid (charged c.self.inside) c.self.inside.left c.args.cycles = of_inside c.self.inside c.args.self.now c.args.cycles c.self.invariant c.self.view_is c.if-cycles-eq0.false c.requires in
    let action : ℕ = c.self.inside.started - 1 in
    let paid : ℕ = c.self.inside.paid + c.args.cycles in
    let next : ℕ = c.next_stall-next.result.cycles in
    let same : c.as_slice-stalls.result.now ≡ c.self.inside.stalls = c.as_slice-stalls.ensures in
    let more : stalled c.self.inside.stalls action (paid + 1) ≡ stalled c.self.inside.stalls action paid + next =
    subst (λ s. stalled s action (paid + 1) ≡ stalled s action paid + next) same c.next_stall-next.ensures.cycles in
    record {
      rise = c.self.invariant.rise;
      within = p.granted;
      unstarted = c.self.invariant.unstarted;
      split = λ _. subst (λ s. AreSplit s c.next_stall-next.result.passed action (paid + 1)) same c.next_stall-next.ensures.split;
      left = λ _. omega (arith, more, p.same);
    }

pub returns : goal.returns
returns c = leaves c.self.inside c.args.self.now c.args.cycles c.self.invariant c.self.view_is c.if-cycles-eq0.false c.requires
