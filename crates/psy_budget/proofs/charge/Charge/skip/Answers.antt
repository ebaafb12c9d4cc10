-- What is left of the proof of `charge::Charge::skip`.
use Rattle.std.proofs.Common.{◌≡◌, ℕ, ◌+◌, ◌-◌, inl, inr, sym, subst, arith}
use Rattle.std.proofs.lemmas.Bool.{cases_lt}
use Rattle.psy_budget.specs.declared.charge.Tick.TheVariants.{Stalled}
use Rattle.psy_budget.specs.Charges.{IsStretch, ticked}
use Rattle.psy_budget.specs.Standing.{charged}
use Rattle.psy_budget.proofs.Stretches.{no_stretch, stalled_spent, stalled_stretch, ticked_all}
use Rattle.psy_budget.proofs.charge.Charge.skip.Goals as goal

count : (c : goal.After-self-2-1) → IsStretch (charged c.self.inside) Stalled c.args.most c.min-cycles.result
count c =
    let n : ℕ = c.min-cycles.result in
    elim (cases_lt 0 c.self.inside.started) [
      | inl started ↦ stalled_stretch (charged c.self.inside) c.self.inside.left c.self.invariant.within (c.self.invariant.left started) c.args.most n (omega arith)
      | inr none ↦
          let spent : c.self.inside.budget ≡ 0 = c.self.invariant.unstarted (omega (arith, none)) in
          no_stretch Stalled (charged c.self.inside) c.args.most n stalled_spent (omega (arith, spent, c.self.invariant.within)) (omega (arith, spent))
    ]

pub returns-clause-count : goal.returns-clause-count
returns-clause-count c = subst (λ d. IsStretch d Stalled c.args.most c.min-cycles.result) c.self.view_is (count c)

pub returns-clause-charge : goal.returns-clause-charge
returns-clause-charge c =
    let n : ℕ = c.min-cycles.result in
    subst (λ d. charged (record c.self.inside { consumed = c.self.inside.consumed + n; left = c.self.inside.left - n }) ≡ ticked d n) c.self.view_is (sym (ticked_all Stalled (charged c.self.inside) n (count c).all))
