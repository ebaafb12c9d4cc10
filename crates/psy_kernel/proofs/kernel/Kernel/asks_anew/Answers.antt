-- What is left of the proof of `kernel::Kernel::asks_anew`.
use Rattle.std.proofs.Common.{◌≡◌, ◌*◌, ◌<◌, ap, sym, subst, ◌∙◌, inl, inr, arith}
use Rattle.psy_history.specs.Processors.{processors}
use Rattle.psy_kernel.specs.Engines.{IsOrderedBy}
use Rattle.psy_kernel.specs.Progress.{Progress}
use Rattle.psy_kernel.specs.Slices.{IsOrderedAt}
use Rattle.psy_kernel.specs.declared.kernel.Kernel.TheInside.{Inside}
use Rattle.psy_kernel.proofs.Sliced.{done_whole}
use Rattle.psy_kernel.proofs.kernel.Kernel.asks_anew.Goals as goal

pub returns-else-self-date-clause-yes : goal.returns-else-self-date-clause-yes
returns-else-self-date-clause-yes c =
    let k : Inside = c.self.inside in
    let some : 0 < processors k.engine.plan.unit = omega (arith, c.self.invariant.units) in
    let whole = done_whole k c.self.invariant (ap (λ (q : Progress). q.units) c.self.view_is ∙ c.requires.whole) 0 some in
    λ given. inr (subst (λ (q : Progress). IsOrderedAt q q.cycles) c.self.view_is (subst (λ n. IsOrderedBy k.engine n) whole (c.is_ordered.ensures.yes given)))

pub returns-else-self-date-clause-no : goal.returns-else-self-date-clause-no
returns-else-self-date-clause-no c =
    let k : Inside = c.self.inside in
    let some : 0 < processors k.engine.plan.unit = omega (arith, c.self.invariant.units) in
    let whole = done_whole k c.self.invariant (ap (λ (q : Progress). q.units) c.self.view_is ∙ c.requires.whole) 0 some in
    λ off either. elim either [
      | inl date ↦ c.if-self-date.false (subst (λ (q : Progress). q.cycles ≡ q.dates * q.plan.unit.quantum) (sym c.self.view_is) date ∙ sym c.next_date-date.ensures.first)
      | inr ordered ↦ c.is_ordered.ensures.no off (subst (λ n. IsOrderedBy k.engine n) (sym whole) (subst (λ (q : Progress). IsOrderedAt q q.cycles) (sym c.self.view_is) ordered))
    ]
