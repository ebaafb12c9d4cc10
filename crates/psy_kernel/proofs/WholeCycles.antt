-- Units one by one, up to a whole cycle.
use Rattle.std.proofs.Common.{◌≡◌, refl, sym, ap, ◌∙◌, subst, inl, inr, arith}
use Rattle.std.specs.Prelude.{◌⊎◌, ℕ, zero, suc, ◌+◌, ◌<◌, ◌≤◌, ◌==◌, Bool, true, false, if◌then◌else◌}
use Rattle.std.proofs.lemmas.Bool.{cases_eq, cond-true, cond-false, eq-eqb, ne_eqb}
use Rattle.psy_history.specs.Processors.{processors}
use Rattle.psy_kernel.specs.declared.stage.Stage.TheVariants.{CycleDue, UnitDue}
use Rattle.psy_kernel.specs.Progress.{Progress, after_cycle, after_unit, at_rest, counted, counted_cycle, next_processor, stage_of}
use Rattle.psy_kernel.specs.Slices.{after_units, counted_on}
use Rattle.psy_kernel.proofs.Stages.{cycle_due, cycle_is, unit_is}

unit_within : (p : Progress) → (p.units + 1 ≡ processors p.plan.unit → ⊥) → counted p ≡ record p { units = p.units + 1 }
unit_within p more = cond-false (p.units + 1 == processors p.plan.unit) (record p { cycles = p.cycles + 1; units = 0 }) (record p { units = p.units + 1 }) (ne_eqb (p.units + 1) (processors p.plan.unit) more)

unit_last : (p : Progress) → p.units + 1 ≡ processors p.plan.unit → counted p ≡ record p { cycles = p.cycles + 1; units = 0 }
unit_last p last = cond-true (p.units + 1 == processors p.plan.unit) (record p { cycles = p.cycles + 1; units = 0 }) (record p { units = p.units + 1 }) (eq-eqb (p.units + 1) (processors p.plan.unit) last)

module _ (p : Progress) (whole : p.units ≡ 0) where
  -- The first units of a cycle
  pub part_done : (n : ℕ) → n < processors p.plan.unit → counted_on n p ≡ record p { units = n }
  part_done zero less = ap (λ units. record p { units = units }) whole
  part_done (suc n) less =
      let e : n + 1 ≡ suc n = omega arith in
      let next : Progress → Progress = counted in
      ap next (part_done n (omega (arith, less)))
      ∙ unit_within (record p { units = n }) (λ last. absurd (omega (arith, less, last)))
      ∙ ap (λ units. record p { units = units }) e

  -- and all of them
  pub whole_done : (n : ℕ) → n ≡ processors p.plan.unit → 1 ≤ n → counted_on n p ≡ counted_cycle p
  whole_done zero all some = absurd (omega (arith, some))
  whole_done (suc n) all some =
      let next : Progress → Progress = counted in
      ap next (part_done n (omega (arith, all)))
      ∙ unit_last (record p { units = n }) (omega (arith, all))
      ∙ ap (λ units. record p { cycles = p.cycles + 1; units = units }) (sym whole)

-- ---- one by one, each of them the last step for a while

rested_by : (p q : Progress) (test : Bool) → at_rest (if test then p else q) ≡ (if test then at_rest p else at_rest q)
rested_by p q true = refl
rested_by p q false = refl

-- Which step was the last counts for nothing.
rested : (p q : Progress) → at_rest p ≡ at_rest q → at_rest (after_unit p) ≡ at_rest (counted q)
rested p q same =
    let next : Progress → Progress = counted in
    rested_by (record p { cycles = p.cycles + 1; units = 0 }) (record p { units = p.units + 1 }) (p.units + 1 == processors p.plan.unit)
    ∙ ap next same
    ∙ sym (rested_by (record q { cycles = q.cycles + 1; units = 0 }) (record q { units = q.units + 1 }) (q.units + 1 == processors q.plan.unit))

units_counted : (n : ℕ) (p : Progress) → at_rest (after_units n p) ≡ at_rest (counted_on n p)
units_counted zero p = refl
units_counted (suc n) p = rested (after_units n p) (counted_on n p) (units_counted n p)

pub whole_cycle : (p : Progress) → p.units ≡ 0 → 1 ≤ processors p.plan.unit → at_rest (after_units (processors p.plan.unit) p) ≡ after_cycle p
whole_cycle p whole some =
    let rest : Progress → Progress = at_rest in
    units_counted (processors p.plan.unit) p ∙ ap rest (whole_done p whole (processors p.plan.unit) refl some)

-- While the units of a cycle that was due aren't all done, it is due or begun.
pub part_due : (p : Progress) → stage_of p ≡ CycleDue p.cycles → (n : ℕ) → n < processors p.plan.unit
    → (stage_of (counted_on n p) ≡ CycleDue (counted_on n p).cycles) ⊎ (stage_of (counted_on n p) ≡ UnitDue (counted_on n p).cycles (next_processor (counted_on n p)))
part_due p due n less =
    let w = cycle_due p due in
    subst (λ (q : Progress). (stage_of q ≡ CycleDue q.cycles) ⊎ (stage_of q ≡ UnitDue q.cycles (next_processor q))) (sym (part_done p w.2 n less)) (elim (cases_eq n 0) [
      | inl first ↦ inl (cycle_is (record p { units = n }) w.0 w.1 first)
      | inr more ↦ inr (unit_is (record p { units = n }) w.0 w.1 more)
    ])
