-- Verified code keeps each rule at each place.
use Rattle.std.proofs.Common.{◌≡◌, sym, subst, inl, inr, arith}
use Rattle.std.specs.Prelude.{ℕ}
use Rattle.std.proofs.lemmas.Bool.{cases_lt}
use Rattle.psy_code.specs.declared.code.Code.{Code}
use Rattle.psy_tree.specs.declared.unit.Unit.{Unit as Whole}
use Rattle.psy_flow.specs.Verified.{Apart, Balanced, ComesBefore, Framed, Inside, IsFault, IsLeastFault, IsVerified, Keeps, Led, Named, Ordered, Rule}

module _ (unit : Whole) (code : Code) where
  pub kept : IsVerified unit code → (place : ℕ) (rule : Rule) → Keeps unit code place rule
  kept v place Inside = v.inside place
  kept v place Apart = v.apart place
  kept v place Balanced = (v.balanced place, v.stack place)
  kept v place Framed = (v.framed place, v.frames place)
  kept v place Named = v.named place
  kept v place Ordered = v.ordered place
  kept v place Led = (v.leads place, v.ends place)

  pub of_rules : ((place : ℕ) (rule : Rule) → Keeps unit code place rule) → IsVerified unit code
  of_rules each = record {
    inside = λ place. each place Inside;
    apart = λ place. each place Apart;
    balanced = λ place. (each place Balanced).0;
    stack = λ place. (each place Balanced).1;
    framed = λ place. (each place Framed).0;
    frames = λ place. (each place Framed).1;
    named = λ place. each place Named;
    ordered = λ place. each place Ordered;
    leads = λ place. (each place Led).0;
    ends = λ place. (each place Led).1;
  }

  pub no_fault : (number place : ℕ) → IsVerified unit code → IsFault unit code number place → ⊥
  no_fault number place v (rule, same, breaks) = breaks (kept v place rule)

  -- ---- the least fault

  no_earlier : (number place other there : ℕ) → IsLeastFault unit code number place → IsLeastFault unit code other there → ComesBefore place number there other → ⊥
  no_earlier number place other there it is comes =
      let (rule, same, breaks) = it.present in
      breaks (is.least place rule (subst (λ n. ComesBefore place n there other) same comes))

  pub one_least : (number place other there : ℕ) → IsLeastFault unit code number place → IsLeastFault unit code other there → (number ≡ other) × (place ≡ there)
  one_least number place other there it is = elim (cases_lt place there) [
    | inl first ↦ absurd (no_earlier number place other there it is (inl first))
    | inr not_first ↦ elim (cases_lt there place) [
      | inl last ↦ absurd (no_earlier other there number place is it (inl last))
      | inr not_last ↦ (let same : place ≡ there = omega (arith, not_first, not_last) in
          elim (cases_lt number other) [
            | inl less ↦ absurd (no_earlier number place other there it is (inr (same, less)))
            | inr not_less ↦ elim (cases_lt other number) [
              | inl more ↦ absurd (no_earlier other there number place is it (inr (sym same, more)))
              | inr not_more ↦ (omega (arith, not_less, not_more), same)
            ]
          ])
    ]
  ]
