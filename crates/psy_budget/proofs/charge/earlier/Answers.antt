-- What is left of the proof of `charge::earlier`.
use Rattle.std.proofs.Common.{◌≡◌, ℕ, ◌≤◌, ltb, true, false, List, get_or, sym, subst, inl, inr, arith, rules}
use Rattle.std.proofs.lemmas.Bool.{cases_order, ltb-true, ltb-false}
use Rattle.std.proofs.lemmas.List.Sorted.{IsPartitionedBy-ltb, IsPartitionPoint-from_clause}
use Rattle.std.specs.List.Sorted.{IsNonDecreasingBy, IsPartitionedBy, IsPartitionPoint}
use Rattle.psy_budget.specs.declared.charge.Stall.{Stall}
use Rattle.psy_budget.specs.Charges.{IsBelow, StallsRise}
use Rattle.psy_budget.specs.Standing.{IsAtLeast}
use Rattle.psy_budget.proofs.charge.earlier.Goals as goal

-- Stalls rise by action
below : (s t : Stall) → IsBelow t.action t.instr s → s.action ≤ t.action
below s t (inl h) = omega (arith, h)
below s t (inr h) = omega (arith, h.0)

rising : (stalls : List Stall) → StallsRise stalls → IsNonDecreasingBy (λ (s : Stall). s.action) stalls
rising stalls rise i j d less small = elim (cases_order i j) [
  | inl same ↦ subst (λ k. (get_or stalls i d).action ≤ (get_or stalls k d).action) same (omega arith)
  | inr other ↦ elim other [ inl first ↦ below (get_or stalls i d) (get_or stalls j d) (rise i j d first small) | inr last ↦ absurd (omega (arith, less, last)) ]
]

-- A stall of this action or of a later one
not_below : (s : Stall) (action : ℕ) → action ≤ s.action → IsAtLeast action 0 s
not_below s action more = elim (cases_order action s.action) [
  | inl same ↦ inr (sym same, omega arith)
  | inr other ↦ elim other [ inl first ↦ inl first | inr last ↦ absurd (omega (arith, more, last)) ]
]

pub returns : goal.returns
returns c =
    let stalls : List Stall = c.args.stalls.now in
    let parted : IsPartitionedBy (λ (s : Stall). ltb s.action c.args.action) stalls = IsPartitionedBy-ltb (λ (s : Stall). s.action) stalls c.args.action (rising stalls c.requires) in
    let point : IsPartitionPoint (λ (s : Stall). ltb s.action c.args.action ≡ true) (λ (s : Stall). ltb s.action c.args.action ≡ false) stalls c.partition_point.result =
    IsPartitionPoint-from_clause (λ (s : Stall). ltb s.action c.args.action) stalls c.partition_point.result c.partition_point.ensures.partitioned parted (λ a r q k. search rules) in
    record {
      within = c.partition_point.ensures.bound;
      below = λ i d less. inl (ltb-true (get_or stalls i d).action c.args.action (point.0 i d (omega arith) less));
      others = λ i d more less. not_below (get_or stalls i d) c.args.action (ltb-false (get_or stalls i d).action c.args.action (point.1 i d more less));
    }
