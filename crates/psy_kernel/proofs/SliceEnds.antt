-- The end of a slice, and the cycles up to it.
use Rattle.std.proofs.Common.{◌≡◌, ◌≢◌, sym, ap, ◌∙◌, inl, inr, arith}
use Rattle.std.specs.Prelude.{ℕ, zero, suc, ◌+◌, ◌-◌, ◌*◌, ◌<◌, ◌≤◌, None}
use Rattle.std.proofs.lemmas.Bool.{cases_lt}
use Rattle.psy_kernel.specs.declared.stage.Stage.TheVariants.{CycleDue}
use Rattle.psy_kernel.specs.Progress.{Progress, after_cycle, at_rest, stage_of}
use Rattle.psy_kernel.specs.Slices.{IsSliceEnd, after_cycles}
use Rattle.psy_kernel.proofs.Stages.{cycle_due, cycle_is}

pub one_end : (p : Progress) (a b : ℕ) → IsSliceEnd p a → IsSliceEnd p b → a ≡ b
one_end p a b x y = elim (cases_lt a b) [
  | inl less ↦ absurd (y.first a x.some less x.changes)
  | inr more ↦ elim (cases_lt b a) [
    | inl less ↦ absurd (x.first b y.some less y.changes)
    | inr same ↦ omega (arith, more, same)
  ]
]

-- So many cycles one by one, where a cycle isn't told from a unit
rested_cycles : (n : ℕ) (p : Progress) → at_rest (after_cycles n p) ≡ record p { cycles = p.cycles + n; last = None }
rested_cycles zero p = let e : p.cycles ≡ p.cycles + 0 = omega arith in ap (λ c. record p { cycles = c; last = None }) e
rested_cycles (suc n) p =
    let e : p.cycles + n + 1 ≡ p.cycles + suc n = omega arith in
    let next : Progress → Progress = after_cycle in
    ap next (rested_cycles n p) ∙ ap (λ c. record p { cycles = c; last = None }) e

-- Behind one of them the last step was none.
one_by_one : (n : ℕ) (p : Progress) → 1 ≤ n → after_cycles n p ≡ record p { cycles = p.cycles + n; last = None }
one_by_one zero p some = absurd (omega (arith, some))
one_by_one (suc n) p some = rested_cycles (suc n) p

-- Up to a cycle that isn't behind
pub up_to : (p : Progress) (end : ℕ) → p.cycles ≤ end → record p { cycles = end; last = None } ≡ at_rest (after_cycles (end - p.cycles) p)
up_to p end more =
    let e : end ≡ p.cycles + (end - p.cycles) = omega (arith, more) in
    ap (λ c. record p { cycles = c; last = None }) e ∙ sym (rested_cycles (end - p.cycles) p)

pub due_before : (p : Progress) (n : ℕ) → stage_of p ≡ CycleDue p.cycles → p.cycles + n < p.dates * p.plan.unit.quantum → stage_of (after_cycles n p) ≡ CycleDue (p.cycles + n)
due_before p n due less =
    let w = cycle_due p due in
    ap stage_of (rested_cycles n p) ∙ cycle_is (record p { cycles = p.cycles + n }) w.0 (λ e. absurd (omega (arith, less, e))) w.2

pub as_cycles : (p : Progress) (end : ℕ) → IsSliceEnd p end → record p { cycles = end; last = None } ≡ after_cycles (end - p.cycles) p
as_cycles p end is =
    let e : end ≡ p.cycles + (end - p.cycles) = omega (arith, is.some) in
    ap (λ c. record p { cycles = c; last = None }) e ∙ sym (one_by_one (end - p.cycles) p (omega (arith, is.some)))

pub due_on : (p : Progress) (end n : ℕ) → IsSliceEnd p end → stage_of p ≡ CycleDue p.cycles → p.cycles + n < end → stage_of (after_cycles n p) ≡ CycleDue (p.cycles + n)
due_on p end n is due less =
    let w = cycle_due p due in
    ap stage_of (rested_cycles n p) ∙ cycle_is (record p { cycles = p.cycles + n }) w.0 no_date w.2
  where
    no_date : p.cycles + n ≢ p.dates * p.plan.unit.quantum
    no_date e = elim (cases_lt 0 n) [
      | inl more ↦ is.first (p.cycles + n) (omega (arith, more)) less (inl e)
      | inr none ↦ (cycle_due p due).1 (omega (arith, none, e))
    ]

-- Where a slice ends doesn't hang on which step was the last.
pub end_rested : (p : Progress) (end : ℕ) → IsSliceEnd (at_rest p) end → IsSliceEnd p end
end_rested p end is = record { some = is.some; changes = is.changes; first = is.first }
