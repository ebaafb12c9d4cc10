-- How many instructions the first cycles of an action paid.
use Rattle.std.proofs.Common.{◌≡◌, ℕ, suc, ◌+◌, ◌-◌, ◌<◌, ◌≤◌, ◌==◌, List, sym, ap, ◌∙◌, subst, inl, inr, arith, add-one}
use Rattle.std.proofs.lemmas.Bool.{cases_lt}
use Rattle.psy_budget.proofs.lemmas.Stalls.{more_stalled}
use Rattle.psy_budget.specs.declared.charge.Stall.{Stall}
use Rattle.psy_budget.specs.declared.charge.Tick.TheVariants as tick
use Rattle.psy_budget.specs.Charges.{Charged, stalled, cycle_of, tick_of, after_tick, ticked}
use Rattle.psy_budget.proofs.lemmas.Units as units

module _ (stalls : List Stall) (number budget : ℕ) where
  -- the charge of the action after some cycles, of which some paid an instruction
  abbrev charge : ℕ → ℕ → Charged
  charge = units.charge stalls (number + 1) budget

  abbrev pub begun : Charged
  begun = record { stalls = stalls; started = number + 1; budget = budget; consumed = 0; paid = 0 }

  -- the number of the action as the charge has it
  abbrev action : ℕ
  action = number + 1 - 1

  action_is : action ≡ number
  action_is = omega arith

  -- so many instructions are paid after u cycles
  abbrev HasPaid : ℕ → ℕ → Type 0
  HasPaid = units.IsReached stalls (number + 1) budget

  abbrev pub paid : ℕ → ℕ
  paid u = (ticked begun u).paid

  has_paid : (u : ℕ) → u ≤ budget → HasPaid u (paid u)
  has_paid u less =
      let h : (p : ℕ) × HasPaid u p = units.reached stalls (number + 1) budget u less in
      subst (HasPaid u) (sym (ap (λ (c : Charged). c.paid) h.1.is)) h.1

  pub consumed_is : (u : ℕ) → u ≤ budget → (ticked begun u).consumed ≡ u
  consumed_is u less = ap (λ (c : Charged). c.consumed) (has_paid u less).is

  budget_is : (u : ℕ) → u ≤ budget → (ticked begun u).budget ≡ budget
  budget_is u less = ap (λ (c : Charged). c.budget) (has_paid u less).is

  -- the cycles are no more than those up to the next instruction
  pub up_to_next : (u : ℕ) → u ≤ budget → u ≤ cycle_of stalls number (paid u)
  up_to_next u less = subst (λ a. u ≤ cycle_of stalls a (paid u)) action_is (has_paid u less).up_to

  -- and no fewer than those of the instructions that they paid, and of the stalls before these
  pub up_from : (u : ℕ) → u ≤ budget → paid u + stalled stalls number (paid u) ≤ u
  up_from u less = subst (λ a. paid u + stalled stalls a (paid u) ≤ u) action_is (has_paid u less).before

  -- no more instructions are paid than cycles were had
  pub paid_few : (u : ℕ) → u ≤ budget → paid u ≤ u
  paid_few u less = omega (arith, (has_paid u less).before)

  same_tick : (u : ℕ) → u ≤ budget → tick_of (charge u (paid u)) ≡ tick_of (ticked begun u)
  same_tick u less = ap tick_of (sym (has_paid u less).is)

  pub not_spent : (u : ℕ) → u < budget → tick_of (ticked begun u) ≡ tick.Spent → ⊥
  not_spent u less e = elim (units.next_tick stalls (number + 1) budget u (paid u) less) [
    | inl k ↦ stalled_spent (sym k.0 ∙ same_tick u (omega (arith, less)) ∙ e)
    | inr k ↦ paid_spent (sym k.0 ∙ same_tick u (omega (arith, less)) ∙ e)
  ]
    where
      stalled_spent : tick.Stalled ≡ tick.Spent → ⊥
      stalled_spent e = cc

      paid_spent : tick.Paid ≡ tick.Spent → ⊥
      paid_spent e = cc

  pub stalled_next : (u : ℕ) → tick_of (ticked begun u) ≡ tick.Stalled → paid (suc u) ≡ paid u
  stalled_next u e = ap (λ t. (after_tick (ticked begun u) t).paid) e

  pub paid_next : (u : ℕ) → tick_of (ticked begun u) ≡ tick.Paid → paid (suc u) ≡ suc (paid u)
  paid_next u e = ap (λ t. (after_tick (ticked begun u) t).paid) e ∙ add-one (paid u)

  -- a cycle that pays is the one of the next instruction
  pub paid_at : (u : ℕ) → u < budget → tick_of (ticked begun u) ≡ tick.Paid → u ≡ cycle_of stalls number (paid u)
  paid_at u less e = elim (units.next_tick stalls (number + 1) budget u (paid u) less) [
    | inl k ↦ absurd (stalled_paid (sym k.0 ∙ same_tick u (omega (arith, less)) ∙ e))
    | inr k ↦ subst (λ a. u ≡ cycle_of stalls a (paid u)) action_is (omega (arith, k.1, (has_paid u (omega (arith, less))).up_to))
  ]
    where
      stalled_paid : tick.Stalled ≡ tick.Paid → ⊥
      stalled_paid e = cc

  -- a cycle that goes to a stall is that of no instruction
  pub stalled_at : (u : ℕ) → u < budget → tick_of (ticked begun u) ≡ tick.Stalled → (instr : ℕ) → u ≡ cycle_of stalls number instr → ⊥
  stalled_at u less e instr at =
      let h = has_paid u (omega (arith, less)) in
      let same : cycle_of stalls number instr ≡ cycle_of stalls action instr = ap (λ a. cycle_of stalls a instr) (sym action_is) in
      elim (units.next_tick stalls (number + 1) budget u (paid u) less) [
        | inl k ↦ elim (cases_lt instr (paid u)) [
          | inl fewer ↦ omega (arith, at, same, h.before, fewer, more_stalled action (instr + 1) (paid u) stalls (omega (arith, fewer)))
          | inr more ↦ omega (arith, at, same, k.1, more, more_stalled action (paid u + 1) (instr + 1) stalls (omega (arith, more)))
        ]
        | inr k ↦ paid_stalled (sym k.0 ∙ same_tick u (omega (arith, less)) ∙ e)
      ]
    where
      paid_stalled : tick.Paid ≡ tick.Stalled → ⊥
      paid_stalled e = cc

  -- whether the budget is spent
  pub spent_is : (u : ℕ) → u ≤ budget → ((ticked begun u).consumed == (ticked begun u).budget) ≡ (u == budget)
  spent_is u less = ap (λ n. n == (ticked begun u).budget) (consumed_is u less) ∙ ap (λ n. u == n) (budget_is u less)
