-- What the fields of a charge stand for.
use Rattle.std.specs.Prelude.{ℕ, ◌≡◌, ◌+◌, ◌-◌, ◌<◌, ◌≤◌, ◌⊎◌, List, length, slice_index_or}
use Rattle.psy_budget.specs.declared.charge.Stall.{Stall}
use Rattle.psy_budget.specs.declared.charge.Charge.TheInside.{Inside}
use Rattle.psy_budget.specs.Charges.{Charged, IsBelow, StallsRise, stalled}

-- A stall stands before an instruction of an action, or behind it.
abbrev pub IsAtLeast : ℕ → ℕ → Stall → Type 0
IsAtLeast action instr s = (action < s.action) ⊎ ((s.action ≡ action) × (instr ≤ s.instr))

-- So many of the stalls stand below the first n instructions of an action, and the others don't.
pub record AreSplit (stalls : List Stall) (place action n : ℕ) : Type 0 where
  pub within : place ≤ length stalls
  pub below : (i : ℕ) (d : Stall) → i < place → IsBelow action n (slice_index_or stalls i d)
  pub others : (i : ℕ) (d : Stall) → place ≤ i → i < length stalls → IsAtLeast action n (slice_index_or stalls i d)

-- The charge
abbrev pub charged : Inside → Charged
charged c = record { stalls = c.stalls; started = c.started; budget = c.budget; consumed = c.consumed; paid = c.paid }

-- No more cycles are consumed than the budget has. Where an action has started, those stalls are passed that stand up to its
-- next instruction, and what these still cost is left.
pub record IsCharge (c : Inside) : Type 0 where
  pub rise : StallsRise c.stalls
  pub within : c.consumed ≤ c.budget
  pub unstarted : (c.started ≡ 0 → c.budget ≡ 0)
  pub split : (0 < c.started → AreSplit c.stalls c.passed (c.started - 1) (c.paid + 1))
  pub left : (0 < c.started → c.paid + stalled c.stalls (c.started - 1) (c.paid + 1) ≡ c.consumed + c.left)
