-- The units of an action, and those that pay its instructions.
use Rattle.std.proofs.Common.{◌≡◌, ℕ, suc, ◌+◌, ◌<◌, ◌≤◌, List, [], ◌∷◌, Option, None, refl, inl, inr, arith}
use Rattle.std.proofs.lemmas.Bool.{cases_Bool, ne_eqb}
use Rattle.psy_budget.proofs.lemmas.Stalls.{more_stalled}
use Rattle.psy_budget.specs.declared.charge.Stall.{Stall}
use Rattle.psy_budget.specs.Charges.{cycle_of}
use Rattle.psy_history.specs.Schedule.{Turn, cycle_of_unit, is_of, units}

-- They rise with the instructions.
pub cycles_rise : (stalls : List Stall) (action n m : ℕ) → n < m → cycle_of stalls action n < cycle_of stalls action m
cycles_rise stalls action n m less = omega (arith, less, more_stalled action (n + 1) (m + 1) stalls (omega (arith, less)))

-- A unit that an action hasn't had is no cycle.
pub no_unit : (agent number unit : ℕ) (done : List (Option Turn)) → units agent number done ≤ unit → cycle_of_unit agent number unit done ≡ None
no_unit agent number unit [] few = refl
no_unit agent number unit (turn ∷ done) few = elim (cases_Bool (is_of agent number turn)) [
  | inl t ↦ (
      let less : suc (units agent number done) ≤ unit = rw t at few in
      rw (t, ne_eqb (units agent number done) unit (λ e. omega (arith, less, e))) (no_unit agent number unit done (omega (arith, less))))
  | inr t ↦ rw t (no_unit agent number unit done (rw t at few))
]
