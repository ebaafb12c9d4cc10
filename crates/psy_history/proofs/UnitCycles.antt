-- Which unit of an action a cycle is, and the unit that pays an instruction.
use Rattle.std.proofs.Common.{◌≡◌, ℕ, suc, ◌+◌, ◌<◌, ◌≤◌, ◌==◌, ◌&&◌, List, [], ◌∷◌, length, Option, Some, None, refl, sym, ◌∙◌, inl, inr, arith}
use Rattle.std.proofs.lemmas.Bool.{and_parts, cases_Bool, cases_order, eq-eqb, eqb-true, ne_eqb}
use Rattle.std.proofs.lemmas.Bool.Decides.{nat_tests}
use Rattle.std.proofs.lemmas.Option.{none-some}
use Rattle.psy_budget.proofs.lemmas.Stalls.{more_stalled}
use Rattle.psy_budget.specs.declared.charge.Stall.{Stall}
use Rattle.psy_budget.specs.Charges.{cycle_of}
use Rattle.psy_history.specs.Actions.{Action}
use Rattle.psy_history.specs.Schedule.{Turn, cycle_of_unit, is_of, turn_of, units}

-- ---- units

-- A unit that an action hasn't had is no cycle.
pub no_unit : (agent number unit : ℕ) (done : List (Option Turn)) → units agent number done ≤ unit → cycle_of_unit agent number unit done ≡ None
no_unit agent number unit [] few = refl
no_unit agent number unit (turn ∷ done) few = elim (cases_Bool (is_of agent number turn)) [
  | inl t ↦ (
      let less : suc (units agent number done) ≤ unit = rw t at few in
      rw (t, ne_eqb (units agent number done) unit (λ e. omega (arith, less, e))) (no_unit agent number unit done (omega (arith, less))))
  | inr t ↦ rw t (no_unit agent number unit done (rw t at few))
]

-- A cycle that goes to an action is its next unit.
pub unit_now : (r : Action) (turns : List (Option Turn)) (unit : ℕ) → units r.agent r.number turns ≡ unit → cycle_of_unit r.agent r.number unit (turn_of (Some r) ∷ turns) ≡ Some (length turns)
unit_now r turns unit e = rw (eq-eqb r.agent r.agent refl, eq-eqb r.number r.number refl, eq-eqb (units r.agent r.number turns) unit e) refl

-- A unit that was had stays where it is.
pub unit_stays : (turn : Option Turn) (turns : List (Option Turn)) (agent number unit cycle : ℕ) → cycle_of_unit agent number unit turns ≡ Some cycle → cycle_of_unit agent number unit (turn ∷ turns) ≡ Some cycle
unit_stays turn turns agent number unit cycle had = elim (cases_Bool (is_of agent number turn && units agent number turns == unit)) [
  | inl t ↦ (
      let both = and_parts (is_of agent number turn) (units agent number turns == unit) t in
      let none = no_unit agent number unit turns (omega (arith, eqb-true (units agent number turns) unit both.1)) in
      absurd (none-some cycle (sym none ∙ had)))
  | inr f ↦ rw f had
]

-- ---- the units that pay instructions

-- They rise with the instructions.
cycles_rise : (stalls : List Stall) (action n m : ℕ) → n < m → cycle_of stalls action n < cycle_of stalls action m
cycles_rise stalls action n m less = omega (arith, less, more_stalled action (n + 1) (m + 1) stalls (omega (arith, less)))

-- So a unit pays no more than one.
pub one_paid : (stalls : List Stall) (action n m : ℕ) → cycle_of stalls action n ≡ cycle_of stalls action m → n ≡ m
one_paid stalls action n m e = elim (cases_order n m) [
  | inl same ↦ same
  | inr other ↦ elim other [
    | inl less ↦ absurd (omega (arith, e, cycles_rise stalls action n m less))
    | inr more ↦ absurd (omega (arith, e, cycles_rise stalls action m n more))
  ]
]
