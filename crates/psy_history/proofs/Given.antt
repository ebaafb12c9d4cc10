-- The cycles that an action is given: none before it starts, and no more than its work.
use Rattle.std.proofs.Common.{◌≡◌, ℕ, zero, suc, ◌+◌, ◌*◌, ◌/◌, ◌≤◌, List, length, refl, inl, inr, arith}
use Rattle.std.specs.List.{Contains}
use Rattle.std.proofs.lemmas.Bool.{cases_Bool}
use Rattle.std.proofs.lemmas.Nat.{div_below}
use Rattle.psy_history.specs.Actions.{Action, System}
use Rattle.psy_history.specs.History.{history}
use Rattle.psy_history.specs.Schedule.{is_of, units, work}
use Rattle.psy_history.specs.Regular.{first_number}
use Rattle.psy_history.proofs.Growth.{stays_started}
use Rattle.psy_history.proofs.Numbers.{number_of}
use Rattle.psy_history.proofs.Turns.{next_is_pending, next_of_number, next_turn, turns_in}

module _ (s : System) (order : ℕ → List ℕ) where
  pub given_within : (dates cycles agent : ℕ) (r : Action) → Contains (history s dates agent) r → units r.agent r.number (turns_in s order cycles) ≤ work r
  given_within dates zero agent r c = omega arith
  given_within dates (suc cycles) agent r c = elim (cases_Bool (is_of r.agent r.number (next_turn s order cycles))) [
    | inl t ↦ (let fewer = next_is_pending s order cycles dates agent r c t in rw t (omega (arith, fewer)))
    | inr f ↦ (let before = given_within dates cycles agent r c in rw f before)
  ]

  pub given_unstarted : (date cycles agent number : ℕ) → 1 ≤ s.unit.quantum → cycles ≤ date * s.unit.quantum → first_number s agent + length (history s date agent) ≤ number → units agent number (turns_in s order cycles) ≡ 0
  given_unstarted date zero agent number some l high = refl
  given_unstarted date (suc cycles) agent number some l high = elim (cases_Bool (is_of agent number (next_turn s order cycles))) [
    | inl t ↦ (
        let (q, there, of_number, less) = next_of_number s order cycles agent number t in
        let by : cycles / s.unit.quantum + 1 ≤ date = (let below = div_below cycles s.unit.quantum date (omega (arith, some)) (omega (arith, l)) in omega (arith, below)) in
        let low = number_of s date agent q (stays_started s (cycles / s.unit.quantum + 1) date agent q by there) in
        absurd (omega (arith, low, of_number, high))
        )
    | inr f ↦ (let before = given_unstarted date cycles agent number some (omega (arith, l)) high in rw f before)
  ]
