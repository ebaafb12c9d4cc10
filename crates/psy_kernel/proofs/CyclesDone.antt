-- What so many cycles of a processor went to: one turn each, and more of them with each cycle.
use Rattle.std.proofs.Common.{◌≡◌, refl, sym, ap, ◌∙◌, subst, inl, inr, arith, add-one}
use Rattle.std.specs.Prelude.{ℕ, zero, suc, ◌+◌, ◌-◌, ◌*◌, ◌/◌, ◌<◌, ◌≤◌, Bool, true, false, if◌then◌else◌, List, ◌∷◌, length, Option}
use Rattle.std.proofs.lemmas.Bool.{cases_lt, ltb-false, le-ltb}
use Rattle.std.proofs.lemmas.Nat.{div-mul-add}
use Rattle.psy_history.specs.Actions.{Action, System}
use Rattle.psy_history.specs.History.{history}
use Rattle.psy_history.specs.Processors.{served}
use Rattle.psy_history.specs.Schedule.{Turn, is_of, is_pending, pending, soonest, turn_of, units, work}
use Rattle.psy_history.specs.Scheduled.{turns_of}

module _ (s : System) (order : ℕ → List ℕ) (processor : ℕ) where
  pub as_many : (cycles : ℕ) → length (turns_of s order cycles processor) ≡ cycles
  as_many zero = refl
  as_many (suc cycle) = ap suc (as_many cycle)

  grows : (agent number : ℕ) (turn : Option Turn) (before : List (Option Turn)) → units agent number before ≤ units agent number (turn ∷ before)
  grows agent number turn before = by (is_of agent number turn)
    where
      by : (test : Bool) → units agent number before ≤ (if test then suc (units agent number before) else units agent number before)
      by true = omega arith
      by false = omega arith

  pub units_grow : (agent number : ℕ) (first cycles : ℕ) → first ≤ cycles → units agent number (turns_of s order first processor) ≤ units agent number (turns_of s order cycles processor)
  units_grow agent number first zero h = let e : first ≡ zero = omega (arith, h) in subst (λ n. units agent number (turns_of s order n processor) ≤ units agent number (turns_of s order zero processor)) (sym e) (omega arith)
  units_grow agent number first (suc cycle) h = elim (cases_lt cycle first) [
    | inl less ↦ let e : first ≡ suc cycle = omega (arith, h, less) in subst (λ n. units agent number (turns_of s order n processor) ≤ units agent number (turns_of s order (suc cycle) processor)) (sym e) (omega arith)
    | inr more ↦
        let a = units_grow agent number first cycle more in
        let b = grows agent number (turn_of (soonest (pending (served s.unit processor (order cycle)) (turns_of s order cycle processor) (history s (cycle / s.unit.quantum + 1))))) (turns_of s order cycle processor) in
        omega (arith, a, b)
  ]

  -- what is finished stays so
  pub stays_over : (r : Action) (first cycles : ℕ) → first ≤ cycles → is_pending (turns_of s order first processor) r ≡ false → is_pending (turns_of s order cycles processor) r ≡ false
  stays_over r first cycles h over =
      let done = ltb-false (units r.agent r.number (turns_of s order first processor)) (work r) over in
      let more = units_grow r.agent r.number first cycles h in
      le-ltb (units r.agent r.number (turns_of s order cycles processor)) (work r) (omega (arith, done, more))

  pub tick_of_cycle : (date cycle : ℕ) → date * s.unit.quantum ≤ cycle → cycle < (date + 1) * s.unit.quantum → cycle / s.unit.quantum ≡ date
  tick_of_cycle date cycle low high =
      let rest : cycle ≡ date * s.unit.quantum + (cycle - date * s.unit.quantum) = omega (arith, low) in
      ap (λ n. n / s.unit.quantum) rest ∙ div-mul-add date s.unit.quantum (cycle - date * s.unit.quantum) (by (date * s.unit.quantum) cycle s.unit.quantum ((date + 1) * s.unit.quantum) (grind arith) low high)
    where
      by : (a c q m : ℕ) → m ≡ a + q → a ≤ c → c < m → c - a < q
      by a c q m e low high = omega (arith, e, low, high)

  -- the next cycle goes to the soonest of what is pending of the dates done
  pub next_turn : (date cycle : ℕ) → date * s.unit.quantum ≤ cycle → cycle < (date + 1) * s.unit.quantum
      → turns_of s order (cycle + 1) processor ≡ turn_of (soonest (pending (served s.unit processor (order cycle)) (turns_of s order cycle processor) (history s (date + 1)))) ∷ turns_of s order cycle processor
  next_turn date cycle low high =
      ap (λ n. turns_of s order n processor) (add-one cycle)
      ∙ ap (λ n. turn_of (soonest (pending (served s.unit processor (order cycle)) (turns_of s order cycle processor) (history s (n + 1)))) ∷ turns_of s order cycle processor) (tick_of_cycle date cycle low high)
