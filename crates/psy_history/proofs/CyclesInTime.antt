-- Where the processor can supply the demand, the cycles of an action lie from its start on and before its deadline.
use Rattle.std.proofs.Common.{◌≡◌, ℕ, zero, suc, ◌+◌, ◌*◌, ◌/◌, ◌<◌, ◌≤◌, ◌&&◌, List, length, Some, true, sym, ◌∙◌, subst, inl, inr, arith}
use Rattle.std.specs.Prelude.{◌==◌}
use Rattle.std.specs.List.{Contains}
use Rattle.std.proofs.lemmas.Bool.{and_parts, cases_Bool, cases_lt, ltb-false}
use Rattle.std.proofs.lemmas.List.Elements.{All-contains}
use Rattle.std.proofs.lemmas.Nat.{div_below}
use Rattle.std.proofs.lemmas.Option.{none-some, same_Some}
use Rattle.psy_history.specs.Actions.{Action, System}
use Rattle.psy_history.specs.History.{history}
use Rattle.psy_history.specs.Schedule.{cycle_of_unit, is_of, units, work}
use Rattle.psy_history.specs.Regular.{IsRegular}
use Rattle.psy_history.specs.Processors.{processor_at}
use Rattle.psy_history.specs.Scheduled.{IsSupplied, turns_by}
use Rattle.psy_history.proofs.Finishes.{as_many, due_finished, started_by}
use Rattle.psy_history.proofs.Growth.{stays_started}
use Rattle.psy_history.proofs.Numbers.{agent_of, one_of_number}
use Rattle.psy_history.proofs.StartedActions.{start_below}
use Rattle.psy_history.proofs.Turns.{next_is_pending, next_of_number, next_turn, serving, turns_in, units_rise}

-- Each unit of an action is the turn of a cycle.
turn_of_unit : (s : System) (order : ℕ → List ℕ) (agent number unit cycles cycle : ℕ) → cycle_of_unit agent number unit (turns_in s order cycles) ≡ Some cycle → (cycle < cycles) × (is_of agent number (next_turn s order cycle) ≡ true)
turn_of_unit s order agent number unit zero cycle e = absurd (none-some cycle e)
turn_of_unit s order agent number unit (suc cycles) cycle e =
    let turn = is_of agent number (next_turn s order cycles) in
    let nth = units agent number (turns_in s order cycles) == unit in
    elim (cases_Bool (turn && nth)) [
      | inl t ↦ (
          let now : Some (length (turns_in s order cycles)) ≡ Some cycle = rw t at e in
          let same : cycles ≡ cycle = sym (as_many s order cycles) ∙ same_Some (length (turns_in s order cycles)) cycle now in
          (omega (arith, same), subst (λ c. is_of agent number (next_turn s order c) ≡ true) same (and_parts turn nth t).0))
      | inr f ↦ (let before = turn_of_unit s order agent number unit cycles cycle (rw f at e) in (omega (arith, before.0), before.1))
    ]

-- The date in which a cycle lies begins no later.
date_begins : (cycle quantum : ℕ) → 1 ≤ quantum → cycle / quantum * quantum ≤ cycle
date_begins cycle quantum some = elim (cases_lt cycle (cycle / quantum * quantum)) [
  | inl less ↦ (let below = div_below cycle quantum (cycle / quantum) (omega (arith, some)) less in absurd (omega (arith, below)))
  | inr most ↦ most
]

module _ (s : System) (order : ℕ → List ℕ) (until : ℕ) (supplied : IsSupplied s order until) (dates agent : ℕ) (r : Action) (there : Contains (history s dates agent) r) where
  -- how the processor of its agent serves
  abbrev own : ℕ → List ℕ
  own = serving s order (processor_at s.unit r.agent)

  behind_start : (cycle : ℕ) → is_of r.agent r.number (next_turn s own cycle) ≡ true → r.start ≤ cycle / s.unit.quantum
  behind_start cycle turn =
      let known : r.agent ≡ agent = agent_of s dates agent r there in
      let (q, begun, of_number, less) = next_of_number s own cycle agent r.number (subst (λ n. is_of n r.number (next_turn s own cycle) ≡ true) known turn) in
      let same : q ≡ r = one_of_number s (cycle / s.unit.quantum + 1) dates agent q r begun there of_number in
      let early = start_below s supplied.lawful (cycle / s.unit.quantum + 1) agent r (subst (Contains (history s (cycle / s.unit.quantum + 1) agent)) same begun) in
      omega (arith, early)

  -- By its deadline an action is finished, so no cycle goes to it from then on.
  before_deadline : (cycle : ℕ) → cycle < until * s.unit.quantum → is_of r.agent r.number (next_turn s own cycle) ≡ true → cycle / s.unit.quantum < r.deadline
  before_deadline cycle early turn = elim (cases_lt (cycle / s.unit.quantum) r.deadline) [
    | inl less ↦ less
    | inr due ↦ (
        let date = cycle / s.unit.quantum in
        let its : IsRegular s agent r = All-contains (IsRegular s agent) (history s dates agent) r (supplied.lawful.actions dates agent).each there in
        let begun = stays_started s (suc r.start) date agent r (omega (arith, its.due, due)) (started_by s dates agent r there) in
        let below = div_below cycle s.unit.quantum until (omega (arith, supplied.quantum)) early in
        let finished = due_finished s order until supplied date agent r (omega (arith, below)) begun due in
        let all = ltb-false (units r.agent r.number (turns_in s own (date * s.unit.quantum))) (work r) finished in
        let more = units_rise s own r.agent r.number (date * s.unit.quantum) cycle (date_begins cycle s.unit.quantum supplied.quantum) in
        let fewer = next_is_pending s own cycle dates agent r there turn in
        absurd (omega (arith, all, more, fewer))
        )
  ]

  pub unit_within : (unit cycles cycle : ℕ) → cycles ≤ until * s.unit.quantum → cycle_of_unit r.agent r.number unit (turns_by s order cycles r.agent) ≡ Some cycle → (r.start ≤ cycle / s.unit.quantum) × (cycle / s.unit.quantum < r.deadline)
  unit_within unit cycles cycle early e =
      let (less, turn) = turn_of_unit s own r.agent r.number unit cycles cycle e in
      (behind_start cycle turn, before_deadline cycle (omega (arith, early, less)) turn)
