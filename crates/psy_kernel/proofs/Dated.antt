-- All agents at a date.
use Rattle.std.proofs.Common.{◌≡◌, ℤ, ℕ, suc, ◌+◌, ◌*◌, ◌^◌, ◌<◌, ◌≤◌, true, false, List, length, get_or, Option, Some, None, sym, ap, subst, ◌∙◌, inl, inr, arith}
use Rattle.std.specs.List.{Contains, slice_get}
use Rattle.std.proofs.lemmas.Bool.{cases_lt, true≢false}
use Rattle.std.proofs.lemmas.Option.{slice_get-get_or, slice_get_within}
use Rattle.std.proofs.lemmas.List.{get_or_past}
use Rattle.psy_lists.proofs.lemmas.Places.{there as some_at}
use Rattle.psy_budget.specs.declared.charge.Stall.{Stall}
use Rattle.psy_code.specs.declared.code.Code.{Code}
use Rattle.psy_tree.specs.declared.unit.Unit.{Unit as Whole}
use Rattle.psy_history.specs.Actions.{Action, Opening, System}
use Rattle.psy_history.specs.History.{history}
use Rattle.psy_history.specs.Schedule.{Turn, is_pending, units}
use Rattle.psy_history.specs.Compiled.{coded}
use Rattle.psy_history.specs.Regular.{IsLawful, first_number}
use Rattle.psy_dates.specs.declared.seat.Seat.{Seat}
use Rattle.psy_dates.proofs.lemmas.Begun.{AreBegun}
use Rattle.psy_kernel.specs.declared.engine.Runner.{Runner}
use Rattle.psy_kernel.specs.Standing.{AgentStands, InTick}
use Rattle.psy_dates.specs.Movers.{IsDoneBelow}
use Rattle.psy_kernel.specs.Starting.{deadline_at, runner_at, seat_at, starts_at}
use Rattle.psy_kernel.proofs.Started.{Sits, agent_after, free_where}

pub tick_after : (quantum until date cycles : ℕ) → date ≤ until → cycles ≡ date * quantum → InTick quantum until (suc date) cycles
tick_after quantum until date cycles within filled =
    let more : (date + 1) * quantum ≡ date * quantum + quantum = omega arith in
    (within, omega (arith, filled), omega (arith, filled, more), λ last. filled)

-- ---- the agents

same_item : {X : Type 0} (o : Option X) (x y : X) → o ≡ Some x → o ≡ Some y → x ≡ y
same_item o x y e f = (let both : Some x ≡ Some y = sym e ∙ f in cc)

module _ (unit : Whole) (code : Code) (nexts : List (List (List ℕ))) (opening : Opening) (stalls : ℕ → List Stall) (inputs : List (List ℤ)) where
  abbrev of_code : System
  of_code = record (coded unit code nexts stalls inputs) { opening = opening }

  module _ (date until : ℕ) (turns : ℕ → List (Option Turn)) (lawful : IsLawful of_code) (opens : AreBegun of_code date) (small : date ≤ 2 ^ 32)
      (unstarted : (agent number : ℕ) → first_number of_code agent + length (history of_code date agent) ≤ number → units agent number (turns agent) ≡ 0)
      (in_time : (agent : ℕ) (r : Action) → Contains (history of_code date agent) r → r.deadline ≤ date → is_pending (turns agent) r ≡ false)
      (runners : List Runner) (waits : ℕ → Option ℕ) (run : length runners ≡ length unit.agents)
      (before : (agent : ℕ) (runner : Runner) → slice_get runners agent ≡ Some runner → AgentStands of_code code (turns agent) until agent (history of_code date agent) runner (waits agent))
      (seats : List Seat) (seated : length seats ≡ length unit.agents)
      (sits : (agent : ℕ) (seat : Seat) → slice_get seats agent ≡ Some seat → Sits of_code date (turns agent) agent (history of_code (suc date) agent) seat) where
    seat_there : (agent : ℕ) → agent < length unit.agents → Sits of_code date (turns agent) agent (history of_code (suc date) agent) (seat_at seats agent)
    seat_there agent l = sits agent (seat_at seats agent) (slice_get-get_or seats agent _ (omega (arith, l, seated)))

    pub agents_after : (runners' : List Runner) (waits' : ℕ → Option ℕ) → IsDoneBelow (runner_at date seats unit.agents) (length unit.agents) runners runners'
        → ((agent : ℕ) → agent < length unit.agents → waits' agent ≡ deadline_at date seats agent (waits agent))
        → (agent : ℕ) (runner : Runner) → slice_get runners' agent ≡ Some runner → AgentStands of_code code (turns agent) until agent (history of_code (suc date) agent) runner (waits' agent)
    agents_after runners' waits' started waited agent runner there =
        let l : agent < length unit.agents = omega (arith, slice_get_within runners' agent runner there, started.count, run) in
        let old : Runner = get_or runners agent runner in
        let here : slice_get runners agent ≡ Some old = slice_get-get_or runners agent runner (omega (arith, l, run)) in
        let its : runner_at date seats unit.agents agent old ≡ runner = same_item (slice_get runners' agent) _ runner (started.done agent old l here) there in
        let new = agent_after unit code nexts opening stalls inputs date until agent (turns agent) lawful opens small (unstarted agent) (in_time agent) (seat_at seats agent) old (waits agent) (seat_there agent l) (before agent old here) in
        subst (λ x. AgentStands of_code code (turns agent) until agent (history of_code (suc date) agent) x (waits' agent)) its
        (subst (AgentStands of_code code (turns agent) until agent (history of_code (suc date) agent) (runner_at date seats unit.agents agent old)) (sym (waited agent l)) new)

    -- who starts wasn't waiting
    pub free_before : (agent : ℕ) → starts_at date (seat_at seats agent) ≡ true → waits agent ≡ None
    free_before agent starts = elim (cases_lt agent (length unit.agents)) [
      | inl l ↦ (
          let runner = some_at runners agent (omega (arith, l, run)) in
          let old = before agent runner.0 runner.1 in
          old.ready ∙ free_where unit code nexts opening stalls inputs date until agent (turns agent) lawful opens small (unstarted agent) (in_time agent) (seat_at seats agent) (seat_there agent l) starts)
      | inr ge ↦ absurd (true≢false (sym starts ∙ ap (starts_at date) (get_or_past seats agent _ (omega (arith, ge, seated)))))
    ]
