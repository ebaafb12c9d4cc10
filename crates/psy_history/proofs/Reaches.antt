-- A cycle that pays an instruction: rings are reached for as far back as that one asks.
use Rattle.std.proofs.Common.{◌≡◌, ◌≢◌, ℕ, suc, ◌+◌, ◌-◌, ◌/◌, ◌<◌, ◌==◌, List, length, Option, Some, None, refl, sym, ap, ◌∙◌, subst, inl, inr, arith}
use Rattle.std.specs.List.{Contains}
use Rattle.std.proofs.lemmas.Bool.{cases_Bool, eq-eqb, eqb-false, eqb-true}
use Rattle.std.proofs.lemmas.List.Elements.{All-contains}
use Rattle.std.proofs.lemmas.Option.{get_or_from_slice_get, none-some, same_Some}
use Rattle.psy_budget.specs.Charges.{cycle_of}
use Rattle.psy_code.specs.declared.code.AgentCode.{AgentCode}
use Rattle.psy_code.specs.declared.code.Code.{Code}
use Rattle.psy_code.specs.Execution.{NoRun, RanTo, Run, RunState, Running, Stuck, TrappedBy, call_of, go_on, next_of as next_machine, run_code}
use Rattle.psy_code.specs.Lasting.{IsOver}
use Rattle.psy_code.specs.Views.{Call, Looked, Past, Ready, Send, Take}
use Rattle.psy_history.specs.Actions.{Action, History, System}
use Rattle.psy_meaning.specs.CodeWays.{agent_code_at}
use Rattle.psy_history.specs.History.{history}
use Rattle.psy_history.specs.Processors.{processor_at}
use Rattle.psy_history.specs.Schedule.{Turn, cycle_of_unit, turn_of, units}
use Rattle.psy_history.specs.Summary.{reach}
use Rattle.psy_base.specs.Extremes.{greater}
use Rattle.psy_history.specs.Regular.{IsLawful, IsRegular, Runs, begun_by}
use Rattle.psy_history.specs.Rings.{age_at, reach_with}
use Rattle.psy_history.specs.Runs.{IsRun}
use Rattle.psy_meaning.specs.KnownWays.{Ways}
use Rattle.psy_history.proofs.LateLooks.{over_stays, parts}
use Rattle.psy_history.proofs.LooksOfCode.{asked_look, look_asked, looks_of, none_ahead}
use Rattle.psy_history.proofs.Numbers.{agent_of, one_of_number}
use Rattle.psy_history.proofs.Reached.{IsNow, IsReached, before_or_now, reach_one_more, reach_same, reached_stays, with_cycle}
use Rattle.psy_history.proofs.RunLooks.{before_end, looks_are}
use Rattle.psy_history.proofs.UnitCycles.{one_paid, unit_now}

-- ---- what an action of the code looks at

over_runs : (run : Run) (last : RunState) → IsOver run last → run ≢ NoRun
over_runs (Running s) last over = absurd over
over_runs (RanTo point s) last over = λ e. cc
over_runs (TrappedBy kind s) last over = λ e. cc
over_runs NoRun last over = absurd over

module _ (s : System) (ways : Ways) (code : Code) (run : IsRun s ways code) (lawful : IsLawful s) (dates agent : ℕ) (r : Action) (there : Contains (history s dates agent) r) where
  module _ (runs : Runs s ways code r) (instr : ℕ) (state : RunState) (running : run_code code (agent_code_at code r.agent) (begun_by (agent_code_at code r.agent) r) instr ≡ Running state) (paid : instr < r.budget) where
    abbrev its : AgentCode
    its = runs.its

    abbrev start : RunState
    start = begun_by its r

    same_code : agent_code_at code r.agent ≡ its
    same_code = get_or_from_slice_get code.agents r.agent its _ runs.of_code

    abbrev after : ℕ → Run
    after n = run_code code its start n

    at_instr : after instr ≡ Running state
    at_instr = subst (λ i. run_code code i (begun_by i r) instr ≡ Running state) same_code running

    runs_on : after r.budget ≢ NoRun
    runs_on = elim runs.ends [
      | inl over ↦ over_runs (after r.budget) runs.last (subst (λ run. IsOver run runs.last) (sym (over_stays code its runs.steps r.budget start runs.last runs.within over)) over)
      | inr spent ↦ (let on : after r.budget ≡ Running runs.last = subst (λ n. after n ≡ Running runs.last) spent.0 spent.1 in λ stuck. let not = sym on ∙ stuck in cc)
    ]

    early : instr < runs.steps
    early = before_end s ways code r runs instr state at_instr paid

    -- the state there is the one that goes on
    goes_there : (runs.on_the_way instr early).state ≡ state
    goes_there = (let e = sym (runs.on_the_way instr early).running ∙ at_instr in cc)

    counted : state.deeds.steps ≡ instr
    counted = subst (λ (t : RunState). t.deeds.steps ≡ instr) goes_there (runs.on_the_way instr early).counted

    able : next_machine code its state.view state.machine ≢ Stuck
    able = subst (λ (t : RunState). next_machine code its t.view t.machine ≢ Stuck) goes_there (runs.on_the_way instr early).able

    abbrev rest : ℕ
    rest = r.budget - instr - 1

    cut : after r.budget ≡ run_code code its state (suc rest)
    cut =
        let sum : r.budget ≡ instr + suc rest = omega (arith, paid) in
        ap after sum ∙ parts code its instr (suc rest) start ∙ ap (λ run. go_on run (λ t. run_code code its t (suc rest))) at_instr

    looks_here : r.deeds.looks ≡ looks_of (run_code code its state (suc rest))
    looks_here = looks_are s ways code run lawful dates agent r there runs ∙ ap looks_of cut

    -- what it looks at under the number of an instruction, that one asks for,
    asks_for : (look : Looked) → Contains r.deeds.looks look → look.number ≡ instr → call_of code state.machine ≡ Some (Past look.variable look.back)
    asks_for look c number =
        look_asked code its rest state look (subst (λ looks. Contains looks look) looks_here c) (number ∙ sym counted) (none_ahead code its instr start state look refl at_instr (omega (arith, number)))

    -- and what one asks for, it looks at.
    is_looked : (variable back : ℕ) → call_of code state.machine ≡ Some (Past variable back) → Contains r.deeds.looks (record { number = instr; variable = variable; back = back })
    is_looked variable back asks =
        subst (λ n. Contains r.deeds.looks (record { number = n; variable = variable; back = back })) counted
        (subst (λ looks. Contains looks (record { number = state.deeds.steps; variable = variable; back = back })) (sym looks_here)
        (asked_look code its rest state variable back asks able (λ stuck. runs_on (cut ∙ stuck))))

    -- ---- how far back it reaches

    module _ (turns : ℕ → List (Option Turn)) (variable : ℕ) (has : units r.agent r.number (turns r.agent) ≡ cycle_of (s.stalls r.agent) r.number instr) where
      abbrev h : History
      h = history s dates

      abbrev with_this : ℕ → List (Option Turn)
      with_this = with_cycle s turns h variable r

      -- it is one of this action
      on_its : (unit : ℕ) → units r.agent r.number (turns r.agent) ≡ unit → cycle_of_unit r.agent r.number unit (with_this r.agent) ≡ Some (length (turns r.agent))
      on_its unit e = rw (eq-eqb (processor_at s.unit r.agent) (processor_at s.unit r.agent) refl) (unit_now r (turns r.agent) unit e)

      -- a look that the next cycle executes is of this action, and the instruction asks for it
      now_asked : (n : ℕ) (it : IsReached s with_this h variable n) → IsNow s turns r it.r it.look it.cycle → (it.r ≡ r) × (call_of code state.machine ≡ Some (Past variable it.look.back))
      now_asked n it now =
          let place : it.agent ≡ agent = sym (agent_of s dates it.agent it.r it.there) ∙ sym now.agent ∙ agent_of s dates agent r there in
          let same : it.r ≡ r = one_of_number s dates dates agent it.r r (subst (λ a. Contains (h a) it.r) place it.there) there (sym now.number) in
          let number : it.look.number ≡ instr = one_paid (s.stalls r.agent) r.number it.look.number instr (sym now.unit ∙ has) in
          let asks = asks_for it.look (subst (λ (q : Action). Contains q.deeds.looks it.look) same it.looked) number in
          (same, subst (λ v. call_of code state.machine ≡ Some (Past v it.look.back)) it.at asks)

      no_further : ((back : ℕ) → call_of code state.machine ≡ Some (Past variable back) → ⊥) → reach s with_this h variable ≡ reach s turns h variable
      no_further none = reach_same s with_this turns h h variable
          (λ n it. elim (before_or_now s turns h variable r n it) [ inl before ↦ before | inr now ↦ absurd (none it.look.back (now_asked n it now).1) ])
          (reached_stays s turns h variable (processor_at s.unit r.agent) (turn_of (Some r)))

      known : agent < length s.unit.agents
      known = (All-contains (IsRegular s agent) (history s dates agent) r (lawful.actions dates agent).each there).known

      further : (back : ℕ) → call_of code state.machine ≡ Some (Past variable back) → reach s with_this h variable ≡ greater (age_at s variable back r.start (length (turns r.agent) / s.unit.quantum)) (reach s turns h variable)
      further back asks = reach_one_more s with_this turns h h variable (age_at s variable back r.start (length (turns r.agent) / s.unit.quantum))
          (record {
            agent = agent;
            known = known;
            r = r;
            there = there;
            look = record { number = instr; variable = variable; back = back };
            looked = is_looked variable back asks;
            at = refl;
            cycle = length (turns r.agent);
            executed = on_its (cycle_of (s.stalls r.agent) r.number instr) has;
            is = refl;
          })
          (λ n it. elim (before_or_now s turns h variable r n it) [
            | inl before ↦ inr before
            | inr now ↦ (
                let (same, asked) = now_asked n it now in
                let calls : Past variable it.look.back ≡ Past variable back = same_Some (Past variable it.look.back) (Past variable back) (sym asked ∙ asks) in
                let as_far : it.look.back ≡ back = cc in
                inl (rw (it.is, same, it.at, as_far, sym now.cycle_is) refl))
          ])
          (reached_stays s turns h variable (processor_at s.unit r.agent) (turn_of (Some r)))

      pub reach_paid : (call : Option Call) → call_of code state.machine ≡ call → reach s with_this h variable ≡ reach_with s variable r.start (length (turns r.agent) / s.unit.quantum) call (reach s turns h variable)
      reach_paid None e = no_further (λ back asks. none-some (Past variable back) (sym e ∙ asks))
      reach_paid (Some (Past looked back)) e = elim (cases_Bool (looked == variable)) [
        | inl t ↦ rw t (further back (subst (λ v. call_of code state.machine ≡ Some (Past v back)) (eqb-true looked variable t) e))
        | inr f ↦ rw f (no_further (λ other asks. let calls : Past looked back ≡ Past variable other = same_Some (Past looked back) (Past variable other) (sym e ∙ asks) in let same : looked ≡ variable = cc in eqb-false looked variable f same))
      ]
      reach_paid (Some (Ready stream)) e = no_further (λ back asks. let calls : Ready stream ≡ Past variable back = same_Some (Ready stream) (Past variable back) (sym e ∙ asks) in cc)
      reach_paid (Some (Take stream)) e = no_further (λ back asks. let calls : Take stream ≡ Past variable back = same_Some (Take stream) (Past variable back) (sym e ∙ asks) in cc)
      reach_paid (Some (Send sent)) e = no_further (λ back asks. let calls : Send sent ≡ Past variable back = same_Some (Send sent) (Past variable back) (sym e ∙ asks) in cc)
