-- What an action is charged and comes to, where it is what its code came to.
use Rattle.std.proofs.Common.{◌≡◌, ℕ, suc, ◌+◌, ◌<◌, ◌≤◌, List, Some, IsSome, slice_get, sym, ap, ◌∙◌, subst, inl, inr, arith}
use Rattle.std.specs.Prelude.{if◌then◌else◌}
use Rattle.std.proofs.lemmas.Bool.{cases_lt, lt-ltb, le-ltb}
use Rattle.std.proofs.lemmas.Option.{get_or_from_slice_get}
use Rattle.psy_budget.proofs.lemmas.Stalls.{more_stalled}
use Rattle.psy_arith.specs.declared.operators.Trap.{Trap}
use Rattle.psy_budget.specs.declared.charge.Stall.{Stall}
use Rattle.psy_budget.specs.Charges.{cycle_of, stalled}
use Rattle.psy_code.specs.declared.code.AgentCode.{AgentCode}
use Rattle.psy_code.specs.declared.code.Code.{Code}
use Rattle.psy_code.specs.Execution.{Machine, RunState, Run, Running, RanTo, TrappedBy, NoRun, copy_of, run_code}
use Rattle.psy_code.specs.Lasting.{IsOver}
use Rattle.psy_code.specs.Views.{Deeds}
use Rattle.psy_machine.specs.Stepping.{AgentMachine}
use Rattle.psy_history.specs.Actions.{Action, System, Overran, timing, verdict_by}
use Rattle.psy_meaning.specs.CodeWays.{agent_code_at}
use Rattle.psy_history.specs.Executors.{Acted, Carried, acted_as, carried_by, machine_at}
use Rattle.psy_history.specs.Schedule.{work}
use Rattle.psy_meaning.specs.Timing.{end_date}
use Rattle.psy_tree.specs.declared.unit.VarDecl.{VarDecl}
use Rattle.psy_history.specs.Regular.{Runs, begun_by}
use Rattle.psy_kernel.specs.declared.engine.advance.Gone.TheVariants as gone
use Rattle.psy_kernel.specs.Acting.{IsGone, IsOfCode, came_to}
use Rattle.psy_kernel.proofs.RunsOn.{IsWhole, before_over, stays_over}

-- What was done by a run that is over
acted_over : (budget : ℕ) (before : Carried) (run : Run) (t : RunState) → IsOver run t → (acted_as budget before run).deeds.steps ≡ t.deeds.steps
acted_over budget before (RanTo point s) t over = ap (λ (s : RunState). s.deeds.steps) (sym over)
acted_over budget before (TrappedBy kind s) t over = ap (λ (s : RunState). s.deeds.steps) (sym over)
acted_over budget before (Running s) t over = absurd over
acted_over budget before NoRun t over = absurd over

module _ (s : System) (code : Code) (r : Action) (w : IsOfCode s code r) where
  abbrev pub runs : Runs s w.ways code r
  runs = w.runs

  abbrev pub its : AgentCode
  its = agent_code_at code r.agent

  abbrev pub start : RunState
  start = begun_by its r

  abbrev stalls : List Stall
  stalls = s.stalls r.agent

  same_code : runs.its ≡ its
  same_code = sym (get_or_from_slice_get code.agents r.agent runs.its _ runs.of_code)

  pub of_code : slice_get code.agents r.agent ≡ Some its
  of_code = runs.of_code ∙ ap Some same_code

  pub is_whole : IsWhole s w.ways code its r runs.steps runs.last
  is_whole = subst (λ (c : AgentCode). IsWhole s w.ways code c r runs.steps runs.last) same_code (record { within = runs.within; ends = runs.ends; counted = runs.counted; on_the_way = runs.on_the_way })

  -- ---- its cost and charge

  pub in_budget : came_to code r ≡ acted_as r.budget r.before (run_code code its start runs.steps)
  in_budget = elim is_whole.ends [
    | inl over ↦ ap (acted_as r.budget r.before) (stays_over code its runs.last runs.steps r.budget start is_whole.within over)
    | inr spent ↦ ap (λ n. acted_as r.budget r.before (run_code code its start n)) (sym spent.0)
  ]

  -- where its code is over, it costs its instructions,
  cost_over : IsOver (run_code code its start runs.steps) runs.last → r.deeds.steps ≡ runs.steps
  cost_over over =
      ap (λ (d : Deeds). d.steps) w.deeds ∙ ap (λ (a : Acted). a.deeds.steps) in_budget
      ∙ acted_over r.budget r.before (run_code code its start runs.steps) runs.last over ∙ is_whole.counted

  -- and else one cycle more than its budget
  cost_spent : run_code code its start runs.steps ≡ Running runs.last → r.deeds.steps ≡ r.budget + 1
  cost_spent running =
      ap (λ (d : Deeds). d.steps) w.deeds ∙ ap (λ (a : Acted). a.deeds.steps) in_budget ∙ ap (λ (run : Run). (acted_as r.budget r.before run).deeds.steps) running

  charge_is : (cost : ℕ) → r.deeds.steps ≡ cost → r.charge ≡ cost + stalled stalls r.number cost
  charge_is cost e = w.charge ∙ ap (λ n. n + stalled stalls r.number n) e

  -- while its code runs on it had fewer cycles than its charge
  pub less_charge : (had paid : ℕ) (t : RunState) → had ≤ r.budget → run_code code its start paid ≡ Running t → had ≤ cycle_of stalls r.number paid → had < r.charge
  less_charge had paid t most running up_to = elim is_whole.ends [
    | inl over ↦ (
        let before = before_over s w.ways code its r runs.steps runs.last is_whole over paid t running in
        omega (arith, up_to, before, charge_is runs.steps (cost_over over), more_stalled r.number (paid + 1) runs.steps stalls (omega (arith, before))))
    | inr spent ↦ omega (arith, most, charge_is (r.budget + 1) (cost_spent spent.1))
  ]

  -- while it had fewer, its code runs on
  pub going : (had paid : ℕ) → had < work r → paid ≤ had → paid + stalled stalls r.number paid ≤ had → (t : RunState) × (run_code code its start paid ≡ Running t)
  going had paid less few from =
      let inside : paid < runs.steps = elim is_whole.ends [
        | inl over ↦ elim (cases_lt paid runs.steps) [
          | inl fewer ↦ fewer
          | inr more ↦ absurd (omega (arith, less, from, more, charge_is runs.steps (cost_over over), more_stalled r.number runs.steps paid stalls more))
        ]
        | inr spent ↦ omega (arith, less, few, spent.0)
      ] in
      let goes = is_whole.on_the_way paid inside in
      (goes.state, goes.running)

  pub overran : r.budget < r.charge → r.verdict ≡ Overran
  overran more = w.verdict ∙ ap (λ b. if b then Overran else verdict_by (timing s r.agent) r.start (came_to code r).fate) (lt-ltb r.budget r.charge more)

  -- ---- the cycle that pays its last instruction

  module _ (had paid : ℕ) (less : had < r.budget) (at : had ≡ cycle_of stalls r.number paid) (is_last : runs.steps ≡ suc paid) (over : IsOver (run_code code its start runs.steps) runs.last) where
    charge_had : r.charge ≡ suc had
    charge_had = omega (arith, at, charge_is (paid + 1) (cost_over over ∙ is_last ∙ omega arith))

    worked : suc had ≡ work r
    worked = omega (arith, charge_had, less)

    pub comes_to : (run : Run) → run_code code its start (suc paid) ≡ run → came_to code r ≡ acted_as r.budget r.before run
    comes_to run e = in_budget ∙ ap (acted_as r.budget r.before) (ap (run_code code its start) is_last ∙ e)

    decided : (run : Run) → run_code code its start (suc paid) ≡ run → r.verdict ≡ verdict_by (timing s r.agent) r.start (acted_as r.budget r.before run).fate
    decided run e =
        w.verdict ∙ ap (λ b. if b then Overran else verdict_by (timing s r.agent) r.start (came_to code r).fate) (le-ltb r.budget r.charge (omega (arith, charge_had, less)))
        ∙ ap (λ (a : Acted). verdict_by (timing s r.agent) r.start a.fate) (comes_to run e)

    module _ (point : ℕ) (t : RunState) (ran : run_code code its start (suc paid) ≡ RanTo point t) where
      ran_to : run_code code its start runs.steps ≡ RanTo point t
      ran_to = ap (run_code code its start) is_last ∙ ran

      last_is : runs.last ≡ t
      last_is = subst (λ (run : Run). IsOver run runs.last) ran_to over

      stands : t.machine ≡ machine_at its point (carried_by t.machine)
      stands =
          subst (λ (t : RunState). run_code code its start runs.steps ≡ RanTo point t → t.machine ≡ machine_at its point (carried_by t.machine)) last_is
          (subst (λ (c : AgentCode). run_code code c (begun_by c r) runs.steps ≡ RanTo point runs.last → runs.last.machine ≡ machine_at c point (carried_by runs.last.machine)) same_code (runs.stands point))
          ran_to

      has_owned : (variable : ℕ) (v : VarDecl) → slice_get s.unit.variables variable ≡ Some v → v.owner ≡ Some r.agent → IsSome (copy_of variable runs.last.machine.copies)
      has_owned variable v found owned =
          subst (λ (c : AgentCode). run_code code c (begun_by c r) runs.steps ≡ RanTo point runs.last → IsSome (copy_of variable runs.last.machine.copies)) same_code
          (λ e. runs.copies point variable v e found owned) (ran_to ∙ ap (RanTo point) (sym last_is))

      pub ended : (machine : AgentMachine) → machine.machine ≡ t.machine → IsGone s code r had machine (gone.Ended point)
      ended machine e = (
        worked,
        end_date (timing s r.agent) r.start point,
        decided (RanTo point t) ran,
        e ∙ stands ∙ ap (machine_at its point) (sym (w.after ∙ ap (λ (a : Acted). a.carried) (comes_to (RanTo point t) ran))),
        λ variable v found owned. subst (λ (m : Machine). IsSome (copy_of variable m.copies)) (ap (λ (t : RunState). t.machine) last_is ∙ sym e) (has_owned variable v found owned),
      )

    pub trapped : (kind : Trap) (t : RunState) → run_code code its start (suc paid) ≡ TrappedBy kind t → (machine : AgentMachine) → IsGone s code r had machine (gone.Trapped kind)
    trapped kind t ran machine = (worked, decided (TrappedBy kind t) ran)
