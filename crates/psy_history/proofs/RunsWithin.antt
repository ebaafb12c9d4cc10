-- The code of a run's actions runs on within their budgets, and asks on the way what it may.
use Rattle.std.proofs.Common.{◌≡◌, ◌≢◌, ℕ, zero, suc, ◌+◌, ◌-◌, ◌<◌, ◌≤◌, All, Some, refl, sym, ap, subst, ◌∙◌, inl, inr, add-one, zero-add, arith}
use Rattle.std.specs.Prelude.{replicate, slice_get}
use Rattle.std.proofs.lemmas.List.{length-replicate}
use Rattle.std.proofs.lemmas.List.Elements.{All-weaker}
use Rattle.psy_meaning.proofs.lemmas.Running.{same_running}
use Rattle.psy_code.specs.declared.code.AgentCode.{AgentCode}
use Rattle.psy_code.specs.declared.code.Code.{Code}
use Rattle.psy_code.specs.Execution.{Next, Went, Ended, Trapped, Stuck, NoRun, RanTo, Run, RunState, Running, TrappedBy, call_of, go_on, next_of as next_machine, run_by, run_code, run_one, standing, state_then}
use Rattle.psy_code.specs.Lasting.{IsOver}
use Rattle.psy_history.specs.Actions.{Action, System}
use Rattle.psy_meaning.specs.CodeWays.{agent_code_at}
use Rattle.psy_history.specs.Executors.{carried_by, machine_at}
use Rattle.psy_history.specs.History.{history}
use Rattle.psy_history.specs.Regular.{Goes, MayAsk, Runs, begun_by}
use Rattle.psy_history.specs.Openings.{MayCarry}
use Rattle.psy_history.specs.Runs.{GoesWell, IsRun, StandsWell}
use Rattle.psy_meaning.specs.KnownWays.{Ways}
use Rattle.psy_history.proofs.GoingOn.{same_next}
use Rattle.psy_history.proofs.LateLooks.{parts, steps_then}
use Rattle.psy_history.proofs.OneAction.{some_steps}
use Rattle.psy_history.proofs.Owned.{has_copy}
use Rattle.psy_history.proofs.RunActions.{AreRunLaws, goes, of_code}
use Rattle.psy_history.proofs.RunHistories.{IsOwn, all_own}
use Rattle.psy_history.proofs.Sights.{sees_as}
use Rattle.psy_history.proofs.ViewsServe.{serves}

-- ---- runs

on_itself : (o : Run) → go_on o (λ u. Running u) ≡ o
on_itself (Running u) = refl
on_itself (RanTo point u) = refl
on_itself (TrappedBy kind u) = refl
on_itself NoRun = refl

module _ (code : Code) (its : AgentCode) where
  -- The next instruction of a run that runs
  pub one_more : (s t : RunState) (n : ℕ) → run_code code its s n ≡ Running t → run_code code its s (suc n) ≡ run_one code its t
  one_more s t n running =
      ap (run_code code its s) (sym (add-one n)) ∙ parts code its n 1 s ∙ ap (λ o. go_on o (λ u. run_code code its u 1)) running ∙ on_itself (run_one code its t)

  counted_one : (s u : RunState) (next : Next) → run_by s (call_of code s.machine) next ≡ Running u → u.deeds.steps ≡ s.deeds.steps + 1
  counted_one s u (Went m) e = ap (λ (t : RunState). t.deeds.steps) (sym (same_running (state_then s (call_of code s.machine) m) u e)) ∙ steps_then s.deeds (call_of code s.machine)
  counted_one s u (Ended point m) e = absurd cc
  counted_one s u (Trapped kind) e = absurd cc
  counted_one s u Stuck e = absurd cc

  counted_on : (n : ℕ) (s t : RunState) (o : Run) → run_one code its s ≡ o → ((u : RunState) → run_code code its u n ≡ Running t → t.deeds.steps ≡ u.deeds.steps + n) → go_on o (λ u. run_code code its u n) ≡ Running t → t.deeds.steps ≡ s.deeds.steps + suc n
  counted_on n s t (Running u) is on e = (let one = counted_one s u (next_machine code its s.view s.machine) is in omega (arith, one, on u e))
  counted_on n s t (RanTo point u) is on e = absurd cc
  counted_on n s t (TrappedBy kind u) is on e = absurd cc
  counted_on n s t NoRun is on e = absurd cc

  -- A run that runs has counted its instructions,
  pub counted_as : (n : ℕ) (s t : RunState) → run_code code its s n ≡ Running t → t.deeds.steps ≡ s.deeds.steps + n
  counted_as zero s t e = (let same = ap (λ (u : RunState). u.deeds.steps) (same_running s t e) in omega (arith, same))
  counted_as (suc n) s t e = counted_on n s t (run_one code its s) refl (λ u. counted_as n u t) e

  ran_before : (o : Run) (go : RunState → Run) (t : RunState) → go_on o go ≡ Running t → (u : RunState) × (o ≡ Running u)
  ran_before (Running u) go t e = (u, refl)
  ran_before (RanTo point u) go t e = absurd cc
  ran_before (TrappedBy kind u) go t e = absurd cc
  ran_before NoRun go t e = absurd cc

  -- and ran after each of them.
  pub runs_before : (s t : RunState) (n m : ℕ) → n ≤ m → run_code code its s m ≡ Running t → (u : RunState) × (run_code code its s n ≡ Running u)
  runs_before s t n m most running =
      let sum : n + (m - n) ≡ m = omega (arith, most) in
      ran_before (run_code code its s n) (λ u. run_code code its u (m - n)) t (sym (parts code its n (m - n) s) ∙ ap (run_code code its s) sum ∙ running)

module _ (s : System) (ways : Ways) (code : Code) (laws : AreRunLaws code) (run : IsRun s ways code) (agent : ℕ) (r : Action) (own : IsOwn s ways code agent r) where
  abbrev its : AgentCode
  its = agent_code_at code agent

  abbrev begun : RunState
  begun = begun_by its r

  abbrev after : ℕ → Run
  after = run_code code its begun

  pub well : GoesWell s ways code agent r.point r.before r.view
  well = goes s ways code laws run agent own.regular.known r.point r.start own.regular.starts r.before r.view own.carries own.sees

  pub stands_well : (n : ℕ) → n ≤ r.budget → StandsWell s ways code agent r.point (after n)
  stands_well n most = well.stands n (omega (arith, most, own.regular.budget))

  -- ---- on the way

  -- The next instruction within the budget can be executed.
  pub able_at : (n : ℕ) (t : RunState) → n < r.budget → after n ≡ Running t → next_machine code its t.view t.machine ≢ Stuck
  able_at n t less running stuck =
      subst (StandsWell s ways code agent r.point) (one_more code its begun t n running ∙ ap (run_by t (call_of code t.machine)) stuck) (stands_well (suc n) (omega (arith, less)))

  goes_at : (n : ℕ) (t : RunState) → n < r.budget → after n ≡ Running t → Goes s ways code its r n
  goes_at n t less running =
      let call = call_of code t.machine in
      let still = sees_as code its n begun t running in
      let asks = well.asks n t (omega (arith, less, own.regular.budget)) running in
      record {
        state = t;
        running = running;
        next = one_more code its begun t n running;
        counted = counted_as code its n begun t running ∙ zero-add n;
        able = able_at n t less running;
        same = λ view. same_next code its view t.view t.machine;
        served = serves s.unit agent r.view t.view own.sees still ways r.point call asks;
        asks = subst (λ a. MayAsk ways s.unit a r.point call) (sym own.regular.agent_is) asks;
        pasts = still.0;
      }

  its_code : slice_get code.agents r.agent ≡ Some its
  its_code = subst (λ a. slice_get code.agents a ≡ Some its) (sym own.regular.agent_is) (of_code s ways code laws run agent own.regular.known)

  -- ---- where it goes on until its budget is spent

  runs_spent : (t : RunState) → after r.budget ≡ Running t → Runs s ways code r
  runs_spent t running = record {
    its = its;
    of_code = its_code;
    steps = r.budget;
    last = t;
    within = omega arith;
    ends = inr (refl, running);
    counted = counted_as code its r.budget begun t running ∙ zero-add r.budget;
    some = own.regular.granted;
    on_the_way = λ n less. (let (u, on) = runs_before code its begun t n r.budget (omega (arith, less)) running in goes_at n u less on);
    stands = λ point e. let not = sym running ∙ e in absurd cc;
    copies = λ point variable v e. let not = sym running ∙ e in absurd cc;
  }

  -- ---- where it ends or traps

  stands_at : (u : RunState) (n point : ℕ) → after n ≡ RanTo point u → u.machine ≡ machine_at its point (carried_by u.machine)
  stands_at u n point e =
      (laws.ended its begun u n point e).machine
      ∙ ap (λ k. standing its point (record { cells = u.machine.home.cells; counters = replicate k 0 }) u.machine.copies) (length-replicate its.counters 0)

  carries_at : (n point : ℕ) (t : RunState) → n ≤ r.budget → after n ≡ RanTo point t → MayCarry s.unit code agent (carried_by t.machine)
  carries_at n point t most e = (subst (StandsWell s ways code agent r.point) e (stands_well n most)).2

  runs_over : (t : RunState) → IsOver (after r.budget) t → Runs s ways code r
  runs_over t over =
      let lasted = laws.lasted its begun t r.budget over in
      let ended : IsOver (after lasted.steps) t = subst (λ o. IsOver o t) (sym lasted.over) over in
      record {
        its = its;
        of_code = its_code;
        steps = lasted.steps;
        last = t;
        within = lasted.within;
        ends = inl ended;
        counted = lasted.counted ∙ zero-add lasted.steps;
        some = some_steps code its begun t lasted.steps ended;
        on_the_way = λ n less. (let on = lasted.on_the_way n less in goes_at n on.state (omega (arith, less, lasted.within)) on.running);
        stands = λ point e. stands_at t lasted.steps point e;
        copies = λ point variable v e at owns.
            has_copy s.unit agent variable v t.machine.copies at (owns ∙ ap Some own.regular.agent_is) (carries_at lasted.steps point t lasted.within e).variables;
      }

  runs_by : (o : Run) → after r.budget ≡ o → StandsWell s ways code agent r.point o → Runs s ways code r
  runs_by (Running t) e stands = runs_spent t e
  runs_by (RanTo point t) e stands = runs_over t (subst (λ o. IsOver o t) (sym e) refl)
  runs_by (TrappedBy kind t) e stands = runs_over t (subst (λ o. IsOver o t) (sym e) refl)
  runs_by NoRun e stands = absurd stands

  runs : Runs s ways code r
  runs = runs_by (after r.budget) refl (stands_well r.budget (omega arith))

pub all_run : (s : System) (ways : Ways) (code : Code) (laws : AreRunLaws code) (run : IsRun s ways code) (dates agent : ℕ) → All (Runs s ways code) (history s dates agent)
all_run s ways code laws run dates agent = All-weaker (IsOwn s ways code agent) (Runs s ways code) (runs s ways code laws run agent) (history s dates agent) (all_own s ways code laws run dates agent)
