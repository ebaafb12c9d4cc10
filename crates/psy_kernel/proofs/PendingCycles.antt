-- A cycle of a pending action.
use Rattle.std.proofs.Common.{◌≡◌, ◌≢◌, ℕ, suc, ◌<◌, ◌≤◌, ◌==◌, Bool, true, false, List, Option, Some, None, slice_get, refl, sym, ap, ◌∙◌, subst, inl, inr, arith}
use Rattle.std.specs.Prelude.{if◌then◌else◌}
use Rattle.std.proofs.lemmas.Bool.{cases_lt, cases_eq, eq-eqb, ne_eqb}
use Rattle.psy_budget.specs.declared.charge.Tick.{Tick}
use Rattle.psy_budget.specs.declared.charge.Tick.TheVariants as tick
use Rattle.psy_budget.specs.Charges.{Charged, after_tick, cycle_of, tick_of}
use Rattle.psy_code.specs.declared.code.Code.{Code}
use Rattle.psy_code.specs.declared.look.Sent.{Sent}
use Rattle.psy_code.specs.Execution.{RunState, Run, Running, Next, Went, Ended, Trapped, Stuck, call_of, deeds_then, next_of, run_by, run_code, state_then}
use Rattle.psy_code.specs.Lasting.{IsOver}
use Rattle.psy_code.specs.Views.{View, Call, PermitsAll, Window}
use Rattle.psy_machine.specs.declared.machine.Step.{Step}
use Rattle.psy_machine.specs.declared.machine.Step.TheVariants as step
use Rattle.psy_machine.specs.Stepping.{AgentMachine, Answers, look_of, machine_after, next_for, stepped, window_after}
use Rattle.psy_history.specs.Actions.{Action, System}
use Rattle.psy_history.specs.Executors.{Acted}
use Rattle.psy_history.specs.Regular.{AnswerAlike}
use Rattle.psy_kernel.specs.declared.engine.advance.Gone.{Gone}
use Rattle.psy_kernel.specs.declared.engine.advance.Gone.TheVariants as gone
use Rattle.psy_kernel.specs.Acting.{AfterCycle, AreDone, HasDoneBy, InAction, IsGone, IsLookIn, IsOfCode, ShowsAs}
use Rattle.psy_kernel.specs.Standing.{HasDone, IsRunning, charge_after}
use Rattle.psy_kernel.specs.Stretches.{gone_by, gone_on}
use Rattle.psy_kernel.proofs.PaidCycles.{not_spent as is_granted, paid_at, paid_few, paid_next, spent_is, up_to_next}
use Rattle.psy_kernel.proofs.RunsOn.{able as can_go, answers_alike, asks as asks_of, at_end, early, next_run, noted_after, over_then, pasts, permits, served}
use Rattle.psy_kernel.proofs.Verdicts.{comes_to, ended, is_whole, its, less_charge, of_code, overran, runs as runs_of, start, trapped}

not_yet : (a b : ℕ) → a ≤ b → (a ≡ b → ⊥) → a < b
not_yet a b less other = elim (cases_lt a b) [ inl h ↦ h | inr h ↦ absurd (other (omega (arith, less, h))) ]

pub goes_on : (s : System) (code : Code) (r : Action) → IsOfCode s code r → (had : ℕ) (machine : AgentMachine) → had < r.budget → IsRunning code r (charge_after s r (suc had)).paid machine
    → IsGone s code r had machine (gone_on (charge_after s r (suc had)))
goes_on s code r w had machine less running =
    let within : suc had ≤ r.budget = omega (arith, less) in
    let more : suc had < r.charge = less_charge s code r w (suc had) _ running.0 within running.1 (up_to_next (s.stalls r.agent) r.number r.budget (suc had) within) in
    let test = spent_is (s.stalls r.agent) r.number r.budget (suc had) within in
    elim (cases_eq (suc had) r.budget) [
      | inl same ↦ rw (test ∙ eq-eqb (suc had) r.budget same) (omega (arith, more, same), overran s code r w (omega (arith, more, same)))
      | inr other ↦ rw (test ∙ ne_eqb (suc had) r.budget other) (omega (arith, more, not_yet (suc had) r.budget within other), running)
    ]

module _ (s : System) (code : Code) (r : Action) (had : ℕ) (charge : Charged) (machine : AgentMachine) (w : InAction s code r had charge machine) where
  less : had < r.budget
  less = omega (arith, w.pending)

  abbrev paid : ℕ
  paid = (charge_after s r had).paid

  left : paid < r.budget
  left = (let few = paid_few (s.stalls r.agent) r.number r.budget had (omega (arith, less)) in omega (arith, few, less))

  abbrev state : RunState
  state = w.running.0

  abbrev run : ℕ → Run
  run n = run_code code (its s code r w.of_code) (start s code r w.of_code) n

  pub not_spent : tick_of charge ≡ tick.Spent → ⊥
  not_spent e = is_granted (s.stalls r.agent) r.number r.budget had less (ap tick_of (sym w.charged) ∙ e)

  next_is : (view : View) → next_for code view machine ≡ next_of code (its s code r w.of_code) view state.machine
  next_is view =
      let found : slice_get code.agents machine.agent ≡ Some (its s code r w.of_code) = ap (slice_get code.agents) w.agent ∙ of_code s code r w.of_code in
      rw found (ap (next_of code (its s code r w.of_code) view) (sym w.running.2))

  -- what the next instruction asks
  abbrev call : Option Call
  call = call_of code state.machine

  call_is : call ≡ call_of code machine.machine
  call_is = ap (call_of code) w.running.2

  alike : (window : Window) → ShowsAs s code r paid window → AnswerAlike window.view state.view call
  alike window shows =
      answers_alike s w.of_code.ways code r paid window shows state w.running.1 (pasts _ _ _ _ _ _ _ (is_whole s code r w.of_code) paid left state w.running.1) call refl (asks_of _ _ _ _ _ _ _ (is_whole s code r w.of_code) paid left state w.running.1)

  pub able : (window : Window) → ShowsAs s code r paid window → next_for code window.view machine ≢ Stuck
  able window shows e = can_go _ _ _ _ _ _ _ (is_whole s code r w.of_code) paid left state w.running.1 window.view (alike window shows) (sym (next_is window.view) ∙ e)

  pub permitted : (window : Window) → ShowsAs s code r paid window → PermitsAll window (call_of code machine.machine)
  permitted window shows =
      subst (PermitsAll window) call_is
      (permits s w.of_code.ways code r paid window shows state w.running.1 call refl (asks_of _ _ _ _ _ _ _ (is_whole s code r w.of_code) paid left state w.running.1) (alike window shows)
      (served _ _ _ _ _ _ _ (is_whole s code r w.of_code) paid left state w.running.1))

  charge_by : (t : Tick) → tick_of charge ≡ t → after_tick charge t ≡ charge_after s r (suc had)
  charge_by t e = ap (after_tick charge) (sym e) ∙ ap (λ (c : Charged). after_tick c (tick_of c)) w.charged

  tick_by : (t : Tick) → tick_of charge ≡ t → tick_of (charge_after s r had) ≡ t
  tick_by t e = ap tick_of (sym w.charged) ∙ e

  -- an action that may go on has done what its paid instructions did
  pub on_done : (sends : List Sent) (taken : List ℕ) → HasDone s code r (charge_after s r (suc had)).paid sends taken → (test : Bool) → HasDoneBy s code r had sends taken (if test then gone.Spent else gone.Going)
  on_done sends taken did true = tt {0}
  on_done sends taken did false = did

  -- a cycle that pays an instruction
  module _ (paying : tick_of charge ≡ tick.Paid) where
    -- looks as its instruction does
    pub looks_paid : (before after : Window) → before.noted ≡ None → after ≡ window_after before (call_of code machine.machine) → IsLookIn s code r had after.noted
    looks_paid before after fresh is = rw (tick_by tick.Paid paying) (
      state,
      w.running.1,
      ap (λ (window : Window). window.noted) is ∙ noted_after before (call_of code machine.machine) fresh ∙ ap look_of (sym call_is),
    )

  module _ (paying : tick_of charge ≡ tick.Paid) (window : Window) (shows : ShowsAs s code r paid window) where
    abbrev view : View
    view = window.view

    more_paid : (charge_after s r (suc had)).paid ≡ suc paid
    more_paid = paid_next (s.stalls r.agent) r.number r.budget had (tick_by tick.Paid paying)

    at : had ≡ cycle_of (s.stalls r.agent) r.number paid
    at = paid_at (s.stalls r.agent) r.number r.budget had less (tick_by tick.Paid paying)

    runs : (next : Next) → next_for code view machine ≡ next → run (suc paid) ≡ run_by state call next
    runs next e = next_run _ _ _ _ _ _ _ (is_whole s code r w.of_code) paid left state w.running.1 view (alike window shows) ∙ ap (run_by state call) (sym (next_is view) ∙ e)

    is_last : (after : Run) → run (suc paid) ≡ after → ((t : RunState) → after ≡ Running t → ⊥) → (runs_of s code r w.of_code).steps ≡ suc paid
    is_last after e halts =
        let going = is_whole s code r w.of_code in
        at_end _ _ _ _ _ _ _ going paid (early _ _ _ _ _ _ _ going paid left state w.running.1) (λ t h. halts t (sym e ∙ h))

    is_over : (after : Run) (e : run (suc paid) ≡ after) (halts : (t : RunState) → after ≡ Running t → ⊥) → IsOver (run (runs_of s code r w.of_code).steps) (runs_of s code r w.of_code).last
    is_over after e halts = over_then _ _ _ _ _ _ _ (is_whole s code r w.of_code) (suc paid) (is_last after e halts) (λ t h. halts t (sym e ∙ h))

    gone_after : (next : Next) (answer : Step) → next_for code view machine ≡ next → Answers next answer → (after : AgentMachine) → after.machine ≡ machine_after next machine.machine → IsGone s code r had after (gone_by (charge_after s r (suc had)) answer)
    gone_after (Went m) answer e answers after same =
        let running : IsRunning code r (charge_after s r (suc had)).paid after = subst (λ n. IsRunning code r n after) (sym more_paid) (state_then state call m, runs (Went m) e, sym same) in
        rw answers (goes_on s code r w.of_code had after less running)
    gone_after (Ended point m) answer e answers after same =
        let ran = runs (Ended point m) e in
        rw answers (ended s code r w.of_code had paid less at (is_last _ ran (λ t h. cc)) (is_over _ ran (λ t h. cc)) point _ ran after same)
    gone_after (Trapped kind) answer e answers after same =
        let ran = runs (Trapped kind) e in
        rw answers (trapped s code r w.of_code had paid less at (is_last _ ran (λ t h. cc)) (is_over _ ran (λ t h. cc)) kind _ ran after)
    gone_after Stuck answer e answers after same = absurd answers

    pub after_paid : (c : Charged) → c ≡ after_tick charge tick.Paid → (answer : Step) → Answers (next_for code view machine) answer → (after : AgentMachine) → after ≡ stepped code view machine → (result : Gone) → result ≡ gone_by c answer
        → AfterCycle s code r had result c after
    after_paid c c_is answer answers after after_is result result_is =
        let charged : c ≡ charge_after s r (suc had) = c_is ∙ charge_by tick.Paid paying in
        record {
          charged = charged;
          agent = ap (λ (m : AgentMachine). m.agent) after_is ∙ w.agent;
          gone = subst (IsGone s code r had after) (sym (result_is ∙ ap (λ (c : Charged). gone_by c answer) charged)) (gone_after (next_for code view machine) answer refl answers after (ap (λ (m : AgentMachine). m.machine) after_is));
        }

    -- an instruction that doesn't end the action leaves it on its way
    went : (next : Next) → next_for code view machine ≡ next → Answers next step.Went → (after : AgentMachine) → after.machine ≡ machine_after next machine.machine → IsRunning code r (charge_after s r (suc had)).paid after
    went (Went m) e answers after same = subst (λ n. IsRunning code r n after) (sym more_paid) (state_then state call m, runs (Went m) e, sym same)
    went (Ended point m) e answers after same = absurd (let wrong : step.Went ≡ step.Ended point = answers in cc)
    went (Trapped kind) e answers after same = absurd (let wrong : step.Went ≡ step.Trapped kind = answers in cc)
    went Stuck e answers after same = absurd answers

    pub runs_on : Answers (next_for code view machine) step.Went → (after : AgentMachine) → after ≡ stepped code view machine → IsRunning code r (charge_after s r (suc had)).paid after
    runs_on answers after is = went (next_for code view machine) refl answers after (ap (λ (m : AgentMachine). m.machine) is)

    -- what it sent and took with the instruction
    module _ (sends : List Sent) (taken : List ℕ) (did : AreDone s r (deeds_then state.deeds call) sends taken) where
      did_after : (next : Next) (answer : Step) → next_for code view machine ≡ next → Answers next answer → (c : Charged) → HasDoneBy s code r had sends taken (gone_by c answer)
      did_after (Went m) answer e answers c =
          let on : HasDone s code r (suc paid) sends taken = record { state = state_then state call m; running = runs (Went m) e; sent = did.sent; took = did.took } in
          rw answers (on_done sends taken (subst (λ n. HasDone s code r n sends taken) (sym more_paid) on) (c.consumed == c.budget))
      did_after (Ended point m) answer e answers c =
          let ran = runs (Ended point m) e in
          let deeds : r.deeds ≡ deeds_then state.deeds call = w.of_code.deeds ∙ ap (λ (a : Acted). a.deeds) (comes_to s code r w.of_code had paid less at (is_last _ ran (λ t h. cc)) (is_over _ ran (λ t h. cc)) _ ran) in
          rw answers (subst (λ d. AreDone s r d sends taken) (sym deeds) did)
      did_after (Trapped kind) answer e answers c = rw answers (tt {0})
      did_after Stuck answer e answers c = absurd answers

      pub did_paid : (c : Charged) (answer : Step) → Answers (next_for code view machine) answer → (result : Gone) → result ≡ gone_by c answer → HasDoneBy s code r had sends taken result
      did_paid c answer answers result result_is = subst (HasDoneBy s code r had sends taken) (sym result_is) (did_after (next_for code view machine) answer refl answers c)

      did_went : (next : Next) → next_for code view machine ≡ next → Answers next step.Went → HasDone s code r (charge_after s r (suc had)).paid sends taken
      did_went (Went m) e answers = subst (λ n. HasDone s code r n sends taken) (sym more_paid) (record { state = state_then state call m; running = runs (Went m) e; sent = did.sent; took = did.took })
      did_went (Ended point m) e answers = absurd (let wrong : step.Went ≡ step.Ended point = answers in cc)
      did_went (Trapped kind) e answers = absurd (let wrong : step.Went ≡ step.Trapped kind = answers in cc)
      did_went Stuck e answers = absurd answers

      pub did_on : Answers (next_for code view machine) step.Went → HasDone s code r (charge_after s r (suc had)).paid sends taken
      did_on answers = did_went (next_for code view machine) refl answers
