-- An action that goes on through many cycles: stalls, and instructions that its machine executes one by one.
use Rattle.std.proofs.Common.{◌≡◌, ◌≢◌, ℕ, zero, suc, ◌+◌, ◌-◌, ◌<◌, ◌≤◌, ◌==◌, nat_lt, Bool, true, false, List, length, Option, None, refl, sym, ap, ◌∙◌, subst, inl, inr, arith}
use Rattle.std.specs.Prelude.{if◌then◌else◌}
use Rattle.std.proofs.lemmas.Bool.{cases_lt, cond-false, cond-true, eq-eqb, true≢false}
use Rattle.psy_budget.specs.declared.charge.Tick.{Tick}
use Rattle.psy_budget.specs.declared.charge.Tick.TheVariants as tick
use Rattle.psy_budget.specs.Charges.{Charged, action_of, after_tick, stalled, tick_of}
use Rattle.psy_code.specs.declared.code.Code.{Code}
use Rattle.psy_code.specs.declared.look.Sent.{Sent}
use Rattle.psy_code.specs.Execution.{Stuck, call_of, deeds_then}
use Rattle.psy_code.specs.Views.{PermitsAll}
use Rattle.psy_dates.specs.Outboxes.{Outboxed}
use Rattle.psy_machine.specs.declared.machine.Step.{Step}
use Rattle.psy_machine.specs.declared.machine.Step.TheVariants as step
use Rattle.psy_machine.specs.Stepping.{AgentMachine, Answers, next_for, stepped, window_after}
use Rattle.psy_history.specs.Actions.{Action, System}
use Rattle.psy_history.specs.Schedule.{work}
use Rattle.psy_kernel.specs.declared.eyes.Eyes.{Eyes}
use Rattle.psy_kernel.specs.declared.engine.advance.Gone.TheVariants as gone
use Rattle.psy_kernel.specs.Acting.{AfterCycle, AreDone, HasDoneBy, InAction, IsLookIn, IsOfCode, ShowsAs}
use Rattle.psy_kernel.specs.Cycles.{ActsIn, IsNear, reach_by}
use Rattle.psy_kernel.specs.Looking.{KeepsRest, window_of}
use Rattle.psy_kernel.specs.Seeing.{Sight, window_in}
use Rattle.psy_kernel.specs.Standing.{HasDone, IsRunning, charge_after}
use Rattle.psy_kernel.specs.Stretches.{AfterCycles, AreReaches, HasDoneIn, IsOnWay, MayGoOn, gone_by, gone_on}
use Rattle.psy_kernel.proofs.EyesMoved.{moved}
use Rattle.psy_kernel.proofs.PaidCycles.{spent_is, up_to_next}
use Rattle.psy_kernel.proofs.PendingCycles.{able as can_step, after_paid, did_on, did_paid, goes_on, looks_paid, permitted as may_ask, runs_on}
use Rattle.psy_kernel.proofs.Verdicts.{less_charge}

-- ---- cycles that are granted

-- A cycle that goes to anything is one before the budget is spent
pub granted : (c : Charged) (t : Tick) → tick_of c ≡ t → (tick.Spent ≡ t → ⊥) → (c.consumed == c.budget) ≡ false
granted c t e other = by (c.consumed == c.budget) refl
  where
    by : (test : Bool) → (c.consumed == c.budget) ≡ test → (c.consumed == c.budget) ≡ false
    by false is = is
    by true is = absurd (other (sym (cond-true (c.consumed == c.budget) tick.Spent _ is) ∙ e))

pub stalled_isnt : tick.Spent ≡ tick.Stalled → ⊥
stalled_isnt e = cc

pub paid_isnt : tick.Spent ≡ tick.Paid → ⊥
paid_isnt e = cc

-- Where the budget isn't spent a cycle goes to a stall or pays an instruction
pub pays_or_stalls : (c : Charged) → (c.consumed == c.budget) ≡ false → (tick_of c ≡ tick.Stalled → ⊥) → tick_of c ≡ tick.Paid
pays_or_stalls c off other =
    by (nat_lt c.consumed (c.paid + stalled c.stalls (action_of c) (c.paid + 1))) (cond-false (c.consumed == c.budget) tick.Spent _ off)
  where
    by : (test : Bool) → tick_of c ≡ (if test then tick.Stalled else tick.Paid) → tick_of c ≡ tick.Paid
    by true e = absurd (other e)
    by false e = e

module _ (s : System) (code : Code) (r : Action) where
  abbrev at : ℕ → Charged
  at u = charge_after s r u

  pub unspent : (u : ℕ) → u ≤ r.budget → ((at u).consumed == (at u).budget) ≡ false → u < r.budget
  unspent u within off = elim (cases_lt u r.budget) [
    | inl less ↦ less
    | inr more ↦ absurd (true≢false (sym (spent_is (s.stalls r.agent) r.number r.budget u within ∙ eq-eqb u r.budget (omega (arith, within, more))) ∙ off))
  ]

  -- so many cycles that all go to the same
  abbrev AllGo : ℕ → Tick → ℕ → Type 0
  AllGo u t n = (k : ℕ) → k < n → tick_of (at (u + k)) ≡ t

  pub within_budget : (u n : ℕ) (t : Tick) → (tick.Spent ≡ t → ⊥) → u ≤ r.budget → AllGo u t n → u + n ≤ r.budget
  within_budget u zero t other within all = omega (arith, within)
  within_budget u (suc n) t other within all =
      let before : u + n ≤ r.budget = within_budget u n t other within (λ k less. all k (omega (arith, less))) in
      let less : u + n < r.budget = unspent (u + n) before (granted (at (u + n)) t (all n (omega arith)) other) in
      omega (arith, less)

-- ---- an action on its way

module _ (s : System) (code : Code) (r : Action) (of_code : IsOfCode s code r) where
  -- that isn't over
  pub not_over : (u : ℕ) (machine : AgentMachine) (sends : List Sent) (taken : List ℕ) → IsOnWay s code r u machine sends taken → u < r.budget → u < work r
  not_over u machine sends taken on less =
      let more = less_charge s code r of_code u (charge_after s r u).paid on.running.0 on.within on.running.1 (up_to_next (s.stalls r.agent) r.number r.budget u on.within) in
      omega (arith, less, more)

  pub now_in : (u : ℕ) (machine : AgentMachine) (sends : List Sent) (taken : List ℕ) → IsOnWay s code r u machine sends taken → u < work r → InAction s code r u (charge_after s r u) machine
  now_in u machine sends taken on less = record {
    of_code = of_code;
    agent = on.agent;
    pending = less;
    charged = refl;
    running = on.running;
  }

  -- it goes on behind a cycle, or spent its budget with it
  gone_after : (u : ℕ) (machine : AgentMachine) (sends : List Sent) (taken : List ℕ) → IsOnWay s code r (suc u) machine sends taken → AfterCycle s code r u (gone_on (charge_after s r (suc u))) (charge_after s r (suc u)) machine
  gone_after u machine sends taken on = record {
    charged = refl;
    agent = on.agent;
    gone = goes_on s code r of_code u machine (omega (arith, on.within)) on.running;
  }

  done_after : (u : ℕ) (machine : AgentMachine) (sends : List Sent) (taken : List ℕ) → IsOnWay s code r (suc u) machine sends taken → HasDoneBy s code r u sends taken (gone_on (charge_after s r (suc u)))
  done_after u machine sends taken on = by ((charge_after s r (suc u)).consumed == (charge_after s r (suc u)).budget)
    where
      by : (test : Bool) → HasDoneBy s code r u sends taken (if test then gone.Spent else gone.Going)
      by true = tt {0}
      by false = on.did

  last_is : (had n : ℕ) → 1 ≤ n → suc (had + n - 1) ≡ had + n
  last_is had n some = omega (arith, some)

  pub after_many : (had n : ℕ) (machine : AgentMachine) (sends : List Sent) (taken : List ℕ) → 1 ≤ n → IsOnWay s code r (had + n) machine sends taken
      → AfterCycles s code r had n (gone_on (charge_after s r (had + n))) (charge_after s r (had + n)) machine
  after_many had n machine sends taken some on =
      subst (λ u. AfterCycle s code r (had + n - 1) (gone_on (charge_after s r u)) (charge_after s r u) machine) (last_is had n some)
      (gone_after (had + n - 1) machine sends taken (subst (λ u. IsOnWay s code r u machine sends taken) (sym (last_is had n some)) on))

  pub done_many : (had n : ℕ) (machine : AgentMachine) (sends : List Sent) (taken : List ℕ) → 1 ≤ n → IsOnWay s code r (had + n) machine sends taken
      → HasDoneIn s code r had n sends taken (gone_on (charge_after s r (had + n)))
  done_many had n machine sends taken some on =
      subst (λ u. HasDoneBy s code r (had + n - 1) sends taken (gone_on (charge_after s r u))) (last_is had n some)
      (done_after (had + n - 1) machine sends taken (subst (λ u. IsOnWay s code r u machine sends taken) (sym (last_is had n some)) on))

-- ---- an instruction

module _ (s : System) (code : Code) (r : Action) (had upto start date : ℕ) (first : AgentMachine) (sight : Sight) (taken : List ℕ) (outbox : Outboxed) (may : MayGoOn s code r had upto start date first sight taken outbox) where
  module _ (u : ℕ) (low : had ≤ u) (high : u < upto) (pays : tick_of (charge_after s r u) ≡ tick.Paid) (machine : AgentMachine) (before : Eyes) (scene : before.scene.now ≡ sight) (size : before.outbox.now.size ≡ outbox.size)
      (count : length before.taken.now.items ≡ length taken) (fresh : before.noted ≡ None) (on : IsOnWay s code r u machine before.outbox.now.sends before.taken.now.items) where
    less : u < work r
    less = not_over s code r may.of_code u machine before.outbox.now.sends before.taken.now.items on (unspent s code r u on.within (granted (charge_after s r u) tick.Paid pays paid_isnt))

    w : InAction s code r u (charge_after s r u) machine
    w = now_in s code r may.of_code u machine before.outbox.now.sends before.taken.now.items on less

    acts : ActsIn s code r u before.scene.now before.taken.now.items before.outbox.now
    acts = subst (λ x. ActsIn s code r u x before.taken.now.items before.outbox.now) (sym scene) (may.acts u low high less before.taken.now.items before.outbox.now (count ∙ may.counted) size on.did)

    shows : ShowsAs s code r (charge_after s r u).paid (window_of before)
    shows = subst (λ n. ShowsAs s code r (charge_after s r u).paid (window_in before.scene.now before.taken.now.items before.outbox.now n)) (sym fresh) acts.shows

    pub able : next_for code (window_of before).view machine ≢ Stuck
    able = can_step s code r u _ machine w (window_of before) shows

    pub permitted : PermitsAll (window_of before) (call_of code machine.machine)
    permitted = may_ask s code r u _ machine w (window_of before) shows

    module _ (after : Eyes) (served : window_of after ≡ window_after (window_of before) (call_of code machine.machine)) where
      look : IsLookIn s code r u after.noted
      look = looks_paid s code r u _ machine w pays (window_of before) (window_of after) fresh served

      pub near : IsNear s start date after.noted
      near = subst (λ n. IsNear s n date after.noted) (sym may.started) (may.near u low high less after.noted look)

      -- the rings are reached for as the look says
      pub reached : (reach : ℕ → ℕ → Option ℕ) → AreReaches s code r had upto date reach → (variable : ℕ) → reach (suc u) variable ≡ reach_by s variable start date after.noted (reach u variable)
      reached reach are variable = are u variable after.noted low high less look ∙ ap (λ n. reach_by s variable n date after.noted (reach u variable)) (sym may.started)

      module _ (kept : KeepsRest before after) (machine' : AgentMachine) (steps : machine' ≡ stepped code (window_of before).view machine) where
        done : AreDone s r (deeds_then w.running.0.deeds (call_of code w.running.0.machine)) after.outbox.now.sends after.taken.now.items
        done = moved s code r u _ machine w before after served kept acts.sees on.did

        pub goes : Answers (next_for code (window_of before).view machine) step.Went → IsOnWay s code r (suc u) machine' after.outbox.now.sends after.taken.now.items
        goes answers = record {
          within = omega (arith, less);
          agent = ap (λ (m : AgentMachine). m.agent) steps ∙ on.agent;
          running = runs_on s code r u _ machine w pays (window_of before) shows answers machine' steps;
          did = did_on s code r u _ machine w pays (window_of before) shows after.outbox.now.sends after.taken.now.items done answers;
        }

        charge_is : charge_after s r (suc u) ≡ after_tick (charge_after s r u) tick.Paid
        charge_is = ap (after_tick (charge_after s r u)) pays

        pub comes : (answer : Step) → Answers (next_for code (window_of before).view machine) answer → AfterCycle s code r u (gone_by (charge_after s r (suc u)) answer) (charge_after s r (suc u)) machine'
        comes answer answers = after_paid s code r u _ machine w pays (window_of before) shows (charge_after s r (suc u)) charge_is answer answers machine' steps _ refl

        pub came : (answer : Step) → Answers (next_for code (window_of before).view machine) answer → HasDoneBy s code r u after.outbox.now.sends after.taken.now.items (gone_by (charge_after s r (suc u)) answer)
        came answer answers = did_paid s code r u _ machine w pays (window_of before) shows after.outbox.now.sends after.taken.now.items done (charge_after s r (suc u)) answer answers _ refl

-- ---- stalls

module _ (s : System) (code : Code) (r : Action) (u n : ℕ) (all : (k : ℕ) → k < n → tick_of (charge_after s r (u + k)) ≡ tick.Stalled) (same : (charge_after s r (u + n)).paid ≡ (charge_after s r u).paid) where
  pub on_behind : (machine : AgentMachine) (sends : List Sent) (taken : List ℕ) → IsOnWay s code r u machine sends taken → IsOnWay s code r (u + n) machine sends taken
  on_behind machine sends taken on = record {
    within = within_budget s code r u n tick.Stalled stalled_isnt on.within all;
    agent = on.agent;
    running = subst (λ m. IsRunning code r m machine) (sym same) on.running;
    did = subst (λ m. HasDone s code r m sends taken) (sym same) on.did;
  }
