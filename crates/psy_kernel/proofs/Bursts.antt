-- What the loops over an action's cycles keep.
use Rattle.std.proofs.Common.{◌≡◌, ◌≢◌, ℕ, suc, ◌+◌, ◌-◌, ◌<◌, ◌≤◌, true, List, length, Option, Some, None, slice_get, ℤ, refl, sym, ap, ◌∙◌, subst, arith}
use Rattle.psy_budget.specs.declared.charge.Stall.{Stall}
use Rattle.psy_budget.specs.declared.charge.Tick.TheVariants as tick
use Rattle.psy_budget.specs.Charges.{tick_of}
use Rattle.psy_code.specs.Execution.{Stuck, call_of}
use Rattle.psy_code.specs.Views.{PermitsAll}
use Rattle.psy_dates.specs.declared.plan.Plan.{Plan}
use Rattle.psy_dates.specs.Plans.{opened_of}
use Rattle.psy_machine.specs.declared.machine.Step.{Step}
use Rattle.psy_machine.specs.declared.machine.Step.TheVariants as step
use Rattle.psy_machine.specs.Stepping.{AgentMachine, Answers, IsOf, next_for, stepped, window_after}
use Rattle.psy_history.specs.Actions.{Action, Opening, System}
use Rattle.psy_kernel.specs.declared.eyes.Eyes.{Eyes}
use Rattle.psy_kernel.specs.Acting.{AfterCycle, HasDoneBy}
use Rattle.psy_kernel.specs.Cycles.{IsNear, reach_by}
use Rattle.psy_kernel.specs.Looking.{KeepsRest, window_of}
use Rattle.psy_kernel.specs.Seeing.{is_mine}
use Rattle.psy_kernel.specs.Standing.{charge_after}
use Rattle.psy_kernel.specs.Stretches.{AfterCycles, AllPay, AreReaches, HasDoneIn, IsOnWay, MayGoOn, ReachOn, gone_by}
use Rattle.psy_kernel.proofs.OnTheWay as on

-- What is given of an action that had so many cycles, with what `Holds` says
abbrev pub IsMeant : (System → Action → ℕ → Type 0) → Plan → ℕ → ℕ → ℕ → AgentMachine → Eyes → Opening → (List (List ℤ)) → (ℕ → List Stall) → Action → ℕ → Type 0
IsMeant Holds plan start date most first before opening inputs stalls r had =
    MayGoOn (opened_of plan opening inputs stalls) plan.code r had (had + most) start date first before.scene.now before.taken.now.items before.outbox.now × Holds (opened_of plan opening inputs stalls) r had

-- What is kept behind n cycles of it
pub record AreKept (Holds : System → Action → ℕ → Type 0) (plan : Plan) (start date most : ℕ) (first : AgentMachine) (before : Eyes) (reaches : List (Option ℕ)) (n : ℕ) (machine : AgentMachine) (now : Eyes) (reaches' : List (Option ℕ)) : Type 0 where
  pub of : IsOf plan.code machine
  pub reaching : length reaches' ≡ length reaches
  pub same_taken : now.taken.ghost_name ≡ before.taken.ghost_name
  pub same_outbox : now.outbox.ghost_name ≡ before.outbox.ghost_name
  pub scene : now.scene.now ≡ before.scene.now
  pub size : now.outbox.now.size ≡ before.outbox.now.size
  pub taking : length now.taken.now.items ≡ length before.taken.now.items
  pub others : (stream : ℕ) → (is_mine before.scene.now stream ≡ Some true → ⊥) → slice_get now.taken.now.items stream ≡ slice_get before.taken.now.items stream
  pub on_way : (opening : Opening) (inputs : List (List ℤ)) (stalls : ℕ → List Stall) (r : Action) (had : ℕ) → IsMeant Holds plan start date most first before opening inputs stalls r had
      → IsOnWay (opened_of plan opening inputs stalls) plan.code r (had + n) machine now.outbox.now.sends now.taken.now.items
  pub reached : (opening : Opening) (inputs : List (List ℤ)) (stalls : ℕ → List Stall) (r : Action) (had : ℕ) → IsMeant Holds plan start date most first before opening inputs stalls r had
      → ReachOn (opened_of plan opening inputs stalls) plan.code r had most date n reaches reaches'

module _ (Holds : System → Action → ℕ → Type 0) (plan : Plan) (start date most : ℕ) (first : AgentMachine) (before : Eyes) (reaches : List (Option ℕ)) where
  -- before the first one
  pub none_kept : IsOf plan.code first → AreKept Holds plan start date most first before reaches 0 first before reaches
  none_kept of = record {
    of = of;
    reaching = refl;
    same_taken = refl;
    same_outbox = refl;
    scene = refl;
    size = refl;
    taking = refl;
    others = λ stream other. refl;
    on_way = λ opening inputs stalls r had m.
        subst (λ u. IsOnWay (opened_of plan opening inputs stalls) plan.code r u first before.outbox.now.sends before.taken.now.items) (omega arith) (MayGoOn.on_way m.0);
    reached = λ opening inputs stalls r had m reach are variable at. at ∙ ap (λ u. Some (reach u variable)) (omega arith);
  }

-- The look that was noted is forgotten
module _ {Holds : System → Action → ℕ → Type 0} {plan : Plan} {start date most : ℕ} {first : AgentMachine} {before : Eyes} {reaches : List (Option ℕ)} {n : ℕ} {machine : AgentMachine} {now : Eyes} {reaches' : List (Option ℕ)} where
  pub still_kept : AreKept Holds plan start date most first before reaches n machine now reaches'
      → AreKept Holds plan start date most first before reaches n machine (record now { noted = None }) reaches'
  still_kept k = record {
    of = k.of;
    reaching = k.reaching;
    same_taken = k.same_taken;
    same_outbox = k.same_outbox;
    scene = k.scene;
    size = k.size;
    taking = k.taking;
    others = k.others;
    on_way = k.on_way;
    reached = k.reached;
  }

-- ---- the steps of a burst

-- Each of these many cycles pays
abbrev pub Pays : ℕ → System → Action → ℕ → Type 0
Pays most s r had = AllPay s r had (had + most)

module _ {plan : Plan} {start date most : ℕ} {first : AgentMachine} {before : Eyes} {reaches : List (Option ℕ)} where
  module _ {n : ℕ} {machine : AgentMachine} {now : Eyes} {reaches' : List (Option ℕ)} (kept : AreKept (Pays most) plan start date most first before reaches n machine now reaches') (few : n < most) (fresh : now.noted ≡ None) where
    module _ (opening : Opening) (inputs : List (List ℤ)) (stalls : ℕ → List Stall) (r : Action) (had : ℕ) (m : IsMeant (Pays most) plan start date most first before opening inputs stalls r had) where
      abbrev s : System
      s = opened_of plan opening inputs stalls

      low : had ≤ had + n
      low = omega arith

      high : had + n < had + most
      high = omega (arith, few)

      pays : tick_of (charge_after s r (had + n)) ≡ tick.Paid
      pays = m.1 (had + n) low high

      on_now : IsOnWay s plan.code r (had + n) machine now.outbox.now.sends now.taken.now.items
      on_now = kept.on_way opening inputs stalls r had m

      pub able : next_for plan.code (window_of now).view machine ≢ Stuck
      able = on.able s plan.code r had (had + most) start date first before.scene.now before.taken.now.items before.outbox.now m.0 (had + n) low high pays machine now kept.scene kept.size kept.taking fresh on_now

      pub permitted : PermitsAll (window_of now) (call_of plan.code machine.machine)
      permitted = on.permitted s plan.code r had (had + most) start date first before.scene.now before.taken.now.items before.outbox.now m.0 (had + n) low high pays machine now kept.scene kept.size kept.taking fresh on_now

      module _ (after : Eyes) (served : window_of after ≡ window_after (window_of now) (call_of plan.code machine.machine)) where
        pub near : IsNear s start date after.noted
        near = on.near s plan.code r had (had + most) start date first before.scene.now before.taken.now.items before.outbox.now m.0 (had + n) low high pays machine now kept.scene kept.size kept.taking fresh on_now after served

        next_reach : (reach : ℕ → ℕ → Option ℕ) → AreReaches s plan.code r had (had + most) date reach → (variable : ℕ) → reach (suc (had + n)) variable ≡ reach_by s variable start date after.noted (reach (had + n) variable)
        next_reach = on.reached s plan.code r had (had + most) start date first before.scene.now before.taken.now.items before.outbox.now m.0 (had + n) low high pays machine now kept.scene kept.size kept.taking fresh on_now after served

        module _ (rest : KeepsRest now after) (machine' : AgentMachine) (steps : machine' ≡ stepped plan.code (window_of now).view machine) where
          goes : Answers (next_for plan.code (window_of now).view machine) step.Went → IsOnWay s plan.code r (suc (had + n)) machine' after.outbox.now.sends after.taken.now.items
          goes = on.goes s plan.code r had (had + most) start date first before.scene.now before.taken.now.items before.outbox.now m.0 (had + n) low high pays machine now kept.scene kept.size kept.taking fresh on_now after served rest machine' steps

          next : suc (had + n) ≡ had + (n + 1)
          next = omega arith

          here : had + n ≡ had + (n + 1) - 1
          here = omega arith

          -- an action that is over behind this step
          pub over : (answer : Step) → Answers (next_for plan.code (window_of now).view machine) answer
              → AfterCycles s plan.code r had (n + 1) (gone_by (charge_after s r (had + (n + 1))) answer) (charge_after s r (had + (n + 1))) machine'
          over answer answers =
              subst (λ v. AfterCycle s plan.code r v (gone_by (charge_after s r (had + (n + 1))) answer) (charge_after s r (had + (n + 1))) machine') here
              (subst (λ v. AfterCycle s plan.code r (had + n) (gone_by (charge_after s r v) answer) (charge_after s r v) machine') next
              (on.comes s plan.code r had (had + most) start date first before.scene.now before.taken.now.items before.outbox.now m.0 (had + n) low high pays machine now kept.scene kept.size kept.taking fresh on_now after served rest machine' steps answer answers))

          pub done : (answer : Step) → Answers (next_for plan.code (window_of now).view machine) answer
              → HasDoneIn s plan.code r had (n + 1) after.outbox.now.sends after.taken.now.items (gone_by (charge_after s r (had + (n + 1))) answer)
          done answer answers =
              subst (λ v. HasDoneBy s plan.code r v after.outbox.now.sends after.taken.now.items (gone_by (charge_after s r (had + (n + 1))) answer)) here
              (subst (λ v. HasDoneBy s plan.code r (had + n) after.outbox.now.sends after.taken.now.items (gone_by (charge_after s r v) answer)) next
              (on.came s plan.code r had (had + most) start date first before.scene.now before.taken.now.items before.outbox.now m.0 (had + n) low high pays machine now kept.scene kept.size kept.taking fresh on_now after served rest machine' steps answer answers))

    module _ (after : Eyes) (served : window_of after ≡ window_after (window_of now) (call_of plan.code machine.machine)) (rest : KeepsRest now after) (reaches'' : List (Option ℕ)) (as_many : length reaches'' ≡ length reaches')
        (noted : (opening : Opening) (inputs : List (List ℤ)) (stalls : ℕ → List Stall) (variable : ℕ) (n : Option ℕ) → slice_get reaches' variable ≡ Some n → slice_get reaches'' variable ≡ Some (reach_by (opened_of plan opening inputs stalls) variable start date after.noted n)) where
      -- the rings are reached for as the look says
      pub reached_now : (opening : Opening) (inputs : List (List ℤ)) (stalls : ℕ → List Stall) (r : Action) (had : ℕ) → IsMeant (Pays most) plan start date most first before opening inputs stalls r had
          → ReachOn (opened_of plan opening inputs stalls) plan.code r had most date (n + 1) reaches reaches''
      reached_now opening inputs stalls r had m reach are variable at =
          let so : suc (had + n) ≡ had + (n + 1) = omega arith in
          noted opening inputs stalls variable (reach (had + n) variable) (kept.reached opening inputs stalls r had m reach are variable at)
          ∙ ap Some (sym (next_reach opening inputs stalls r had m after served reach are variable) ∙ ap (λ u. reach u variable) so)

      -- the streams of others are left alone
      pub others_now : (stream : ℕ) → (is_mine before.scene.now stream ≡ Some true → ⊥) → slice_get after.taken.now.items stream ≡ slice_get before.taken.now.items stream
      others_now stream other = rest.others stream (λ mine. other (sym (ap (λ x. is_mine x stream) kept.scene) ∙ mine)) ∙ kept.others stream other

      pub one_kept : (machine' : AgentMachine) → machine' ≡ stepped plan.code (window_of now).view machine → Answers (next_for plan.code (window_of now).view machine) step.Went
          → AreKept (Pays most) plan start date most first before reaches (n + 1) machine' after reaches''
      one_kept machine' steps answers = record {
        of = subst (IsOf plan.code) (sym steps) kept.of;
        reaching = as_many ∙ kept.reaching;
        same_taken = rest.same_taken ∙ kept.same_taken;
        same_outbox = rest.same_outbox ∙ kept.same_outbox;
        scene = rest.scene ∙ kept.scene;
        size = rest.size ∙ kept.size;
        taking = rest.count ∙ kept.taking;
        others = others_now;
        on_way = λ opening inputs stalls r had m.
            subst (λ u. IsOnWay (opened_of plan opening inputs stalls) plan.code r u machine' after.outbox.now.sends after.taken.now.items) (omega arith) (goes opening inputs stalls r had m after served rest machine' steps answers);
        reached = reached_now;
      }
