-- The loop over the parts of a stretch: a stall at once, then the instructions that no stall stands between.
use Rattle.std.proofs.Common.{◌≡◌, ℕ, zero, suc, ◌+◌, ◌-◌, ◌<◌, ◌≤◌, ◌==◌, true, false, List, length, Option, Some, None, slice_get, ℤ, refl, sym, ap, ◌∙◌, subst, arith}
use Rattle.std.proofs.lemmas.Bool.{eqb-true}
use Rattle.psy_budget.specs.declared.charge.Stall.{Stall}
use Rattle.psy_budget.specs.declared.charge.Tick.{Tick}
use Rattle.psy_budget.specs.declared.charge.Tick.TheVariants as tick
use Rattle.psy_budget.specs.Charges.{AllGoTo, Charged, IsStretch, tick_of, ticked}
use Rattle.psy_code.specs.declared.code.Code.{Code}
use Rattle.psy_code.specs.declared.look.Sent.{Sent}
use Rattle.psy_dates.specs.declared.plan.Plan.{Plan}
use Rattle.psy_dates.specs.Plans.{opened_of}
use Rattle.psy_machine.specs.declared.machine.Step.{Step}
use Rattle.psy_machine.specs.declared.machine.Step.TheVariants as step
use Rattle.psy_machine.specs.Stepping.{AgentMachine, IsOf}
use Rattle.psy_history.specs.Actions.{Action, Opening, System}
use Rattle.psy_history.specs.Schedule.{work}
use Rattle.psy_kernel.specs.declared.eyes.Eyes.{Eyes}
use Rattle.psy_kernel.specs.declared.engine.advance.Gone.{Gone}
use Rattle.psy_kernel.specs.Acting.{AfterCycle, HasDoneBy, IsLookIn, IsOfCode}
use Rattle.psy_kernel.specs.Cycles.{ActsIn}
use Rattle.psy_kernel.specs.Seeing.{is_mine}
use Rattle.psy_kernel.specs.Standing.{charge_after}
use Rattle.psy_kernel.specs.Stretches.{AfterCycles, AllPay, AreReaches, HasDoneIn, IsOnWay, MayGoOn, Passes, ReachOn, Steps, gone_by, gone_on}
use Rattle.psy_kernel.proofs.Bursts.{AreKept, IsMeant}
use Rattle.psy_kernel.proofs.OnTheWay.{after_many, done_many, granted, not_over, on_behind, pays_or_stalls, stalled_isnt, unspent}
use Rattle.psy_kernel.proofs.PaidCycles.{spent_is}

-- Cycles in a row: those behind others are further ones; stalled ones pay no instruction
pub record AreLaws : Type 0 where
  pub further : (c : Charged) (n more : ℕ) → ticked (ticked c n) more ≡ ticked c (n + more)
  pub stalled : (c : Charged) (n : ℕ) → AllGoTo c tick.Stalled n → (ticked c n).paid ≡ c.paid

-- The action had so many cycles, and isn't over.
abbrev pub Begins : Charged → System → Action → ℕ → Type 0
Begins charge s r had = (charge ≡ charge_after s r had) × (had < work r)

-- The charge is that of so many cycles of it.
abbrev pub ChargesOf : Plan → ℕ → ℕ → ℕ → AgentMachine → Eyes → Charged → ℕ → Charged → Type 0
ChargesOf plan start date most first before charge0 n charge =
    (opening : Opening) (inputs : List (List ℤ)) (stalls : ℕ → List Stall) (r : Action) (had : ℕ) → IsMeant (Begins charge0) plan start date most first before opening inputs stalls r had → charge ≡ charge_after (opened_of plan opening inputs stalls) r (had + n)

-- Where a charge isn't spent, its next cycle goes to a stall or is free
pub moves : (charge : Charged) (left skipped free : ℕ) → (charge.consumed == charge.budget) ≡ false → 0 < left → IsStretch charge tick.Stalled left skipped → IsStretch (ticked charge skipped) tick.Paid (left - skipped) free
    → 0 < skipped + free
moves charge left skipped free off some a b = by skipped refl
  where
    by : (k : ℕ) → skipped ≡ k → 0 < skipped + free
    by (suc k) e = omega (arith, e)
    by zero e =
        let no_stall : tick_of charge ≡ tick.Stalled → ⊥ = λ stall. (
        let one : 1 ≤ skipped = a.greatest 1 (omega (arith, some)) (λ k less. (let z : k ≡ 0 = omega (arith, less) in subst (λ k. tick_of (ticked charge k) ≡ tick.Stalled) (sym z) stall)) in
        omega (arith, one, e)) in
        let pays : tick_of charge ≡ tick.Paid = pays_or_stalls charge off no_stall in
        let free_one : 1 ≤ free = b.greatest 1 (omega (arith, some, e)) (λ k less. (
        let z : k ≡ 0 = omega (arith, less) in
        subst (λ k. tick_of (ticked (ticked charge skipped) k) ≡ tick.Paid) (sym z) (subst (λ n. tick_of (ticked charge n) ≡ tick.Paid) (sym e) pays))) in
        omega (arith, free_one)

module _ (laws : AreLaws) (s : System) (r : Action) where
  -- a charge is further on by its cycles
  pub on_by : (u n : ℕ) (charge : Charged) → charge ≡ charge_after s r u → ticked charge n ≡ charge_after s r (u + n)
  on_by u n charge is = ap (λ (c : Charged). ticked c n) is ∙ laws.further (record { stalls = s.stalls r.agent; started = r.number + 1; budget = r.budget; consumed = 0; paid = 0 }) u n

  pub all_by : (u n : ℕ) (charge : Charged) (t : Tick) → charge ≡ charge_after s r u → AllGoTo charge t n → (k : ℕ) → k < n → tick_of (charge_after s r (u + k)) ≡ t
  all_by u n charge t is all k less = ap tick_of (sym (on_by u k charge is)) ∙ all k less

  pub all_pay : (u n : ℕ) (charge : Charged) → charge ≡ charge_after s r u → AllGoTo charge tick.Paid n → AllPay s r u (u + n)
  all_pay u n charge is all v low high =
      let so : u + (v - u) ≡ v = omega (arith, low) in
      ap (λ w. tick_of (charge_after s r w)) (sym so) ∙ all_by u n charge tick.Paid is all (v - u) (omega (arith, low, high))

  -- stalls pay nothing,
  module _ (code : Code) (u : ℕ) (machine : AgentMachine) (sends : List Sent) (taken : List ℕ) (on : IsOnWay s code r u machine sends taken) (charge : Charged) (is : charge ≡ charge_after s r u) where
    same_paid : (n : ℕ) → AllGoTo charge tick.Stalled n → (charge_after s r (u + n)).paid ≡ (charge_after s r u).paid
    same_paid n all = ap (λ (c : Charged). c.paid) (sym (on_by u n charge is)) ∙ laws.stalled charge n all ∙ ap (λ (c : Charged). c.paid) is

    pub on_stalled : (n : ℕ) → AllGoTo charge tick.Stalled n → IsOnWay s code r (u + n) machine sends taken
    on_stalled n all = on_behind s code r u n (all_by u n charge tick.Stalled is all) (same_paid n all) machine sends taken on

    none_looked : (v : ℕ) → tick_of (charge_after s r v) ≡ tick.Stalled → IsLookIn s code r v None
    none_looked v e = rw e refl

    -- and look at nothing: rings are reached for as far as before
    pub same_reach : IsOfCode s code r → (had upto date : ℕ) (reach : ℕ → ℕ → Option ℕ) → AreReaches s code r had upto date reach → had ≤ u → (n : ℕ) → u + n ≤ upto → AllGoTo charge tick.Stalled n
        → (variable : ℕ) → reach (u + n) variable ≡ reach u variable
    same_reach of_code had upto date reach are low zero few all variable = ap (λ v. reach v variable) (omega arith)
    same_reach of_code had upto date reach are low (suc n) few all variable =
        let earlier : AllGoTo charge tick.Stalled n = λ k less. all k (omega (arith, less)) in
        let here : tick_of (charge_after s r (u + n)) ≡ tick.Stalled = all_by u (suc n) charge tick.Stalled is all n (omega arith) in
        let now : IsOnWay s code r (u + n) machine sends taken = on_stalled n earlier in
        let less : u + n < work r = not_over s code r of_code (u + n) machine sends taken now (unspent s code r (u + n) now.within (granted (charge_after s r (u + n)) tick.Stalled here stalled_isnt)) in
        let so : u + suc n ≡ suc (u + n) = omega arith in
        ap (λ v. reach v variable) so ∙ are (u + n) variable None (omega (arith, low)) (omega (arith, few)) less (none_looked (u + n) here)
        ∙ same_reach of_code had upto date reach are low n (omega (arith, few)) earlier variable

sum_of : (a b c : ℕ) → a + b + c ≡ a + (b + c)
sum_of a b c = omega arith

module _ (plan : Plan) (start date most : ℕ) (first : AgentMachine) (before : Eyes) (charge0 : Charged) where
  pub none_charged : ChargesOf plan start date most first before charge0 0 charge0
  none_charged opening inputs stalls r had m = let so : had ≡ had + 0 = omega arith in m.1.0 ∙ ap (λ u. charge_after (opened_of plan opening inputs stalls) r u) so

  module _ (opening : Opening) (inputs : List (List ℤ)) (stalls : ℕ → List Stall) (r : Action) (had : ℕ) (m : IsMeant (Begins charge0) plan start date most first before opening inputs stalls r had) where
    -- an action that begins isn't spent
    begins : (charge : Charged) → ChargesOf plan start date most first before charge0 0 charge → (charge.consumed == charge.budget) ≡ true → ⊥
    begins charge charged spent =
        let s : System = opened_of plan opening inputs stalls in
        let less : had < work r = m.1.1 in
        let so : had + 0 ≡ had = omega arith in
        let is : charge ≡ charge_after s r had = charged opening inputs stalls r had m ∙ ap (λ u. charge_after s r u) so in
        let test : (had == r.budget) ≡ true = sym (spent_is (s.stalls r.agent) r.number r.budget had (omega (arith, less))) ∙ sym (ap (λ (c : Charged). c.consumed == c.budget) is) ∙ spent in
        let same : had ≡ r.budget = eqb-true had r.budget test in
        omega (arith, less, same)

    -- so one that is spent had a cycle
    pub some_done : (n : ℕ) (charge : Charged) → ChargesOf plan start date most first before charge0 n charge → (charge.consumed == charge.budget) ≡ true → 1 ≤ n
    some_done zero charge charged spent = absurd (begins charge charged spent)
    some_done (suc n) charge charged spent = omega arith

-- Behind so many cycles of an action these many are free of stalls, and fit.
pub record IsFree (plan : Plan) (start date most : ℕ) (first : AgentMachine) (before : Eyes) (reaches : List (Option ℕ)) (charge0 : Charged) (n : ℕ) (machine : AgentMachine) (now : Eyes) (reaches' : List (Option ℕ)) (charge : Charged) (free : ℕ) : Type 0 where
  pub kept : AreKept (Begins charge0) plan start date most first before reaches n machine now reaches'
  pub charged : ChargesOf plan start date most first before charge0 n charge
  pub fits : n + free ≤ most
  pub all : AllGoTo charge tick.Paid free

module _ (laws : AreLaws) {plan : Plan} {start date most : ℕ} {first : AgentMachine} {before : Eyes} {reaches : List (Option ℕ)} {charge0 : Charged} where
  module _ {n : ℕ} {machine : AgentMachine} {now : Eyes} {reaches' : List (Option ℕ)} (kept : AreKept (Begins charge0) plan start date most first before reaches n machine now reaches') (few : n < most) (charge : Charged) (charged : ChargesOf plan start date most first before charge0 n charge) where
    -- behind a stall
    module _ (skipped : ℕ) (count : IsStretch charge tick.Stalled (most - n) skipped) (charge' : Charged) (charge_is : charge' ≡ ticked charge skipped) where
      within : n + skipped ≤ most
      within = omega (arith, few, count.within)

      pub charged_then : ChargesOf plan start date most first before charge0 (n + skipped) charge'
      charged_then opening inputs stalls r had m =
          charge_is ∙ on_by laws (opened_of plan opening inputs stalls) r (had + n) skipped charge (charged opening inputs stalls r had m) ∙ ap (λ u. charge_after (opened_of plan opening inputs stalls) r u) (sum_of had n skipped)

      pub kept_then : AreKept (Begins charge0) plan start date most first before reaches (n + skipped) machine now reaches'
      kept_then = record {
        of = kept.of;
        reaching = kept.reaching;
        same_taken = kept.same_taken;
        same_outbox = kept.same_outbox;
        scene = kept.scene;
        size = kept.size;
        taking = kept.taking;
        others = kept.others;
        on_way = λ opening inputs stalls r had m. (
            let s : System = opened_of plan opening inputs stalls in
            subst (λ u. IsOnWay s plan.code r u machine now.outbox.now.sends now.taken.now.items) (sum_of had n skipped)
            (on_stalled laws s r plan.code (had + n) machine now.outbox.now.sends now.taken.now.items (kept.on_way opening inputs stalls r had m) charge (charged opening inputs stalls r had m) skipped count.all));
        reached = λ opening inputs stalls r had m reach are variable at. (
            let s : System = opened_of plan opening inputs stalls in
            let same = same_reach laws s r plan.code (had + n) machine now.outbox.now.sends now.taken.now.items (kept.on_way opening inputs stalls r had m) charge (charged opening inputs stalls r had m)
            (MayGoOn.of_code m.0) had (had + most) date reach are (omega arith) skipped (let w = within in omega (arith, w)) count.all variable in
            kept.reached opening inputs stalls r had m reach are variable at ∙ ap Some (sym same ∙ ap (λ u. reach u variable) (sum_of had n skipped)));
      }

  -- ---- the instructions behind it

  module _ {n : ℕ} {machine : AgentMachine} {now : Eyes} {reaches' : List (Option ℕ)} {charge : Charged} {free : ℕ} (f : IsFree plan start date most first before reaches charge0 n machine now reaches' charge free) where
    -- what is given of them
    pub part : (opening : Opening) (inputs : List (List ℤ)) (stalls : ℕ → List Stall) (r : Action) (had : ℕ) → IsMeant (Begins charge0) plan start date most first before opening inputs stalls r had
        → MayGoOn (opened_of plan opening inputs stalls) plan.code r (had + n) (had + n + free) start date machine now.scene.now now.taken.now.items now.outbox.now
    part opening inputs stalls r had m =
        let s : System = opened_of plan opening inputs stalls in
        let may : MayGoOn s plan.code r had (had + most) start date first before.scene.now before.taken.now.items before.outbox.now = m.0 in
        record {
          of_code = may.of_code;
          on_way = f.kept.on_way opening inputs stalls r had m;
          started = may.started;
          counted = f.kept.taking ∙ may.counted;
          acts = λ u low high less taken after counted size did.
              subst (λ sight. ActsIn s plan.code r u sight taken after) (sym f.kept.scene) (may.acts u (omega (arith, low)) (omega (arith, high, f.fits)) less taken after counted (size ∙ f.kept.size) did);
          near = λ u low high less look is. may.near u (omega (arith, low)) (omega (arith, high, f.fits)) less look is;
        }

    pub part_pays : (opening : Opening) (inputs : List (List ℤ)) (stalls : ℕ → List Stall) (r : Action) (had : ℕ) → IsMeant (Begins charge0) plan start date most first before opening inputs stalls r had → AllPay (opened_of plan opening inputs stalls) r (had + n) (had + n + free)
    part_pays opening inputs stalls r had m = all_pay laws (opened_of plan opening inputs stalls) r (had + n) free charge (f.charged opening inputs stalls r had m) f.all

    -- behind them
    module _ (count : ℕ) (few : count ≤ free) (charge' : Charged) (charge_is : charge' ≡ ticked charge count) where
      pub charged_behind : ChargesOf plan start date most first before charge0 (n + count) charge'
      charged_behind opening inputs stalls r had m =
          charge_is ∙ on_by laws (opened_of plan opening inputs stalls) r (had + n) count charge (f.charged opening inputs stalls r had m) ∙ ap (λ u. charge_after (opened_of plan opening inputs stalls) r u) (sum_of had n count)

      module _ (machine' : AgentMachine) (after : Eyes) (reaches'' : List (Option ℕ)) (answer : Step) where
        -- what these steps leave
        abbrev pub Leaves : Type 0
        Leaves = (opening : Opening) (inputs : List (List ℤ)) (stalls : ℕ → List Stall) (r : Action) (had : ℕ)
            → MayGoOn (opened_of plan opening inputs stalls) plan.code r had (had + free) start date machine now.scene.now now.taken.now.items now.outbox.now → AllPay (opened_of plan opening inputs stalls) r had (had + free)
            → Steps (opened_of plan opening inputs stalls) plan.code r had free date count answer machine' after.outbox.now.sends after.taken.now.items reaches' reaches''

        module _ (law : Leaves) where
          -- behind those before
          steps_behind : (opening : Opening) (inputs : List (List ℤ)) (stalls : ℕ → List Stall) (r : Action) (had : ℕ) → IsMeant (Begins charge0) plan start date most first before opening inputs stalls r had
              → Steps (opened_of plan opening inputs stalls) plan.code r (had + n) free date count answer machine' after.outbox.now.sends after.taken.now.items reaches' reaches''
          steps_behind opening inputs stalls r had m = law opening inputs stalls r (had + n) (part opening inputs stalls r had m) (part_pays opening inputs stalls r had m)

          reached_behind : (opening : Opening) (inputs : List (List ℤ)) (stalls : ℕ → List Stall) (r : Action) (had : ℕ) → IsMeant (Begins charge0) plan start date most first before opening inputs stalls r had
              → ReachOn (opened_of plan opening inputs stalls) plan.code r had most date (n + count) reaches reaches''
          reached_behind opening inputs stalls r had m reach are variable at =
              (steps_behind opening inputs stalls r had m).reached reach
              (λ u variable look low high less is. are u variable look (omega (arith, low)) (omega (arith, high, f.fits)) less is) variable (f.kept.reached opening inputs stalls r had m reach are variable at)
              ∙ ap (λ u. Some (reach u variable)) (sum_of had n count)

          module _ (of : IsOf plan.code machine') (as_many : length reaches'' ≡ length reaches') (same_taken : after.taken.ghost_name ≡ now.taken.ghost_name) (same_outbox : after.outbox.ghost_name ≡ now.outbox.ghost_name)
              (scene : after.scene.now ≡ now.scene.now) (size : after.outbox.now.size ≡ now.outbox.now.size) (taking : length after.taken.now.items ≡ length now.taken.now.items)
              (others : (stream : ℕ) → (is_mine now.scene.now stream ≡ Some true → ⊥) → slice_get after.taken.now.items stream ≡ slice_get now.taken.now.items stream) where
            pub others_behind : (stream : ℕ) → (is_mine before.scene.now stream ≡ Some true → ⊥) → slice_get after.taken.now.items stream ≡ slice_get before.taken.now.items stream
            others_behind stream other = others stream (λ mine. other (sym (ap (λ x. is_mine x stream) f.kept.scene) ∙ mine)) ∙ f.kept.others stream other

            -- where the action goes on
            pub kept_behind : count ≡ free → answer ≡ step.Went → AreKept (Begins charge0) plan start date most first before reaches (n + count) machine' after reaches''
            kept_behind whole went = record {
              of = of;
              reaching = as_many ∙ f.kept.reaching;
              same_taken = same_taken ∙ f.kept.same_taken;
              same_outbox = same_outbox ∙ f.kept.same_outbox;
              scene = scene ∙ f.kept.scene;
              size = size ∙ f.kept.size;
              taking = taking ∙ f.kept.taking;
              others = others_behind;
              on_way = λ opening inputs stalls r had m.
                  subst (λ u. IsOnWay (opened_of plan opening inputs stalls) plan.code r u machine' after.outbox.now.sends after.taken.now.items) (omega (arith, whole)) ((steps_behind opening inputs stalls r had m).on_way went);
              reached = reached_behind;
            }

          -- where it is over
          module _ (opening : Opening) (inputs : List (List ℤ)) (stalls : ℕ → List Stall) (r : Action) (had : ℕ) (m : IsMeant (Begins charge0) plan start date most first before opening inputs stalls r had) where
            abbrev s : System
            s = opened_of plan opening inputs stalls

            same_last : had + n + count - 1 ≡ had + (n + count) - 1
            same_last = omega arith

            charge_was : charge_after s r (had + n + count) ≡ charge'
            charge_was = ap (λ u. charge_after s r u) (sum_of had n count) ∙ sym (charged_behind opening inputs stalls r had m)

            abbrev pub GoneBy : Step → Gone
            GoneBy known = gone_by (charge_after s r (had + n + count)) known

            pub over_behind : (known : Step) → answer ≡ known → (known ≡ step.Went → ⊥) → Passes s plan.code r had most date (n + count) (GoneBy known) charge' machine' after.outbox.now.sends after.taken.now.items reaches reaches''
            over_behind known is other =
                let over = (steps_behind opening inputs stalls r had m).over (λ e. other (sym is ∙ e)) in
                let was = subst (λ g. AfterCycles s plan.code r (had + n) count g (charge_after s r (had + n + count)) machine') (ap GoneBy is) over.after in
                let did = subst (HasDoneIn s plan.code r (had + n) count after.outbox.now.sends after.taken.now.items) (ap GoneBy is) over.did in
                record {
                  after = subst (λ v. AfterCycle s plan.code r v (GoneBy known) charge' machine') same_last
                      (subst (λ c. AfterCycle s plan.code r (had + n + count - 1) (GoneBy known) c machine') charge_was was);
                  did = subst (λ v. HasDoneBy s plan.code r v after.outbox.now.sends after.taken.now.items (GoneBy known)) same_last did;
                  reached = reached_behind opening inputs stalls r had m;
                }

  -- ---- behind the loop

  module _ {n : ℕ} {machine : AgentMachine} {now : Eyes} {reaches' : List (Option ℕ)} (kept : AreKept (Begins charge0) plan start date most first before reaches n machine now reaches') (charge : Charged) (charged : ChargesOf plan start date most first before charge0 n charge) (some : 1 ≤ n)
      (opening : Opening) (inputs : List (List ℤ)) (stalls : ℕ → List Stall) (r : Action) (had : ℕ) (m : IsMeant (Begins charge0) plan start date most first before opening inputs stalls r had) (result : Gone) (result_is : result ≡ gone_on charge) where
    result_by : gone_on (charge_after (opened_of plan opening inputs stalls) r (had + n)) ≡ result
    result_by = ap gone_on (sym (charged opening inputs stalls r had m)) ∙ sym result_is

    pub after_all : AfterCycles (opened_of plan opening inputs stalls) plan.code r had n result charge machine
    after_all =
        let a = after_many (opened_of plan opening inputs stalls) plan.code r (MayGoOn.of_code m.0) had n machine now.outbox.now.sends now.taken.now.items some (kept.on_way opening inputs stalls r had m) in
        subst (λ g. AfterCycles (opened_of plan opening inputs stalls) plan.code r had n g charge machine) result_by
        (subst (λ c. AfterCycles (opened_of plan opening inputs stalls) plan.code r had n (gone_on (charge_after (opened_of plan opening inputs stalls) r (had + n))) c machine) (sym (charged opening inputs stalls r had m)) a)

    pub done_all : HasDoneIn (opened_of plan opening inputs stalls) plan.code r had n now.outbox.now.sends now.taken.now.items result
    done_all =
        subst (λ g. HasDoneIn (opened_of plan opening inputs stalls) plan.code r had n now.outbox.now.sends now.taken.now.items g) result_by
        (done_many (opened_of plan opening inputs stalls) plan.code r (MayGoOn.of_code m.0) had n machine now.outbox.now.sends now.taken.now.items some (kept.on_way opening inputs stalls r had m))
