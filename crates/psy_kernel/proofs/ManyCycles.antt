-- What the agent has whose action gets many cycles in a row, and what it did.
use Rattle.std.proofs.Common.{◌≡◌, ℕ, zero, suc, ◌+◌, ◌-◌, ◌*◌, ◌^◌, ◌<◌, ◌≤◌, true, false, Bool, if◌then◌else◌, List, [], ◌∷◌, length, get_or, Option, Some, None, slice_get, ℤ, refl, sym, ap, ◌∙◌, subst, arith}
use Rattle.std.specs.Prelude.{IsSome}
use Rattle.std.proofs.lemmas.Bool.{cond-true, lt-ltb, le-ltb, ltb-true}
use Rattle.std.proofs.lemmas.Nat.{mul-le}
use Rattle.psy_arith.specs.declared.operators.Trap.{Trap}
use Rattle.psy_budget.specs.declared.charge.Stall.{Stall}
use Rattle.psy_code.specs.declared.code.Code.{Code}
use Rattle.psy_code.specs.declared.look.Sent.{Sent}
use Rattle.psy_code.specs.Execution.{RunState, Running, copy_of, run_code}
use Rattle.psy_dates.specs.declared.plan.Plan.{Plan}
use Rattle.psy_dates.specs.declared.seat.Seat.{Seat}
use Rattle.psy_dates.specs.declared.seat.Phase.TheVariants as phase
use Rattle.psy_dates.specs.Outboxes.{Outboxed}
use Rattle.psy_dates.specs.Plans.{opened_of}
use Rattle.psy_machine.specs.Stepping.{IsOf}
use Rattle.psy_history.specs.Actions.{Action, Opening, System, timing}
use Rattle.psy_meaning.specs.CodeWays.{agent_code_at}
use Rattle.psy_history.specs.History.{history}
use Rattle.psy_history.specs.Regular.{begun_by}
use Rattle.psy_history.specs.Processors.{processor_at}
use Rattle.psy_history.specs.Schedule.{Turn, is_of, is_pending, turn_of, units, work}
use Rattle.psy_history.specs.Summary.{reach}
use Rattle.psy_meaning.specs.Timing.{end_date, timing_of}
use Rattle.psy_queue.specs.Order.{Queued}
use Rattle.psy_tree.specs.Parts.{agent_at}
use Rattle.psy_tree.specs.declared.unit.VarDecl.{VarDecl}
use Rattle.psy_kernel.specs.declared.engine.Figure.{Figure}
use Rattle.psy_kernel.specs.declared.engine.Runner.{Runner}
use Rattle.psy_kernel.specs.declared.engine.stretch.Span.{Span}
use Rattle.psy_kernel.specs.declared.engine.advance.Gone.{Gone}
use Rattle.psy_kernel.specs.declared.engine.advance.Gone.TheVariants as gone
use Rattle.psy_kernel.specs.Acting.{AfterCycle, HasDoneBy, IsLookIn, IsOfCode}
use Rattle.psy_kernel.specs.Cycles.{ActsIn, BoxStands, GetsCycle, IsNear, LooksBack, MayEnd, OneStands, figured}
use Rattle.psy_kernel.specs.Seeing.{Sight, sight_in}
use Rattle.psy_kernel.specs.Standing.{HasDone, charge_after}
use Rattle.psy_kernel.specs.Stretches.{AfterCycles, AreReaches, HasDoneIn, Lasts, MayGoOn, MayLast, Passes, given_on, given_to}
use Rattle.psy_kernel.proofs.GivenCycles.{own_given}
use Rattle.psy_kernel.proofs.OneAgent.{count_few, early, goes_on, in_action, overruns, reaches, traps}
use Rattle.psy_kernel.proofs.OneBox.{box_ended, box_going, box_spent, box_trapped}
use Rattle.psy_kernel.proofs.OtherAgents.{is_own}
use Rattle.psy_kernel.proofs.PaidCycles.{paid_few, up_from}
use Rattle.psy_kernel.proofs.Verdicts.{going}

-- While an action had fewer cycles than its work its code runs on
pub runs_at : (s : System) (code : Code) (r : Action) → IsOfCode s code r → (u : ℕ) → u < work r
    → (t : RunState) × (run_code code (agent_code_at code r.agent) (begun_by (agent_code_at code r.agent) r) (charge_after s r u).paid ≡ Running t)
runs_at s code r of_code u less =
    let within : u ≤ r.budget = omega (arith, less) in
    going s code r of_code u (charge_after s r u).paid less (paid_few (s.stalls r.agent) r.number r.budget u within) (up_from (s.stalls r.agent) r.number r.budget u within)

-- ---- the turns

module _ (r : Action) (turns : List (Option Turn)) where
  abbrev pub many : ℕ → List (Option Turn)
  many k = given_to (turn_of (Some r)) k turns

  abbrev pub first : ℕ
  first = units r.agent r.number turns

  pub units_many : (k : ℕ) → units r.agent r.number (many k) ≡ first + k
  units_many zero = omega arith
  units_many (suc k) =
      let one = cond-true (is_of r.agent r.number (turn_of (Some r))) (suc (units r.agent r.number (many k))) (units r.agent r.number (many k)) (is_own r.agent r.number) in
      omega (arith, one, units_many k)

  pub length_many : (k : ℕ) → length (many k) ≡ length turns + k
  length_many zero = omega arith
  length_many (suc k) = let e = length_many k in omega (arith, e)

  pub is_on : (k : ℕ) → first + k < work r → is_pending (many k) r ≡ true
  is_on k less = let e = units_many k in lt-ltb (units r.agent r.number (many k)) (work r) (omega (arith, e, less))

  pub is_over : (k : ℕ) → first + k ≡ work r → is_pending (many k) r ≡ false
  is_over k last = let e = units_many k in le-ltb (units r.agent r.number (many k)) (work r) (omega (arith, e, last))

  pub fewer : (k : ℕ) → is_pending (many k) r ≡ true → first + k < work r
  fewer k on = let e = units_many k in let less = ltb-true (units r.agent r.number (many k)) (work r) on in omega (arith, e, less)

-- ---- the cycles but the last one

module _ (s : System) (code : Code) (turns : List (Option Turn)) (until date cycle agent : ℕ) (r : Action) (before : List Action) (g : GetsCycle s code turns until date cycle agent r before) (most : ℕ)
    (within : date < until) (fits : cycle + most ≤ (date + 1) * s.unit.quantum) where
  abbrev turned : ℕ → List (Option Turn)
  turned k = many r turns k

  abbrev had : ℕ
  had = first r turns

  pub gets_at : (k : ℕ) → k < most → had + k < work r → GetsCycle s code (turned k) until date (cycle + k) agent r before
  gets_at k few less = record {
    of_code = g.of_code;
    agent_is = g.agent_is;
    pending = is_on r turns k less;
    numbers = g.numbers;
    few = g.few;
    counted = g.counted;
    started = g.started;
    later = g.later;
    at = let e = length_many r turns k in omega (arith, e, g.at);
    within = let a = g.later in let m = mul-le (date + 1) s.unit.quantum r.deadline s.unit.quantum (omega (arith, a)) (omega arith) in omega (arith, m, few, fits);
    run = let m = mul-le (date + 1) s.unit.quantum until s.unit.quantum (omega (arith, within)) (omega arith) in omega (arith, m, few, fits);
    most = g.most;
    quantum = g.quantum;
    ends = g.ends;
  }

  module _ (runner : Runner) (waits : Option ℕ) (seat : Seat) (ended : List ℤ) (old : OneStands s code turns until date agent (r ∷ before) runner waits seat ended) where
    -- what it has behind so many of its cycles
    abbrev pub Stood : ℕ → Type 0
    Stood k = (x : Runner) × IsOf code x.machine × (x.figure ≡ runner.figure) × OneStands s code (turned k) until date agent (r ∷ before) x waits seat ended

    pub stood : (k : ℕ) → k < most → had + k < work r → Stood k
    stood zero few less = (runner, old.stands.of_code, refl, old)
    stood (suc k) few less =
        let b = stood k (omega (arith, few)) (omega (arith, less)) in
        let u : ℕ = units r.agent r.number (turned k) in
        let more : suc u < work r = (let e = units_many r turns k in omega (arith, e, less)) in
        let t = runs_at s code r g.of_code (suc u) more in
        let x : Runner = record b.0 { charge = charge_after s r (suc u); machine = record b.0.machine { machine = t.0.machine } } in
        let own : b.0.machine.agent ≡ r.agent = b.3.stands.is_agent ∙ sym g.agent_is in (
          x,
          b.1,
          b.2,
          goes_on s code (turned k) until date (cycle + k) agent r before (gets_at k (omega (arith, few)) (omega (arith, less))) b.0 waits seat ended b.3 x b.1 refl
              (record { charged = refl; agent = own; gone = (more, (t.0, t.1, refl)) }),
        )

    -- ---- the last one

    module _ (n : ℕ) (some : 1 ≤ n) (few : n ≤ most) (runner' : Runner) (is_of : IsOf code runner'.machine) where
      abbrev pub last : ℕ
      last = n - 1

      pub last_is : suc last ≡ n
      last_is = omega (arith, some)

      -- it had so many before
      here : units r.agent r.number (turned last) ≡ had + n - 1
      here = let e = units_many r turns last in omega (arith, e, some)

      abbrev pub Came : Gone → Type 0
      Came result = AfterCycles s code r had n result runner'.charge runner'.machine

      pub less : (result : Gone) → Came result → had + last < work r
      less gone.Going a = let h = a.gone.0 in omega (arith, h, some)
      less (gone.Ended point) a = let h = a.gone.0 in omega (arith, h, some)
      less (gone.Trapped kind) a = let h = a.gone.0 in omega (arith, h, some)
      less gone.Spent a = let h = a.gone.0 in omega (arith, h, some)

      behind : (result : Gone) → Came result → AfterCycle s code r (units r.agent r.number (turned last)) result runner'.charge runner'.machine
      behind result a = subst (λ u. AfterCycle s code r u result runner'.charge runner'.machine) (sym here) a

      pub gets_last : (result : Gone) → Came result → GetsCycle s code (turned last) until date (cycle + last) agent r before
      gets_last result a = gets_at last (omega (arith, some, few)) (less result a)

      stood_last : (result : Gone) → Came result → Stood last
      stood_last result a = stood last (omega (arith, some, few)) (less result a)

      abbrev pub Stands : Option ℕ → Seat → List ℤ → Type 0
      Stands waits' seat' ended' = OneStands s code (turned n) until date agent (r ∷ before) runner' waits' seat' ended'

      stands_then : (waits' : Option ℕ) (seat' : Seat) (ended' : List ℤ) → OneStands s code (turned (suc last)) until date agent (r ∷ before) runner' waits' seat' ended' → Stands waits' seat' ended'
      stands_then waits' seat' ended' h = subst (λ k. OneStands s code (turned k) until date agent (r ∷ before) runner' waits' seat' ended') last_is h

      pub many_going : runner'.figure ≡ runner.figure → Came gone.Going → Stands waits seat ended
      many_going same a =
          let b = stood_last gone.Going a in
          stands_then waits seat ended
          (goes_on s code (turned last) until date (cycle + last) agent r before (gets_last gone.Going a) b.0 waits seat ended b.3 runner' is_of (same ∙ sym b.2) (behind gone.Going a))

      -- with the figure that it has where it is over
      module _ (figure_is : runner'.figure ≡ figured until s.unit.quantum r.deadline (cycle + n) runner.figure) where
        figure_last : (b : Stood last) → runner'.figure ≡ figured until s.unit.quantum r.deadline (cycle + last + 1) b.0.figure
        figure_last b =
            let done : cycle + n ≡ cycle + last + 1 = omega (arith, some) in
            figure_is ∙ ap (λ done. figured until s.unit.quantum r.deadline done runner.figure) done ∙ ap (figured until s.unit.quantum r.deadline (cycle + last + 1)) (sym b.2)

        pub many_ended : (point end : ℕ) (ended' : List ℤ) → end ≡ end_date (timing s agent) r.start point → Came (gone.Ended point)
            → ((variable : ℕ) (v : VarDecl) (value : ℤ) → slice_get s.unit.variables variable ≡ Some v → v.owner ≡ Some agent → slice_get ended' variable ≡ Some value → copy_of variable runner'.machine.machine.copies ≡ Some value)
            → Stands None (record seat { phase = phase.Ended; end = end; reached = point }) ended'
        many_ended point end ended' is a are =
            let b = stood_last (gone.Ended point) a in
            stands_then None (record seat { phase = phase.Ended; end = end; reached = point }) ended'
            (reaches s code (turned last) until date (cycle + last) agent r before (gets_last (gone.Ended point) a) b.0 waits seat ended b.3 runner' is_of (figure_last b) point end ended' is (behind (gone.Ended point) a) are)

        pub many_trapped : (kind : Trap) → Came (gone.Trapped kind) → Stands None (record seat { phase = phase.Stopped; trap = Some kind }) ended
        many_trapped kind a =
            let b = stood_last (gone.Trapped kind) a in
            stands_then None (record seat { phase = phase.Stopped; trap = Some kind }) ended
            (traps s code (turned last) until date (cycle + last) agent r before (gets_last (gone.Trapped kind) a) b.0 waits seat ended b.3 runner' is_of (figure_last b) kind (behind (gone.Trapped kind) a))

        pub many_spent : Came gone.Spent → Stands None (record seat { phase = phase.Stopped; trap = None }) ended
        many_spent a =
            let b = stood_last gone.Spent a in
            stands_then None (record seat { phase = phase.Stopped; trap = None }) ended
            (overruns s code (turned last) until date (cycle + last) agent r before (gets_last gone.Spent a) b.0 waits seat ended b.3 runner' is_of (figure_last b) (behind gone.Spent a))

      -- what it sent and took
      module _ (sends : List Sent) (taken : List ℕ) where
        box_with : BoxStands s code (turned (suc last)) date agent (r ∷ before) sends taken → BoxStands s code (turned n) date agent (r ∷ before) sends taken
        box_with h = subst (λ k. BoxStands s code (turned k) date agent (r ∷ before) sends taken) last_is h

        did_behind : (result : Gone) → HasDoneIn s code r had n sends taken result → HasDoneBy s code r (units r.agent r.number (turned last)) sends taken result
        did_behind result did = subst (λ u. HasDoneBy s code r u sends taken result) (sym here) did

        pub many_boxed : (result : Gone) → Came result → HasDoneIn s code r had n sends taken result → BoxStands s code (turned n) date agent (r ∷ before) sends taken
        many_boxed gone.Going a did = box_with (box_going s code (turned last) until date (cycle + last) agent r before (gets_last gone.Going a) runner'.charge runner'.machine sends taken (behind gone.Going a) (did_behind gone.Going did))
        many_boxed (gone.Ended point) a did =
            box_with (box_ended s code (turned last) until date (cycle + last) agent r before (gets_last (gone.Ended point) a) runner'.charge runner'.machine sends taken point (behind (gone.Ended point) a) (did_behind (gone.Ended point) did))
        many_boxed (gone.Trapped kind) a did = box_with (box_trapped s code (turned last) until date (cycle + last) agent r before (gets_last (gone.Trapped kind) a) runner'.charge runner'.machine sends taken kind (behind (gone.Trapped kind) a))
        many_boxed gone.Spent a did = box_with (box_spent s code (turned last) until date (cycle + last) agent r before (gets_last gone.Spent a) runner'.charge runner'.machine sends taken (behind gone.Spent a))

      -- whether it is pending
      pub many_pending : (result : Gone) → Came result → (k : ℕ) → k < n → is_pending (turned k) r ≡ true
      many_pending result a k fewer = let h = less result a in is_on r turns k (omega (arith, h, fewer))

      pub many_on : Came gone.Going → is_pending (turned n) r ≡ true
      many_on a = is_on r turns n (let h = a.gone.0 in omega (arith, h, some))

-- ---- what is given of all of them

module _ {plan : Plan} {opening : Opening} {inputs : List (List ℤ)} {stalls : ℕ → List Stall} {turns : ℕ → List (Option Turn)} {span : Span} {r : Action} {before : List Action} {runner : Runner} {waits : Option ℕ} {seat : Seat}
    {ended : List ℤ} {rings : List (List ℤ)} {queues : List Queued} {taken : List ℕ} {outbox : Outboxed}
    (given : MayLast plan opening inputs stalls turns span r before runner waits seat ended rings queues taken outbox) where
  abbrev s : System
  s = opened_of plan opening inputs stalls

  -- what those of its agent's processor went to
  abbrev own : List (Option Turn)
  own = turns span.agent

  abbrev begun : ℕ
  begun = first r own

  -- by agent, what all went to behind so many that it gets
  abbrev passed : ℕ → ℕ → List (Option Turn)
  passed n = given_on plan.unit (processor_at plan.unit r.agent) (turn_of (Some r)) n turns

  -- those of its own agent's processor
  own_passed : (n : ℕ) → passed n r.agent ≡ many r own n
  own_passed n = own_given plan.unit (processor_at plan.unit r.agent) r.agent (turn_of (Some r)) turns refl n ∙ ap (λ a. many r (turns a) n) given.given.gets.agent_is

  pub had_less : begun < work r
  had_less = early s plan.code own plan.until span.date span.cycle span.agent r before given.given.gets

  -- by how many cycles the action had
  since : (u : ℕ) → begun ≤ u → begun + (u - begun) ≡ u
  since u low = omega (arith, low)

  units_since : (u : ℕ) → begun ≤ u → units r.agent r.number (many r own (u - begun)) ≡ u
  units_since u low = units_many r own (u - begun) ∙ since u low

  units_passed : (u : ℕ) → begun ≤ u → units r.agent r.number (passed (u - begun) r.agent) ≡ u
  units_passed u low = ap (units r.agent r.number) (own_passed (u - begun)) ∙ units_since u low

  looks_at : (u : ℕ) → begun ≤ u → u < begun + span.most → u < work r → LooksBack s plan.sizes plan.code (passed (u - begun)) span.date r
  looks_at u low high less = given.looks (u - begun) (omega (arith, low, high)) (is_on r own (u - begun) (omega (arith, low, less)))

  acts_at : (u : ℕ) → begun ≤ u → u < begun + span.most → u < work r → (taken' : List ℕ) (after : Outboxed) → length taken' ≡ length s.unit.streams
      → after.size ≡ outbox.size → HasDone s plan.code r (charge_after s r u).paid after.sends taken' → ActsIn s plan.code r u (sight_in plan.unit rings queues span.agent seat.start span.date) taken' after
  acts_at u low high less taken' after counted size did =
      let at = sym (units_passed u low) in
      let acts : ActsIn s plan.code r (units r.agent r.number (passed (u - begun) r.agent)) (sight_in plan.unit rings queues r.agent r.start span.date) taken' after =
      LooksBack.acts (looks_at u low high less) rings queues taken' after given.ringed given.queued counted (size ∙ given.sized)
      (subst (λ n. HasDone s plan.code r (charge_after s r n).paid after.sends taken') at did) in
      subst (λ n. ActsIn s plan.code r n (sight_in plan.unit rings queues span.agent seat.start span.date) taken' after) (sym at)
      (subst (λ n. ActsIn s plan.code r (units r.agent r.number (passed (u - begun) r.agent)) (sight_in plan.unit rings queues n seat.start span.date) taken' after) given.given.gets.agent_is
      (subst (λ n. ActsIn s plan.code r (units r.agent r.number (passed (u - begun) r.agent)) (sight_in plan.unit rings queues r.agent n span.date) taken' after) (sym given.given.has.seated.start) acts))

  near_at : (u : ℕ) → begun ≤ u → u < begun + span.most → u < work r → (look : Option (ℕ × ℕ)) → IsLookIn s plan.code r u look → IsNear s r.start span.date look
  near_at u low high less look is = LooksBack.near (looks_at u low high less) look (subst (λ n. IsLookIn s plan.code r n look) (sym (units_passed u low)) is)

  pub may_go_on : MayGoOn s plan.code r begun (begun + span.most) seat.start span.date runner.machine (sight_in plan.unit rings queues span.agent seat.start span.date) taken outbox
  may_go_on =
      let w = in_action s plan.code own plan.until span.date span.cycle span.agent r before given.given.gets runner waits seat ended given.given.has in
      record {
        of_code = w.of_code;
        on_way = record { within = (let less = had_less in omega (arith, less)); agent = w.agent; running = w.running; did = given.given.acts.did };
        started = given.given.has.seated.start;
        counted = given.counted;
        acts = acts_at;
        near = near_at;
      }

  -- how far back rings are reached for
  abbrev pub reaches_by : ℕ → ℕ → Option ℕ
  reaches_by u variable = reach s (passed (u - begun)) (history s (span.date + 1)) variable

  pub are_reaches : AreReaches s plan.code r begun (begun + span.most) span.date reaches_by
  are_reaches u variable look low high less is =
      let k : ℕ = u - begun in
      let next : suc u - begun ≡ suc k = omega (arith, low) in
      ap (λ n. reach s (passed n) (history s (span.date + 1)) variable) next
      ∙ LooksBack.reached (looks_at u low high less) variable look (subst (λ n. IsLookIn s plan.code r n look) (sym (units_passed u low)) is)

  pub reaches_first : (variable : ℕ) → reaches_by begun variable ≡ reach s turns (history s (span.date + 1)) variable
  reaches_first variable = let none : begun - begun ≡ 0 = omega arith in ap (λ n. reach s (passed n) (history s (span.date + 1)) variable) none

  pub reaches_then : (n variable : ℕ) → reaches_by (begun + n) variable ≡ reach s (passed n) (history s (span.date + 1)) variable
  reaches_then n variable = let so : begun + n - begun ≡ n = omega arith in ap (λ n. reach s (passed n) (history s (span.date + 1)) variable) so

  -- what the eyes see at first
  pub may_see : (scene : Sight) → scene ≡ sight_in plan.unit rings queues span.agent seat.start span.date → MayGoOn s plan.code r begun (begun + span.most) seat.start span.date runner.machine scene taken outbox
  may_see scene is = subst (λ x. MayGoOn s plan.code r begun (begun + span.most) seat.start span.date runner.machine x taken outbox) (sym is) may_go_on

  pub charged_at : runner.charge ≡ charge_after s r begun
  charged_at = given.given.has.stands.charged

  pub count_fits : runner.figure.count ≤ 2 ^ 50 + plan.until
  count_fits = count_few s plan.code own plan.until span.date span.cycle span.agent r before given.given.gets runner.figure given.given.has.stands.counted given.given.has.stands.slacked

  -- behind them
  module _ (inside : (span.date < plan.until) × (span.cycle + span.most ≤ (span.date + 1) * plan.unit.quantum)) (n : ℕ) (count : (1 ≤ n) × (n ≤ span.most)) where
    pub early_enough : span.cycle + n ≤ r.deadline * plan.unit.quantum
    early_enough =
        let a = given.given.gets.later in
        let m = mul-le (span.date + 1) plan.unit.quantum r.deadline plan.unit.quantum (omega (arith, a)) (omega arith) in
        omega (arith, m, count, inside.1)

    module _ (runner' : Runner) (is_of : IsOf plan.code runner'.machine) where
      abbrev pub After : Gone → Type 0
      After result = AfterCycles s plan.code r begun n result runner'.charge runner'.machine

      abbrev pub Has : Option ℕ → Seat → List ℤ → Type 0
      Has waits' seat' ended' = OneStands s plan.code (many r own n) plan.until span.date span.agent (r ∷ before) runner' waits' seat' ended'

      going_has : runner'.figure ≡ runner.figure → After gone.Going → Has waits seat ended
      going_has same a = many_going s plan.code own plan.until span.date span.cycle span.agent r before given.given.gets span.most inside.0 inside.1 runner waits seat ended given.given.has n count.0 count.1 runner' is_of same a

      -- with the seat and the copies that it has where it is over
      module _ (seat' : Seat) (ended' : List ℤ) (figure_is : runner'.figure ≡ figured plan.until plan.unit.quantum seat'.deadline (span.cycle + n) runner.figure) where
        -- the figure by its deadline
        figure_due : (x : Seat) → seat' ≡ x → x.deadline ≡ seat.deadline → runner'.figure ≡ figured plan.until plan.unit.quantum r.deadline (span.cycle + n) runner.figure
        figure_due x seat_is same = figure_is ∙ ap (λ deadline. figured plan.until plan.unit.quantum deadline (span.cycle + n) runner.figure) (ap (λ (z : Seat). z.deadline) seat_is ∙ same ∙ given.given.has.seated.deadline)

        ended_has : (point end : ℕ) → end ≡ end_date (timing s span.agent) seat.start point → After (gone.Ended point) → seat' ≡ record seat { phase = phase.Ended; end = end; reached = point }
            → ((variable : ℕ) (v : VarDecl) (value : ℤ) → slice_get plan.unit.variables variable ≡ Some v → v.owner ≡ Some span.agent → slice_get ended' variable ≡ Some value → copy_of variable runner'.machine.machine.copies ≡ Some value)
            → Has None seat' ended'
        ended_has point end end_is a seat_is copies =
            subst (λ z. Has None z ended') (sym seat_is)
            (many_ended s plan.code own plan.until span.date span.cycle span.agent r before given.given.gets span.most inside.0 inside.1 runner waits seat ended given.given.has n count.0 count.1 runner' is_of (figure_due (record seat { phase = phase.Ended; end = end; reached = point }) seat_is refl) point end ended'
            (end_is ∙ ap (λ start. end_date (timing s span.agent) start point) given.given.has.seated.start) a copies)

        stopped_has : (trap : Option Trap) → seat' ≡ record seat { phase = phase.Stopped; trap = trap } → ended' ≡ ended → Has None (record seat { phase = phase.Stopped; trap = trap }) ended → Has None seat' ended'
        stopped_has trap seat_is copies has =
            subst (λ z. Has None z ended') (sym seat_is) (subst (Has None (record seat { phase = phase.Stopped; trap = trap })) (sym copies) has)

        trapped_has : (kind : Trap) → After (gone.Trapped kind) → seat' ≡ record seat { phase = phase.Stopped; trap = Some kind } → ended' ≡ ended → Has None seat' ended'
        trapped_has kind a seat_is copies =
            stopped_has (Some kind) seat_is copies
            (many_trapped s plan.code own plan.until span.date span.cycle span.agent r before given.given.gets span.most inside.0 inside.1 runner waits seat ended given.given.has n count.0 count.1 runner' is_of (figure_due (record seat { phase = phase.Stopped; trap = Some kind }) seat_is refl) kind a)

        spent_has : After gone.Spent → seat' ≡ record seat { phase = phase.Stopped; trap = None } → ended' ≡ ended → Has None seat' ended'
        spent_has a seat_is copies =
            stopped_has None seat_is copies
            (many_spent s plan.code own plan.until span.date span.cycle span.agent r before given.given.gets span.most inside.0 inside.1 runner waits seat ended given.given.has n count.0 count.1 runner' is_of (figure_due (record seat { phase = phase.Stopped; trap = None }) seat_is refl) a)

      -- where it reached a point
      end_may : (point : ℕ) → After (gone.Ended point) → (nexts : List (List ℕ)) × MayEnd (timing_of plan.unit (agent_at plan.unit span.agent) nexts) seat.start point
      end_may point a = (get_or plan.nexts span.agent [], subst (λ start. MayEnd (timing s span.agent) start point) (sym given.given.has.seated.start) (given.given.gets.ends point a.gone.1 a.gone.2).1)

      copies_may : (point : ℕ) → After (gone.Ended point) → (variable : ℕ) (v : VarDecl) → slice_get plan.unit.variables variable ≡ Some v → v.owner ≡ Some span.agent → IsSome (copy_of variable runner'.machine.machine.copies)
      copies_may point a variable v at owned = a.gone.4 variable v at (owned ∙ ap Some (sym given.given.gets.agent_is))

      boxed_then : (result : Gone) → After result → (sends : List Sent) (taken' : List ℕ) → HasDoneIn s plan.code r begun n sends taken' result → BoxStands s plan.code (many r own n) span.date span.agent (r ∷ before) sends taken'
      boxed_then result a sends taken' did =
          many_boxed s plan.code own plan.until span.date span.cycle span.agent r before given.given.gets span.most inside.0 inside.1 runner waits seat ended given.given.has n count.0 count.1 runner' is_of sends taken' result a did

      pending_then : (result : Gone) → After result → (k : ℕ) → k < n → is_pending (many r own k) r ≡ true
      pending_then result a = many_pending s plan.code own plan.until span.date span.cycle span.agent r before given.given.gets span.most inside.0 inside.1 runner waits seat ended given.given.has n count.0 count.1 runner' is_of result a

      on_then : After gone.Going → is_pending (many r own n) r ≡ true
      on_then a = many_on s plan.code own plan.until span.date span.cycle span.agent r before given.given.gets span.most inside.0 inside.1 runner waits seat ended given.given.has n count.0 count.1 runner' is_of a

      off_then : (result : Gone) → (result ≡ gone.Going → ⊥) → After result → is_pending (many r own n) r ≡ false
      off_then gone.Going other a = absurd (other refl)
      off_then (gone.Ended point) other a = is_over r own n (let h = a.gone.0 in omega (arith, h, count.0))
      off_then (gone.Trapped kind) other a = is_over r own n (let h = a.gone.0 in omega (arith, h, count.0))
      off_then gone.Spent other a = is_over r own n (let h = a.gone.0 in omega (arith, h, count.0))

    -- the rings are reached for
    reached_then : (reaches' reaches'' : List (Option ℕ)) → ((reach : ℕ → ℕ → Option ℕ) → AreReaches s plan.code r begun (begun + span.most) span.date reach → (variable : ℕ) → slice_get reaches' variable ≡ Some (reach begun variable)
        → slice_get reaches'' variable ≡ Some (reach (begun + n) variable))
        → (variable : ℕ) → slice_get reaches' variable ≡ Some (reach s turns (history s (span.date + 1)) variable) → slice_get reaches'' variable ≡ Some (reach s (passed n) (history s (span.date + 1)) variable)
    reached_then reaches' reaches'' law variable at = law reaches_by are_reaches variable (at ∙ ap Some (sym (reaches_first variable))) ∙ ap Some (reaches_then n variable)

    -- all that they leave
    module _ (runner' : Runner) (is_of : IsOf plan.code runner'.machine) (same : runner'.figure ≡ runner.figure) {result : Gone} (sends : List Sent) (taken' : List ℕ) {reaches' reaches'' : List (Option ℕ)}
        (passes : Passes s plan.code r begun span.most span.date n result runner'.charge runner'.machine sends taken' reaches' reaches'') where
      came : (known : Gone) → result ≡ known → After runner' is_of known
      came known is = subst (After runner' is_of) is passes.after

      pub end_passes : (point : ℕ) → result ≡ gone.Ended point → (nexts : List (List ℕ)) × MayEnd (timing_of plan.unit (agent_at plan.unit span.agent) nexts) seat.start point
      end_passes point is = end_may runner' is_of point (came (gone.Ended point) is)

      pub copies_pass : (point : ℕ) → result ≡ gone.Ended point → (variable : ℕ) (v : VarDecl) → slice_get plan.unit.variables variable ≡ Some v → v.owner ≡ Some span.agent → IsSome (copy_of variable runner'.machine.machine.copies)
      copies_pass point is = copies_may runner' is_of point (came (gone.Ended point) is)

      -- what the eyes hold last is what they leave
      module _ (sends' : List Sent) (taken'' : List ℕ) (sent : sends ≡ sends') (took : taken' ≡ taken'') where
        abbrev Leaves : Bool → Runner → Seat → List ℤ → Type 0
        Leaves goes now seat' ended' = Lasts plan opening inputs stalls turns span.date span.agent r before waits n goes now seat' ended' sends' taken'' reaches' reaches''

        lasting : (goes : Bool) (figure' : Figure) (seat' : Seat) (ended' : List ℤ) → is_pending (many r own n) r ≡ goes → Has (record runner' { figure = figure' }) is_of (if goes then waits else None) seat' ended'
            → Leaves goes (record runner' { figure = figure' }) seat' ended'
        lasting goes figure' seat' ended' on has = record {
          pends = pending_then runner' is_of result passes.after;
          is_on = on;
          has = has;
          boxed = subst (λ ss. BoxStands s plan.code (many r own n) span.date span.agent (r ∷ before) ss taken'') sent
              (subst (BoxStands s plan.code (many r own n) span.date span.agent (r ∷ before) sends) took (boxed_then runner' is_of result passes.after sends taken' passes.did));
          reached = reached_then reaches' reaches'' passes.reached;
        }

        pub lasts_on : result ≡ gone.Going → Leaves true runner' seat ended
        lasts_on is = lasting true runner'.figure seat ended (on_then runner' is_of (came gone.Going is)) (going_has runner' is_of same (came gone.Going is))

        -- with the figure, the seat and the copies that it has where it is over
        module _ (figure' : Figure) (seat' : Seat) (ended' : List ℤ) (figure_is : figure' ≡ figured plan.until plan.unit.quantum seat'.deadline (span.cycle + n) runner'.figure) where
          abbrev now : Runner
          now = record runner' { figure = figure' }

          -- the seat and the copies by what it came to
          abbrev pub IsOver : Gone → Type 0
          IsOver gone.Going = ⊥
          IsOver (gone.Ended point) = (end : ℕ) × (end ≡ end_date (timing s span.agent) seat.start point) × (seat' ≡ record seat { phase = phase.Ended; end = end; reached = point })
              × ((variable : ℕ) (v : VarDecl) (value : ℤ) → slice_get plan.unit.variables variable ≡ Some v → v.owner ≡ Some span.agent → slice_get ended' variable ≡ Some value → copy_of variable runner'.machine.machine.copies ≡ Some value)
          IsOver (gone.Trapped kind) = (seat' ≡ record seat { phase = phase.Stopped; trap = Some kind }) × (ended' ≡ ended)
          IsOver gone.Spent = (seat' ≡ record seat { phase = phase.Stopped; trap = None }) × (ended' ≡ ended)

          figure_then : figure' ≡ figured plan.until plan.unit.quantum seat'.deadline (span.cycle + n) runner.figure
          figure_then = figure_is ∙ ap (figured plan.until plan.unit.quantum seat'.deadline (span.cycle + n)) same

          isnt_on : (known : Gone) → IsOver known → known ≡ gone.Going → ⊥
          isnt_on gone.Going over e = over
          isnt_on (gone.Ended point) over e = cc
          isnt_on (gone.Trapped kind) over e = cc
          isnt_on gone.Spent over e = cc

          over_has : (known : Gone) → After runner' is_of known → IsOver known → Has now is_of None seat' ended'
          over_has gone.Going a over = absurd over
          over_has (gone.Ended point) a over = ended_has now is_of seat' ended' figure_then point over.0 over.1 a over.2 over.3
          over_has (gone.Trapped kind) a over = trapped_has now is_of seat' ended' figure_then kind a over.0 over.1
          over_has gone.Spent a over = spent_has now is_of seat' ended' figure_then a over.0 over.1

          pub lasts_over : (known : Gone) → result ≡ known → IsOver known → Leaves false now seat' ended'
          lasts_over known is over = lasting false figure' seat' ended' (off_then runner' is_of known (isnt_on known over) (came known is)) (over_has known (came known is) over)
