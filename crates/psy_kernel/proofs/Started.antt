-- An agent at a date: its next action starts, where it does so there, and else nothing changes.
use Rattle.std.proofs.Common.{◌≡◌, ◌⊎◌, ℤ, ℕ, zero, suc, ◌+◌, ◌-◌, ◌^◌, ◌<◌, ◌≤◌, ◌==◌, ◌&&◌, Bool, true, false, not, min, nat_le, if◌then◌else◌, List, [], ◌∷◌, map, filter, length, Option, Some, None, refl, sym, ap, subst, ◌∙◌, inl, inr, arith}
use Rattle.std.specs.List.{All, Contains}
use Rattle.std.proofs.lemmas.Bool.{eqb-true, eq-eqb, lt-ltb}
use Rattle.std.proofs.lemmas.Bool.Decides.{nat_tests}
use Rattle.std.proofs.lemmas.Option.{get_or_from_slice_get}
use Rattle.std.proofs.lemmas.List.Elements.{All-head}
use Rattle.psy_budget.specs.declared.charge.Stall.{Stall}
use Rattle.psy_budget.specs.declared.charge.Tick.{Tick}
use Rattle.psy_budget.specs.declared.charge.Tick.TheVariants as tick
use Rattle.psy_budget.specs.Charges.{Charged, after_start, after_tick, tick_of, ticked}
use Rattle.psy_code.specs.declared.code.Code.{Code}
use Rattle.psy_code.specs.Execution.{copy_from, run_code}
use Rattle.psy_machine.specs.Stepping.{AgentMachine, IsNew}
use Rattle.psy_tree.specs.declared.unit.Point.{Point}
use Rattle.psy_tree.specs.declared.unit.Unit.{Unit as Whole}
use Rattle.psy_history.specs.Actions.{Action, History, Next, Opening, System, Verdict, Done, Trapped, Overran, first_action, is_done, is_silent, next_by, next_of}
use Rattle.psy_meaning.specs.CodeWays.{agent_code_at}
use Rattle.psy_history.specs.Executors.{by_code, machine_at}
use Rattle.psy_tree.specs.Parts.{agent_at}
use Rattle.psy_history.specs.History.{action_of, history, with_start}
use Rattle.psy_history.specs.Schedule.{Turn, is_pending, units, work}
use Rattle.psy_history.specs.Summary.{due_by, due_count, least_slack}
use Rattle.psy_history.specs.Compiled.{coded}
use Rattle.psy_history.specs.Regular.{IsLawful, IsRegular, WereStarted, begun_by, first_number, number_of}
use Rattle.psy_dates.specs.declared.seat.Phase.TheVariants as phase
use Rattle.psy_dates.specs.declared.seat.Seat.{Seat}
use Rattle.psy_dates.specs.Standing.{IsSeated, SeatOf, phase_by}
use Rattle.psy_dates.proofs.lemmas.Begun.{AreBegun, seat_of_last}
use Rattle.psy_kernel.specs.declared.engine.Runner.{Runner}
use Rattle.psy_kernel.specs.Standing.{AgentStands, ChargeStands, IsAtEnd, IsRunning, MachineIn, MachineStands, charge_after, deadline_of, settled}
use Rattle.psy_kernel.specs.Starting.{budget_in, is_acting, starts_at}

-- ---- the charge

after_tick_keeps : (c : Charged) (t : Tick) → ((after_tick c t).stalls ≡ c.stalls) × ((after_tick c t).started ≡ c.started)
after_tick_keeps c tick.Paid = (refl, refl)
after_tick_keeps c tick.Stalled = (refl, refl)
after_tick_keeps c tick.Spent = (refl, refl)

ticked_keeps : (c : Charged) (n : ℕ) → ((ticked c n).stalls ≡ c.stalls) × ((ticked c n).started ≡ c.started)
ticked_keeps c zero = (refl, refl)
ticked_keeps c (suc n) =
    let here = after_tick_keeps (ticked c n) (tick_of (ticked c n)) in
    let before = ticked_keeps c n in
    (here.0 ∙ before.0, here.1 ∙ before.1)

-- ---- lists of actions

false_both : (b c : Bool) → c ≡ false → (b && c) ≡ false
false_both true c e = e
false_both false c e = refl

-- A pending action isn't settled
left_out : (p : Action → Bool) (r : Action) (rs : List Action) (b : Bool) → p r ≡ false → filter p (if b then r ∷ rs else rs) ≡ filter p rs
left_out p r rs true e = rw e refl
left_out p r rs false e = refl

pub settled_before : (turns : List (Option Turn)) (until : ℕ) (r : Action) (before : List Action) → is_pending turns r ≡ true → settled turns until (r ∷ before) ≡ settled turns until before
settled_before turns until r before e = left_out (λ q. not (is_pending turns q)) r (due_by until before) (nat_le r.deadline until) (ap not e)

-- ---- an agent without actions

-- It starts none.
pub none_starts : (quiet : Bool) (before date : ℕ) (turns : List (Option Turn)) (seat : Seat) → IsSeated quiet before date turns [] seat → starts_at date seat ≡ false
none_starts false before date turns seat waits = rw waits refl
none_starts true before date turns seat rests = let silent : seat.phase ≡ phase.Silent = rests.phase in rw silent refl

-- And it isn't acting.
none_acting : (quiet : Bool) (before date : ℕ) (turns : List (Option Turn)) (seat : Seat) → IsSeated quiet before date turns [] seat → seat.phase ≡ phase.Acting → ⊥
none_acting false before date turns seat waits acting = (let wrong : phase.Waiting ≡ phase.Acting = sym waits ∙ acting in cc)
none_acting true before date turns seat rests acting = (let wrong : phase.Silent ≡ phase.Acting = sym rests.phase ∙ acting in cc)

-- ---- what a history gets at a date

module _ (s : System) where
  -- the next action starts, or nothing does
  pub grown_by : (h : History) (date agent : ℕ) (actions : List Action) (next : Option Next) → (with_start s h date agent actions next ≡ actions) ⊎ ((n : Next) × (next ≡ Some n) × (n.start ≡ date) × (with_start s h date agent actions next ≡ action_of s h agent n ∷ actions))
  grown_by h date agent actions None = inl refl
  grown_by h date agent actions (Some n) = by_test (n.start == date) refl
    where
      by_test : (b : Bool) → (n.start == date) ≡ b → (with_start s h date agent actions (Some n) ≡ actions) ⊎ ((m : Next) × (Some n ≡ Some m) × (m.start ≡ date) × (with_start s h date agent actions (Some n) ≡ action_of s h agent m ∷ actions))
      by_test true e = inr (n, refl, eqb-true n.start date e, rw e refl)
      by_test false e = inl (rw e refl)

  -- The seat of an agent with these actions, behind so many cycles of a date
  abbrev pub Sits : ℕ → List (Option Turn) → ℕ → List Action → Seat → Type 0
  Sits date turns agent actions seat = IsSeated (s.opening.silent agent) s.opening.dates date turns actions seat

  pub last_sits : (date agent : ℕ) (turns : List (Option Turn)) (r : Action) (before : List Action) (seat : Seat) → Sits date turns agent (r ∷ before) seat → SeatOf date turns r seat
  last_sits date agent turns r before seat h = seat_of_last (s.opening.silent agent) s.opening.dates date turns r before seat h

  pub not_starting : (date agent : ℕ) (turns : List (Option Turn)) (seat : Seat) (actions : List Action) → WereStarted s date agent actions → Sits date turns agent actions seat → starts_at date seat ≡ false
  not_starting date agent turns seat [] w h = none_starts (s.opening.silent agent) s.opening.dates date turns seat h
  not_starting date agent turns seat (r ∷ before) w h =
      let of = last_sits date agent turns r before seat h in
      let early : w.0.next.start < date = w.0.at in
      let start : seat.start ≡ w.0.next.start = of.start ∙ ap (λ (q : Action). q.start) w.0.made in
      let other : (seat.start == date) ≡ false = grind (arith, nat_tests, early, start) in
      false_both (is_acting seat.phase) (seat.start == date) other

-- ---- where a pending action starts

pub starting : (date : ℕ) (turns : List (Option Turn)) (r : Action) (seat : Seat) → SeatOf date turns r seat → r.start ≡ date → r.start < r.deadline → is_pending turns r ≡ true → starts_at date seat ≡ true
starting date turns r seat h at due pends =
    let early : nat_le r.deadline date ≡ false = grind (arith, nat_tests, at, due) in
    let silent : is_silent date (r ∷ []) ≡ false = false_both (not (is_done r.verdict)) (nat_le r.deadline date) early in
    let acts : seat.phase ≡ phase.Acting = h.phase ∙ rw (silent, pends) refl in
    let now : (seat.start == date) ≡ true = eq-eqb seat.start date (h.start ∙ at) in
    rw (acts, now) refl

pub pends : (turns : List (Option Turn)) (r : Action) → units r.agent r.number turns ≡ 0 → 1 ≤ r.budget → 1 ≤ r.charge → is_pending turns r ≡ true
pends turns r none budget charge = lt-ltb (units r.agent r.number turns) (work r) (omega (arith, none, budget, charge))

-- ---- where the machine stands

module _ (unit : Whole) (code : Code) (nexts : List (List (List ℕ))) (opening : Opening) (stalls : ℕ → List Stall) (inputs : List (List ℤ)) where
  abbrev of_code : System
  of_code = record (coded unit code nexts stalls inputs) { opening = opening }

  pub begins_first : (agent : ℕ) (machine : AgentMachine) (n : Next) → IsNew code agent machine → first_action unit nexts (by_code code) agent ≡ n → machine.machine ≡ machine_at (agent_code_at code agent) n.point n.carried
  begins_first agent machine n new first =
      let its = new.0 in
      let at : agent_code_at code agent ≡ its = get_or_from_slice_get code.agents agent its (record { points = []; cells = []; counters = 0; copies = []; stack = 0; frames = 0 }) new.1 in
      let stands : machine.machine ≡ machine_at (agent_code_at code agent) 0 (record { cells = (agent_code_at code agent).cells; copies = map copy_from (agent_code_at code agent).copies }) = rw at new.3 in
      stands ∙ ap (λ (m : Next). machine_at (agent_code_at code agent) m.point m.carried) first

  begins_later : (r : Action) (machine : AgentMachine) (n : Next) (v : Verdict) → next_by r.number r.after v ≡ Some n → IsAtEnd code r v machine → machine.machine ≡ machine_at (agent_code_at code r.agent) n.point n.carried
  begins_later r machine n (Done point end) e h =
      let is : record { number = r.number + 1; point = point; start = end; carried = r.after } ≡ n = cc in
      h ∙ ap (λ (m : Next). machine_at (agent_code_at code r.agent) m.point m.carried) is
  begins_later r machine n (Trapped kind) e h = absurd (cc)
  begins_later r machine n Overran e h = absurd (cc)

  -- ---- the agent

  module _ (date until agent : ℕ) (turns : List (Option Turn)) (lawful : IsLawful of_code) (opens : AreBegun of_code date) (small : date ≤ 2 ^ 32)
      (unstarted : (number : ℕ) → first_number of_code agent + length (history of_code date agent) ≤ number → units agent number turns ≡ 0)
      (in_time : (r : Action) → Contains (history of_code date agent) r → r.deadline ≤ date → is_pending turns r ≡ false) where
    abbrev actions : List Action
    actions = history of_code date agent

    -- a silent agent starts none
    loud : (n : Next) → next_of of_code agent actions ≡ Some n → opening.silent agent ≡ false
    loud n next = by (opening.silent agent) refl
      where
        by : (quiet : Bool) → opening.silent agent ≡ quiet → quiet ≡ false
        by false e = refl
        by true e = (let none : next_of of_code agent actions ≡ None = ap (next_of of_code agent) (opens.silent date agent e) ∙ opens.unstarted agent e in let wrong : None ≡ Some n = sym none ∙ next in absurd cc)

    -- an agent without actions begins as in a whole run
    first_of : actions ≡ [] → opening.silent agent ≡ false → (n : Next) → next_of of_code agent [] ≡ Some n → first_action unit nexts (by_code code) agent ≡ n
    first_of none talks n e =
        let begins : opening.starts agent ≡ Some (first_action unit nexts (by_code code) agent) = opens.waits agent (lawful.opening agent n e).0 talks none in
        let both : Some (first_action unit nexts (by_code code) agent) ≡ Some n = sym begins ∙ e in
        cc

    -- the last action is over where the next one starts at this date
    over_by : (r : Action) (before : List Action) (n : Next) (v : Verdict) → actions ≡ r ∷ before → IsRegular of_code agent r → r.verdict ≡ v → next_by r.number r.after v ≡ Some n → n.start ≡ date → is_pending turns r ≡ false
    over_by r before n (Done point end) is regular v e at =
        let next : record { number = r.number + 1; point = point; start = end; carried = r.after } ≡ n = cc in
        let ends : end ≡ n.start = ap (λ (m : Next). m.start) next in
        let due : r.deadline ≤ end = (regular.ends point end v).2 in
        let has : Contains (r ∷ before) r = (0, omega arith, refl) in
        in_time r (subst (λ rs. Contains rs r) (sym is) has) (omega (arith, due, ends, at))
    over_by r before n (Trapped kind) is regular v e at = absurd (cc)
    over_by r before n Overran is regular v e at = absurd (cc)

    waits_none : (rs : List Action) (n : Next) → actions ≡ rs → next_of of_code agent rs ≡ Some n → n.start ≡ date → deadline_of turns rs ≡ None
    waits_none [] n is e at = refl
    waits_none (r ∷ before) n is e at =
        let regular = All-head (IsRegular of_code agent) r before (subst (All (IsRegular of_code agent)) is (lawful.actions date agent).each) in
        rw (over_by r before n r.verdict is regular refl e at) refl

    stands_at : (rs : List Action) (machine : AgentMachine) (n : Next) → actions ≡ rs → MachineStands of_code code turns agent rs machine → next_of of_code agent rs ≡ Some n → n.start ≡ date → machine.machine ≡ machine_at (agent_code_at code agent) n.point n.carried
    stands_at [] machine n is h e at =
        let talks : opening.silent agent ≡ false = loud n (ap (next_of of_code agent) is ∙ e) in
        begins_first agent machine n (h talks) (first_of is talks n e)
    stands_at (r ∷ before) machine n is h e at =
        let regular = All-head (IsRegular of_code agent) r before (subst (All (IsRegular of_code agent)) is (lawful.actions date agent).each) in
        let over = over_by r before n r.verdict is regular refl e at in
        let ended : IsAtEnd code r r.verdict machine = subst (λ b. MachineIn of_code code turns r b machine) over h in
        begins_later r machine n r.verdict e ended ∙ ap (λ k. machine_at (agent_code_at code k) n.point n.carried) regular.agent_is

    charge_counts : (rs : List Action) (charge : Charged) (n : Next) → actions ≡ rs → next_of of_code agent rs ≡ Some n → ChargeStands of_code turns agent rs charge → (charge.stalls ≡ stalls agent) × (charge.started ≡ first_number of_code agent + length rs)
    charge_counts [] charge n is next h =
        let talks : opening.silent agent ≡ false = loud n (ap (next_of of_code agent) is ∙ next) in
        let zero_first : first_number of_code agent ≡ 0 = ap number_of next ∙ ap (λ (m : Next). m.number) (sym (first_of is talks n next)) in
        let none : charge.started ≡ 0 = ap (λ (c : Charged). c.started) (h talks) in
        (ap (λ (c : Charged). c.stalls) (h talks), omega (arith, none, zero_first))
    charge_counts (r ∷ before) charge n is next h =
        let regular = All-head (IsRegular of_code agent) r before (subst (All (IsRegular of_code agent)) is (lawful.actions date agent).each) in
        let started = subst (WereStarted of_code date agent) is (lawful.actions date agent).were_started in
        let had = units r.agent r.number turns in
        let kept = ticked_keeps (record { stalls = stalls r.agent; started = r.number + 1; budget = r.budget; consumed = 0; paid = 0 }) had in
        (ap (λ (c : Charged). c.stalls) h ∙ kept.0 ∙ ap stalls regular.agent_is, ap (λ (c : Charged). c.started) h ∙ kept.1 ∙ omega (arith, started.0.number))

    -- ---- the next action starts

    begun : (n : Next) (runner : Runner) (waits : Option ℕ) (budget : ℕ) → next_of of_code agent actions ≡ Some n → n.start ≡ date
        → history of_code (suc date) agent ≡ action_of of_code (history of_code date) agent n ∷ actions
        → budget ≡ (action_of of_code (history of_code date) agent n).budget
        → AgentStands of_code code turns until agent actions runner waits
        → AgentStands of_code code turns until agent (action_of of_code (history of_code date) agent n ∷ actions) (record runner { charge = after_start runner.charge budget }) (Some (action_of of_code (history of_code date) agent n).deadline)
    begun n runner waits budget next at grew its_budget h =
        let r = action_of of_code (history of_code date) agent n in
        let regular = All-head (IsRegular of_code agent) r actions (subst (All (IsRegular of_code agent)) grew (lawful.actions (suc date) agent).each) in
        let started = (subst (WereStarted of_code (suc date) agent) grew (lawful.actions (suc date) agent).were_started).0 in
        let none : units agent r.number turns ≡ 0 = unstarted r.number (omega (arith, started.number)) in
        let number : r.number ≡ first_number of_code agent + length actions = omega (arith, started.number) in
        let pending : is_pending turns r ≡ true = pends turns r none regular.granted regular.charged in
        let counts = charge_counts actions runner.charge n refl next h.charged in
        let low : first_number of_code agent ≤ 1000000 = opens.numbers agent in
        let few : length actions ≤ date = (lawful.actions date agent).few in
        let total : min (runner.charge.started + 1) (2 ^ 64 - 1) ≡ r.number + 1 = omega (arith, counts.1, number, few, small, low) in
        let fresh : after_start runner.charge budget ≡ charge_after of_code r 0 = cc (counts.0, total, its_budget) in
        let its = agent_code_at code agent in
        let running : IsRunning code r (charge_after of_code r (units agent r.number turns)).paid runner.machine =
        (begun_by its r, ap (λ had. run_code code its (begun_by its r) (charge_after of_code r had).paid) none, sym (stands_at actions runner.machine n refl h.executes next at)) in
        let same = settled_before turns until r actions pending in
        record {
          charged = fresh ∙ ap (charge_after of_code r) (sym none);
          is_agent = h.is_agent;
          of_code = h.of_code;
          executes = subst (λ b. MachineIn of_code code turns r b runner.machine) (sym pending) running;
          ready = rw pending refl;
          counted = h.counted ∙ ap (due_count of_code agent) (sym same);
          slacked = h.slacked ∙ ap (least_slack of_code turns agent) (sym same);
        }

    -- ---- by the seat behind the date

    abbrev grown : Type 0
    grown = (history of_code (suc date) agent ≡ actions) ⊎ ((n : Next) × (next_of of_code agent actions ≡ Some n) × (n.start ≡ date) × (history of_code (suc date) agent ≡ action_of of_code (history of_code date) agent n ∷ actions))

    grows : grown
    grows = grown_by of_code (history of_code date) date agent actions (next_of of_code agent actions)

    stays : (seat : Seat) → Sits of_code date turns agent (history of_code (suc date) agent) seat → history of_code (suc date) agent ≡ actions → starts_at date seat ≡ false
    stays seat h same = not_starting of_code date agent turns seat actions (lawful.actions date agent).were_started (subst (λ rs. Sits of_code date turns agent rs seat) same h)

    acts : (seat : Seat) (n : Next) → Sits of_code date turns agent (history of_code (suc date) agent) seat → n.start ≡ date → history of_code (suc date) agent ≡ action_of of_code (history of_code date) agent n ∷ actions → starts_at date seat ≡ true
    acts seat n h at grew =
        let r = action_of of_code (history of_code date) agent n in
        let seat_of : SeatOf date turns r seat = last_sits of_code date agent turns r actions seat (subst (λ rs. Sits of_code date turns agent rs seat) grew h) in
        let regular = All-head (IsRegular of_code agent) r actions (subst (All (IsRegular of_code agent)) grew (lawful.actions (suc date) agent).each) in
        let started = (subst (WereStarted of_code (suc date) agent) grew (lawful.actions (suc date) agent).were_started).0 in
        let none : units agent r.number turns ≡ 0 = unstarted r.number (omega (arith, started.number)) in
        starting date turns r seat seat_of at regular.due (pends turns r none regular.granted regular.charged)

    -- an agent whose action starts wasn't waiting
    pub free_where : (seat : Seat) → Sits of_code date turns agent (history of_code (suc date) agent) seat → starts_at date seat ≡ true → deadline_of turns actions ≡ None
    free_where seat h starts = elim grows [
      | inl same ↦ (let none = stays seat h same in absurd (cc))
      | inr grew ↦ waits_none actions grew.0 refl grew.1 grew.2
    ]

    abbrev points : List Point
    points = (agent_at unit agent).points

    abbrev Behind : Seat → Runner → Option ℕ → List Action → Bool → Type 0
    Behind seat runner waits rs b =
        AgentStands of_code code turns until agent rs (record runner { charge = if b then after_start runner.charge (budget_in points seat.point) else runner.charge }) (if b then Some seat.deadline else waits)

    pub agent_after : (seat : Seat) (runner : Runner) (waits : Option ℕ) → Sits of_code date turns agent (history of_code (suc date) agent) seat → AgentStands of_code code turns until agent actions runner waits
        → Behind seat runner waits (history of_code (suc date) agent) (starts_at date seat)
    agent_after seat runner waits h stands = elim grows [
      | inl same ↦ subst (Behind seat runner waits (history of_code (suc date) agent)) (sym (stays seat h same)) (subst (λ rs. AgentStands of_code code turns until agent rs runner waits) (sym same) stands)
      | inr grew ↦ (
          let n = grew.0 in
          let r = action_of of_code (history of_code date) agent n in
          let seat_of : SeatOf date turns r seat = last_sits of_code date agent turns r actions seat (subst (λ rs. Sits of_code date turns agent rs seat) grew.3 h) in
          let next : Runner = record runner { charge = after_start runner.charge (budget_in points seat.point) } in
          let new = begun n runner waits (budget_in points seat.point) grew.1 grew.2 grew.3 (ap (budget_in points) seat_of.point) stands in
          let due : AgentStands of_code code turns until agent (r ∷ actions) next (Some seat.deadline) = subst (λ d. AgentStands of_code code turns until agent (r ∷ actions) next (Some d)) (sym seat_of.deadline) new in
          subst (Behind seat runner waits (history of_code (suc date) agent)) (sym (acts seat n h grew.2 grew.3)) (subst (λ rs. AgentStands of_code code turns until agent rs next (Some seat.deadline)) (sym grew.3) due))
    ]

    -- no action that is due is pending
    pub none_acts : (seat : Seat) (by : ℕ) → Sits of_code by turns agent actions seat → seat.deadline ≤ date → seat.phase ≡ phase.Acting → ⊥
    none_acts seat by h due acting = from actions refl h
      where
        idle : (silent done : Bool) → phase_by silent false done ≡ phase.Acting → ⊥
        idle true done e = cc
        idle false true e = cc
        idle false false e = cc

        from : (rs : List Action) → actions ≡ rs → Sits of_code by turns agent rs seat → ⊥
        from [] is stands = none_acting (opening.silent agent) opening.dates by turns seat stands acting
        from (r ∷ before) is sits =
            let stands = last_sits of_code by agent turns r before seat sits in
            let has : Contains (r ∷ before) r = (0, omega arith, refl) in
            let over = in_time r (subst (λ rs. Contains rs r) (sym is) has) (omega (arith, due, stands.deadline)) in
            idle (is_silent by (r ∷ [])) (is_done r.verdict) (subst (λ b. phase_by (is_silent by (r ∷ [])) b (is_done r.verdict) ≡ phase.Acting) over (sym stands.phase ∙ acting))
