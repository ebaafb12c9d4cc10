-- A processor after the cycles in a row that its chosen agent gets, or nobody.
use Rattle.std.proofs.Common.{◌≡◌, ◌≢◌, Vec, Global, refl, sym, ap, ◌∙◌, subst, inl, inr, arith}
use Rattle.std.specs.Prelude.{ℕ, suc, ◌+◌, ◌-◌, ◌*◌, ◌<◌, ◌≤◌, Bool, true, false, if◌then◌else◌, List, ◌∷◌, length, get_or, Option, Some, None, slice_get, slice_set, ℤ}
use Rattle.std.specs.List.{All, Contains}
use Rattle.std.proofs.lemmas.Bool.{cases_eq, cases_lt, true≢false}
use Rattle.std.proofs.lemmas.List.Elements.{All-contains, All-weaker}
use Rattle.std.proofs.lemmas.Option.{same_Some, slice_get-get_or, slice_get_within}
use Rattle.psy_dates.specs.declared.seat.Seat.{Seat}
use Rattle.psy_dates.specs.declared.movers.Movers.{Movers}
use Rattle.psy_dates.specs.declared.shared.Shared.{Shared}
use Rattle.psy_dates.specs.Outboxes.{Outboxed}
use Rattle.psy_dates.specs.Standing.{dates_done}
use Rattle.psy_history.specs.Regular.{AreRegular, IsLawful, IsRegular}
use Rattle.psy_history.specs.Actions.{Action}
use Rattle.psy_history.specs.History.{history}
use Rattle.psy_history.specs.Processors.{processor_at, served}
use Rattle.psy_history.specs.Schedule.{Turn, is_pending, pending, soonest, turn_of, units}
use Rattle.psy_history.specs.Scheduled.{turns_of}
use Rattle.psy_history.specs.Summary.{reach}
use Rattle.psy_ready.specs.Choice.{IsPick, pending_deadline}
use Rattle.psy_tree.specs.declared.unit.StreamDecl.{StreamDecl}
use Rattle.psy_tree.specs.declared.unit.VarDecl.{VarDecl}
use Rattle.psy_kernel.specs.Cycles.{ActsIn, AreOver, AreQueuesOf, AreRingsOf, BoxStands, GetsCycle, IsGiven, LooksBack, OneStands}
use Rattle.psy_kernel.specs.Engines.{IsOverOn}
use Rattle.psy_kernel.specs.declared.engine.Engine.TheInside.{Inside}
use Rattle.psy_kernel.specs.declared.engine.Runner.{Runner}
use Rattle.psy_kernel.specs.declared.engine.Server.{Server}
use Rattle.psy_history.specs.declared.told.Order.{Order}
use Rattle.psy_history.specs.Scripts.{stalls_of}
use Rattle.psy_kernel.specs.Seeing.{sight_in}
use Rattle.psy_kernel.specs.Standing.{DeedsStand, EngineStands, HasDone, IsChosen, ServerStands, charge_after, state_of, waits_on}
use Rattle.psy_kernel.specs.Stretches.{Lasts, MayLast, given_on, given_to}
use Rattle.psy_kernel.proofs.Engines.{HaveGone, IsDue, gone_turns, opening_in, order_in, order_until, other_waits, own_turns, own_waits, parts_in, run_in, stands_gone, turns_in, turns_with, waits_there}
use Rattle.psy_kernel.proofs.GivenCycles.{StaysSo, idle_reach, in_a_row, missed_all, own_given, own_stay, same_stays, was_pending}
use Rattle.psy_kernel.proofs.OtherAgents.{other_agent}
use Rattle.psy_kernel.proofs.MoversGiven.{IsTold}
use Rattle.psy_kernel.proofs.Parts.{PartsStand, alike, given, idle, nobody_pending, nobody_soonest, one_of, pick_home, pick_known, pick_soonest, shared_given, waits_alike}
use Rattle.psy_kernel.proofs.Ticks.{IsInside}

last_date : (dates date : ℕ) → dates ≡ date + 1 → dates - 1 ≡ date
last_date dates date e = omega (arith, e)

module _ (k : Inside) (is : EngineStands k) (processor : ℕ) (server : Server) (d : IsDue k processor server) where
  abbrev dates : ℕ
  dates = dates_done k.shared.date

  abbrev date : ℕ
  date = d.date

  abbrev inside : IsInside k.plan.unit.quantum k.plan.until dates server.cycles date
  inside = d.inside

  abbrev lawful : IsLawful (run_in k)
  lawful = d.lawful

  abbrev order : List ℕ
  order = order_in k server.cycles

  -- what so many cycles of the processor go to
  abbrev all_in : ℕ → List (Option Turn)
  all_in cycles = turns_of (run_in k) (order_in k) cycles processor

  abbrev all : List (Option Turn)
  all = all_in server.cycles

  stands : ServerStands (state_of k) processor server
  stands = is.servers processor server d.there

  -- it is that of its own agents, which wait for it
  mine : (agent : ℕ) → processor_at k.plan.unit agent ≡ processor → turns_in k agent ≡ all
  mine = own_turns k is processor server d.there

  waits : (agent : ℕ) → processor_at k.plan.unit agent ≡ processor → waits_on k.plan.unit k.servers.items agent ≡ pending_deadline server.ready agent
  waits = waits_there k.plan.unit k.servers.items processor server d.there

  over_now : (agent : ℕ) → processor_at k.plan.unit agent ≡ processor → AreOver (turns_in k agent) (history (run_in k) dates agent)
  over_now agent of = subst (λ n. AreOver (turns_in k agent) (history (run_in k) n agent)) (sym inside.0) (d.over agent of)

  -- as long as the order and who is pending stay, its cycles go to what the first one does
  in_row : (turn : Option Turn) → turn_of (soonest (pending (served k.plan.unit processor order) all (history (run_in k) (date + 1)))) ≡ turn → (n : ℕ) → server.cycles + n ≤ (date + 1) * k.plan.unit.quantum
      → ((j : ℕ) → j < n → order_in k (server.cycles + j) ≡ order)
      → ((j : ℕ) → j < n → (agent : ℕ) → All (StaysSo all (given_to turn j all)) (history (run_in k) dates agent))
      → all_in (server.cycles + n) ≡ given_to turn n all
  in_row turn first n high orders stay =
      in_a_row (run_in k) (order_in k) processor date server.cycles inside.2 turn first n high orders
      (λ j below agent. subst (λ m. All (StaysSo all (given_to turn j all)) (history (run_in k) m agent)) inside.0 (stay j below agent))

  -- As long as who is pending stays, no action is over
  steady_on : (turn : Option Turn) (n : ℕ) → ((j : ℕ) → j ≤ n → all_in (server.cycles + j) ≡ given_to turn j all) → ((j : ℕ) → j ≤ n → (agent : ℕ) → All (StaysSo all (given_to turn j all)) (history (run_in k) dates agent))
      → (between : ℕ) → server.cycles < between → between ≤ server.cycles + n → IsOverOn (state_of k) processor between → ⊥
  steady_on turn n row stay between above below w =
      let r : Action = w.1 in
      let j : ℕ = between - 1 - server.cycles in
      let a : between - 1 ≡ server.cycles + j = omega (arith, above) in
      let b : between ≡ server.cycles + suc j = omega (arith, above) in
      let first : is_pending (all_in (between - 1)) r ≡ is_pending all r = ap (λ m. is_pending (all_in m) r) a ∙ ap (λ ts. is_pending ts r) (row j (omega (arith, above, below)))
      ∙ All-contains (StaysSo all (given_to turn j all)) (history (run_in k) dates w.0) r (stay j (omega (arith, above, below)) w.0) w.3 in
      let second : is_pending (all_in between) r ≡ is_pending all r = ap (λ m. is_pending (all_in m) r) b ∙ ap (λ ts. is_pending ts r) (row (suc j) (omega (arith, above, below)))
      ∙ All-contains (StaysSo all (given_to turn (suc j) all)) (history (run_in k) dates w.0) r (stay (suc j) (omega (arith, above, below)) w.0) w.3 in
      true≢false (sym w.4 ∙ first ∙ sym second ∙ w.5)

  steady : (turn : Option Turn) (n : ℕ) → ((j : ℕ) → j ≤ n → all_in (server.cycles + j) ≡ given_to turn j all) → ((j : ℕ) → j < n → (agent : ℕ) → All (StaysSo all (given_to turn j all)) (history (run_in k) dates agent))
      → (between : ℕ) → server.cycles < between → between < server.cycles + n → IsOverOn (state_of k) processor between → ⊥
  steady turn n row stay between above below =
      steady_on turn (n - 1) (λ j less. row j (omega (arith, less))) (λ j less. stay j (omega (arith, less, above, below))) between above (omega (arith, above, below))

  -- ---- nobody waits

  -- no action of its agents is pending
  pub nobody_acts : ((agent : ℕ) → pending_deadline server.ready agent ≡ None) → (agent : ℕ) (r : Action) → processor_at k.plan.unit agent ≡ processor → Contains (history (run_in k) dates agent) r → is_pending all r ≡ false
  nobody_acts nobody agent r of there =
      subst (λ ts. is_pending ts r ≡ false) (mine agent of)
      (All-contains (λ q. is_pending (turns_in k agent) q ≡ false) (history (run_in k) dates agent) r
      (nobody_pending (run_in k) k.plan.sizes k.plan.code k.plan.until (turns_in k) dates k.shared k.runners.items (waits_on k.plan.unit k.servers.items) (parts_in k is) lawful processor server.ready stands.waiting all waits stands.own mine over_now nobody agent of) there)

  -- none comes first
  pub nobody_first : IsChosen server.ready order None → soonest (pending (served k.plan.unit processor order) all (history (run_in k) (date + 1))) ≡ None
  nobody_first nobody =
      ap (λ m. soonest (pending (served k.plan.unit processor order) all (history (run_in k) m))) (sym inside.0)
      ∙ nobody_soonest (run_in k) k.plan.sizes k.plan.code k.plan.until (turns_in k) dates k.shared k.runners.items (waits_on k.plan.unit k.servers.items) (parts_in k is) lawful processor server.ready stands.waiting all waits stands.own mine over_now order nobody

  module _ (nobody : IsChosen server.ready order None) (n : ℕ) (high : server.cycles + n ≤ (date + 1) * k.plan.unit.quantum) (ahead : (o : Order) → slice_get k.script.orders server.passed ≡ Some o → server.cycles + n ≤ o.cycle) where
    idle_stay : (j agent : ℕ) → All (StaysSo all (given_to None j all)) (history (run_in k) dates agent)
    idle_stay j agent at other less = let r : Action = get_or (history (run_in k) dates agent) at other in same_stays all (given_to None j all) r (missed_all None all r refl j)

    -- the cycles go to nobody
    idle_row : (j : ℕ) → j ≤ n → all_in (server.cycles + j) ≡ given_to None j all
    idle_row j less =
        in_row None
        (ap turn_of (nobody_first nobody))
        j (omega (arith, high, less)) (λ i below. order_until k is processor server d.there n ahead i (omega (arith, below, less))) (λ i below. idle_stay i)

    module _ (next : Server) (servers : List Server) (gone : HaveGone k processor server next n servers) (ready_is : next.ready ≡ server.ready) where
      idle_turns : (agent : ℕ) → given_on k.plan.unit processor None n (turns_in k) agent ≡ turns_with k servers agent
      idle_turns = gone_turns k processor server next n servers gone None (λ agent of. idle_row n (omega arith) ∙ ap (given_to None n) (sym (mine agent of)))

      idle_waits : (agent : ℕ) → waits_on k.plan.unit k.servers.items agent ≡ waits_on k.plan.unit servers agent
      idle_waits agent = elim (cases_eq (processor_at k.plan.unit agent) processor) [
        | inl of ↦ waits agent of ∙ ap (λ ready. pending_deadline ready agent) (sym ready_is) ∙ sym (own_waits k processor server next n servers gone agent of)
        | inr differs ↦ sym (other_waits k processor server next n servers gone agent differs)
      ]

      pub idle_stands : (moved : Vec Server Global) → moved.items ≡ servers → EngineStands (record k { servers = moved })
      idle_stands moved moved_is =
          stands_gone k processor server next n servers gone is d high moved k.shared.movers k.shared.seats k.shared.ended k.shared.outboxes k.shared.taken k.runners k.reaches moved_is
          (waits_alike (run_in k) k.plan.sizes k.plan.code k.plan.until (turns_with k servers) dates k.shared k.runners.items (waits_on k.plan.unit k.servers.items)
          (alike (run_in k) k.plan.sizes k.plan.code k.plan.until (given_on k.plan.unit processor None n (turns_in k)) dates k.shared k.runners.items (waits_on k.plan.unit k.servers.items)
          (idle (run_in k) k.plan.sizes k.plan.code k.plan.until (turns_in k) dates k.shared k.runners.items (waits_on k.plan.unit k.servers.items) (parts_in k is) processor n) (turns_with k servers) idle_turns)
          (waits_on k.plan.unit servers) idle_waits)
          refl
          (λ variable m at. is.reached variable m at ∙ sym (idle_reach (run_in k) processor (turns_in k) (history (run_in k) dates) variable (λ ts. d.idle ts (history (run_in k) dates) processor variable) n)
          ∙ d.same (given_on k.plan.unit processor None n (turns_in k)) (turns_with k servers) (history (run_in k) dates) variable idle_turns)

    -- with none of them an action is over
    pub idle_steady : (between : ℕ) → server.cycles < between → between < server.cycles + n → IsOverOn (state_of k) processor between → ⊥
    idle_steady = steady None n idle_row (λ j below. idle_stay j)

    pub idle_on : 1 ≤ n → IsOverOn (state_of k) processor (server.cycles + n) → ⊥
    idle_on some = steady_on None n idle_row (λ j below. idle_stay j) (server.cycles + n) (omega (arith, some)) (omega arith)

  -- ---- an agent is chosen

  module _ (agent : ℕ) (pick : IsPick server.ready order agent) where
    -- it is one of the processor's
    pub home : processor_at k.plan.unit agent ≡ processor
    home = pick_home (run_in k) k.plan.sizes k.plan.code k.plan.until (turns_in k) dates k.shared k.runners.items (waits_on k.plan.unit k.servers.items) (parts_in k is) lawful processor server.ready stands.waiting all waits stands.own mine over_now order agent pick

    pub known : agent < length k.plan.unit.agents
    known = pick_known (run_in k) k.plan.sizes k.plan.code k.plan.until (turns_in k) dates k.shared k.runners.items (waits_on k.plan.unit k.servers.items) (parts_in k is) lawful processor server.ready stands.waiting all waits stands.own mine over_now order agent pick

    -- the last action of the agent gets the next cycle
    pub record Takes (r : Action) (before : List Action) : Type 0 where
      pub is_last : history (run_in k) dates agent ≡ r ∷ before
      pub comes_first : soonest (pending (served k.plan.unit processor order) all (history (run_in k) (date + 1))) ≡ Some r
      pub first : turn_of (soonest (pending (served k.plan.unit processor order) all (history (run_in k) (date + 1)))) ≡ turn_of (Some r)
      pub pending : is_pending (turns_in k agent) r ≡ true

    pub takes : (r : Action) × (before : List Action) × Takes r before
    takes =
        let w = pick_soonest (run_in k) k.plan.sizes k.plan.code k.plan.until (turns_in k) dates k.shared k.runners.items (waits_on k.plan.unit k.servers.items) (parts_in k is) lawful processor server.ready stands.waiting all waits stands.own mine over_now order agent pick in (
          w.0,
          w.1,
          record {
            is_last = w.2;
            comes_first = ap (λ m. soonest (pending (served k.plan.unit processor order) all (history (run_in k) m))) (sym inside.0) ∙ w.4;
            pending = subst (λ ts. is_pending ts w.0 ≡ true) (sym (mine agent home)) w.3;
            first = ap (λ m. turn_of (soonest (pending (served k.plan.unit processor order) all (history (run_in k) m)))) (sym inside.0) ∙ ap turn_of w.4;
          },
        )

    -- its deadline
    abbrev pub deadline : Option ℕ
    deadline = waits_on k.plan.unit k.servers.items agent

    pub deadline_is : deadline ≡ pending_deadline server.ready agent
    deadline_is = waits agent home

    -- the rings that it has
    pub rings_stand : AreRingsOf (run_in k) k.plan.sizes dates k.shared.rings.items
    rings_stand = (is.shared.ringed, is.shared.rings)

    -- the queues that it has
    pub queues_stand : AreQueuesOf (run_in k) k.plan.sizes dates k.shared.queues.items
    queues_stand = (is.shared.queued, is.shared.queues)

    module _ (r : Action) (before : List Action) (t : Takes r before) where
      last : history (run_in k) (date + 1) agent ≡ r ∷ before
      last = ap (λ n. history (run_in k) n agent) (sym inside.0) ∙ t.is_last

      pub gets : GetsCycle (run_in k) k.plan.code (turns_in k agent) k.plan.until date server.cycles agent r before
      gets = d.gets agent r before home last t.pending

      own_agent : r.agent ≡ agent
      own_agent = gets.agent_is

      own_home : processor_at k.plan.unit r.agent ≡ processor
      own_home = ap (processor_at k.plan.unit) own_agent ∙ home

      pub looks : LooksBack (run_in k) k.plan.sizes k.plan.code (turns_in k) date r
      looks = d.looks server.cycles agent r before (turns_in k) d.cycle (mine agent home ∙ ap (turns_of (run_in k) (order_in k) server.cycles) (sym home)) last t.pending

      -- what it has, and what it sees
      module _ (now : ℕ) (now_is : now ≡ dates - 1) (runner : Runner) (seat : Seat) (there : slice_get k.runners.items agent ≡ Some runner) (x : slice_get k.shared.seats.items agent ≡ Some seat) where
        one : OneStands (run_in k) k.plan.code (turns_in k agent) k.plan.until date agent (r ∷ before) runner deadline seat k.shared.ended.items
        one = one_of (run_in k) k.plan.sizes k.plan.code k.plan.until (turns_in k) dates k.shared k.runners.items (waits_on k.plan.unit k.servers.items) (parts_in k is) date agent r before (last_date dates date inside.0) t.is_last runner seat there x

        module _ (outbox : Outboxed) (o : slice_get k.shared.outboxes.items agent ≡ Some outbox) where
          -- what its action sees, and what it has done
          acts : ActsIn (run_in k) k.plan.code r (units r.agent r.number (turns_in k agent)) (sight_in k.plan.unit k.shared.rings.items k.shared.queues.items agent r.start date) k.shared.taken.items outbox
          acts =
              let size = (is.shared.outboxes agent outbox o).size ∙ ap (λ n. get_or k.plan.sizes.outboxes n 0) (sym own_agent) in
              let had : units r.agent r.number (turns_in k r.agent) ≡ units r.agent r.number (turns_in k agent) = ap (λ a. units r.agent r.number (turns_in k a)) own_agent in
              let did : HasDone (run_in k) k.plan.code r (charge_after (run_in k) r (units r.agent r.number (turns_in k agent))).paid outbox.sends k.shared.taken.items =
              subst (λ actions. DeedsStand (run_in k) k.plan.code (turns_in k agent) actions outbox.sends k.shared.taken.items) t.is_last (is.doing agent outbox o) t.pending in
              subst (λ n. ActsIn (run_in k) k.plan.code r (units r.agent r.number (turns_in k agent)) (sight_in k.plan.unit k.shared.rings.items k.shared.queues.items n r.start date) k.shared.taken.items outbox) own_agent
              (subst (λ u. ActsIn (run_in k) k.plan.code r u (sight_in k.plan.unit k.shared.rings.items k.shared.queues.items r.agent r.start date) k.shared.taken.items outbox) had
              (looks.acts k.shared.rings.items k.shared.queues.items k.shared.taken.items outbox (subst (λ n. AreRingsOf (run_in k) k.plan.sizes n k.shared.rings.items) inside.0 rings_stand) (subst (λ n. AreQueuesOf (run_in k) k.plan.sizes n k.shared.queues.items) inside.0 queues_stand)
              is.shared.taking size (subst (λ u. HasDone (run_in k) k.plan.code r (charge_after (run_in k) r u).paid outbox.sends k.shared.taken.items) (sym had) did)))

          pub is_given : IsGiven k.plan (opening_in k) k.shared.inputs.lists (stalls_of k.script) (turns_in k agent) now server.cycles agent r before runner deadline seat k.shared.ended.items
              (sight_in k.plan.unit k.shared.rings.items k.shared.queues.items agent seat.start now) k.shared.taken.items outbox
          is_given =
              let given : (start : ℕ) → start ≡ r.start → IsGiven k.plan (opening_in k) k.shared.inputs.lists (stalls_of k.script) (turns_in k agent) date server.cycles agent r before runner deadline seat k.shared.ended.items
              (sight_in k.plan.unit k.shared.rings.items k.shared.queues.items agent start date) k.shared.taken.items outbox = λ start e. record {
                gets = gets;
                has = one;
                acts = subst (λ n. ActsIn (run_in k) k.plan.code r (units r.agent r.number (turns_in k agent)) (sight_in k.plan.unit k.shared.rings.items k.shared.queues.items agent n date) k.shared.taken.items outbox) (sym e) acts;
              } in
              subst (λ n. IsGiven k.plan (opening_in k) k.shared.inputs.lists (stalls_of k.script) (turns_in k agent) n server.cycles agent r before runner deadline seat k.shared.ended.items
              (sight_in k.plan.unit k.shared.rings.items k.shared.queues.items agent seat.start n) k.shared.taken.items outbox)
              (sym (now_is ∙ last_date dates date inside.0)) (given seat.start one.seated.start)

      -- the date done last
      pub on_date : (now : ℕ) → now ≡ dates - 1 → now ≡ date
      on_date now now_is = now_is ∙ last_date dates date inside.0

      -- ---- the cycles that it gets

      abbrev pub given_turns : ℕ → List (Option Turn)
      given_turns j = given_to (turn_of (Some r)) j (turns_in k agent)

      -- by agent
      abbrev gone_by : ℕ → ℕ → List (Option Turn)
      gone_by j = given_on k.plan.unit (processor_at k.plan.unit r.agent) (turn_of (Some r)) j (turns_in k)

      own_gone : (j : ℕ) → gone_by j agent ≡ given_turns j
      own_gone j = own_given k.plan.unit (processor_at k.plan.unit r.agent) agent (turn_of (Some r)) (turns_in k) (home ∙ sym own_home) j

      -- as long as it is pending, who is pending stays
      stay : (j : ℕ) → is_pending (given_turns j) r ≡ true → (other : ℕ) → All (StaysSo all (given_to (turn_of (Some r)) j all)) (history (run_in k) dates other)
      stay j later other = elim (cases_eq other agent) [
        | inl same ↦
            subst (λ a. All (StaysSo all (given_to (turn_of (Some r)) j all)) (history (run_in k) dates a)) (sym same) (subst (All (StaysSo all (given_to (turn_of (Some r)) j all))) (sym t.is_last)
            (own_stay all r before j gets.numbers (subst (λ ts. is_pending ts r ≡ true) (mine agent home) t.pending) (subst (λ ts. is_pending (given_to (turn_of (Some r)) j ts) r ≡ true) (mine agent home) later)))
        | inr differs ↦
            All-weaker (IsRegular (run_in k) other) (StaysSo all (given_to (turn_of (Some r)) j all))
            (λ q h. same_stays all (given_to (turn_of (Some r)) j all) q (missed_all (turn_of (Some r)) all q (other_agent q.agent q.number (record { agent = r.agent; number = r.number }) (λ same. differs (sym h.agent_is ∙ sym same ∙ own_agent))) j))
            (history (run_in k) dates other) (AreRegular.each (lawful.actions dates other))
      ]

      module _ (most : ℕ) (high : server.cycles + most ≤ (date + 1) * k.plan.unit.quantum) (ahead : (o : Order) → slice_get k.script.orders server.passed ≡ Some o → server.cycles + most ≤ o.cycle) where
        -- as long as it is pending, the cycles go to it
        pub row : (j : ℕ) → j ≤ most → ((i : ℕ) → i < j → is_pending (given_turns i) r ≡ true) → all_in (server.cycles + j) ≡ given_to (turn_of (Some r)) j all
        row j less pends =
            in_row (turn_of (Some r)) t.first j (omega (arith, high, less)) (λ i below. order_until k is processor server d.there most ahead i (omega (arith, below, less))) (λ i below. stay i (pends i below))

        looks_on : (j : ℕ) → j < most → is_pending (given_turns j) r ≡ true → LooksBack (run_in k) k.plan.sizes k.plan.code (gone_by j) date r
        looks_on j less later =
            let e = row j (omega (arith, less)) (λ i below. was_pending (turn_of (Some r)) (turns_in k agent) r i j (omega (arith, below)) later) in
            d.looks (server.cycles + j) agent r before (gone_by j)
            (record { of_plan = d.cycle.of_plan; of_inputs = d.cycle.of_inputs; of_script = d.cycle.of_script; sound = d.cycle.sound; before = d.cycle.before; most = d.cycle.most; low = omega (arith, inside.2); high = omega (arith, high, less) })
            (own_gone j ∙ ap (given_to (turn_of (Some r)) j) (mine agent home) ∙ sym e ∙ ap (turns_of (run_in k) (order_in k) (server.cycles + j)) (sym home))
            last (subst (λ ts. is_pending ts r ≡ true) (sym (own_gone j)) later)

        -- what it has, and what it sees with each of them
        pub may_last : (now : ℕ) → now ≡ dates - 1 → (runner : Runner) (seat : Seat) → slice_get k.runners.items agent ≡ Some runner → slice_get k.shared.seats.items agent ≡ Some seat
            → (outbox : Outboxed) → slice_get k.shared.outboxes.items agent ≡ Some outbox
            → MayLast k.plan (opening_in k) k.shared.inputs.lists (stalls_of k.script) (turns_in k) (record { agent = agent; cycle = server.cycles; most = most; date = now }) r before runner deadline seat k.shared.ended.items
            k.shared.rings.items k.shared.queues.items k.shared.taken.items outbox
        may_last now now_is runner seat there x outbox o =
            let here : now ≡ date = on_date now now_is in
            record {
              given = is_given now now_is runner seat there x outbox o;
              ringed = subst (λ n. AreRingsOf (run_in k) k.plan.sizes n k.shared.rings.items) (inside.0 ∙ ap (λ n. n + 1) (sym here)) rings_stand;
              queued = subst (λ n. AreQueuesOf (run_in k) k.plan.sizes n k.shared.queues.items) (inside.0 ∙ ap (λ n. n + 1) (sym here)) queues_stand;
              counted = is.shared.taking;
              sized = (is.shared.outboxes agent outbox o).size ∙ ap (λ n. get_or k.plan.sizes.outboxes n 0) (sym own_agent);
              looks = λ j less later. subst (λ n. LooksBack (run_in k) k.plan.sizes k.plan.code (gone_by j) n r) (sym here) (looks_on j less later);
            }

      -- with none but the last of them an action is over
      module _ (n : ℕ) (some : 1 ≤ n) (turns : (j : ℕ) → j ≤ n → all_in (server.cycles + j) ≡ given_to (turn_of (Some r)) j all) (pends : (j : ℕ) → j < n → is_pending (given_turns j) r ≡ true) where
        pub given_steady : (between : ℕ) → server.cycles < between → between < server.cycles + n → IsOverOn (state_of k) processor between → ⊥
        given_steady = steady (turn_of (Some r)) n turns (λ j below. stay j (pends j below))

        pub given_on_steady : is_pending (given_turns n) r ≡ true → IsOverOn (state_of k) processor (server.cycles + n) → ⊥
        given_on_steady last = steady_on (turn_of (Some r)) n turns (λ j below. stay j (pends_on j below)) (server.cycles + n) (omega (arith, some)) (omega arith)
          where
            pends_on : (j : ℕ) → j ≤ n → is_pending (given_turns j) r ≡ true
            pends_on j below = elim (cases_lt j n) [
              | inl less ↦ pends j less
              | inr whole ↦ (let same : n ≡ j = omega (arith, below, whole) in subst (λ i. is_pending (given_turns i) r ≡ true) same last)
            ]

        -- with the last one it is, where its action is
        pub over_by : (goes : Bool) → is_pending (given_turns n) r ≡ goes → goes ≡ false → IsOverOn (state_of k) processor (server.cycles + n)
        over_by goes is_so over =
            let e : server.cycles + n - 1 ≡ server.cycles + (n - 1) = omega (arith, some) in
            let at : (j : ℕ) → is_pending (given_to (turn_of (Some r)) j all) r ≡ is_pending (given_turns j) r = λ j. ap (λ ts. is_pending (given_to (turn_of (Some r)) j ts) r) (sym (mine agent home)) in (
              agent,
              r,
              home,
              subst (λ actions. Contains actions r) (sym t.is_last) (0, omega arith, refl),
              ap (λ m. is_pending (all_in m) r) e ∙ ap (λ ts. is_pending ts r) (turns (n - 1) (omega (arith, some))) ∙ at (n - 1) ∙ pends (n - 1) (omega (arith, some)),
              ap (λ ts. is_pending ts r) (turns n (omega arith)) ∙ at n ∙ is_so ∙ over,
            )

      -- ---- behind them

      module _ (n : ℕ) (row_is : all_in (server.cycles + n) ≡ given_to (turn_of (Some r)) n all) (next : Server) (servers : List Server) (gone : HaveGone k processor server next n servers) where
        turned : (other : ℕ) → gone_by n other ≡ turns_with k servers other
        turned other =
            ap (λ p. given_on k.plan.unit p (turn_of (Some r)) n (turns_in k) other) own_home
            ∙ gone_turns k processor server next n servers gone (turn_of (Some r)) (λ a of. row_is ∙ ap (given_to (turn_of (Some r)) n) (sym (mine a of))) other

        -- the rings are reached for so far
        reached_given : (now : ℕ) → now ≡ dates - 1 → (reaches : List (Option ℕ)) → length reaches ≡ length k.reaches.items
            → ((variable : ℕ) → slice_get k.reaches.items variable ≡ Some (reach (run_in k) (turns_in k) (history (run_in k) (now + 1)) variable) → slice_get reaches variable ≡ Some (reach (run_in k) (gone_by n) (history (run_in k) (now + 1)) variable))
            → (variable : ℕ) (m : Option ℕ) → slice_get reaches variable ≡ Some m → m ≡ reach (run_in k) (turns_with k servers) (history (run_in k) dates) variable
        reached_given now now_is reaches as_many reached variable m at =
            let here : now + 1 ≡ dates = ap (λ x. x + 1) (on_date now now_is) ∙ sym inside.0 in
            let old : Option ℕ = get_or k.reaches.items variable None in
            let there : slice_get k.reaches.items variable ≡ Some old = slice_get-get_or k.reaches.items variable None (omega (arith, slice_get_within reaches variable m at, as_many)) in
            let before_is : old ≡ reach (run_in k) (turns_in k) (history (run_in k) (now + 1)) variable = is.reached variable old there ∙ ap (λ x. reach (run_in k) (turns_in k) (history (run_in k) x) variable) (sym here) in
            same_Some m (reach (run_in k) (gone_by n) (history (run_in k) (now + 1)) variable) (sym at ∙ reached variable (there ∙ ap (λ x. Some x) before_is))
            ∙ ap (λ x. reach (run_in k) (gone_by n) (history (run_in k) x) variable) here
            ∙ d.same (gone_by n) (turns_with k servers) (history (run_in k) dates) variable turned

        -- the engine with what it has then
        module _ (high : server.cycles + n ≤ (date + 1) * k.plan.unit.quantum) (runner : Runner) (waiting : Option ℕ) (seat : Seat) (ended : List ℤ)
            (one : OneStands (run_in k) k.plan.code (given_turns n) k.plan.until date agent (r ∷ before) runner waiting seat ended)
            (as_many : length ended ≡ length k.shared.ended.items) (others : (variable : ℕ) (v : VarDecl) → slice_get k.plan.unit.variables variable ≡ Some v → v.owner ≢ Some agent → slice_get ended variable ≡ slice_get k.shared.ended.items variable)
            (outbox : Outboxed) (taken : List ℕ) (box : BoxStands (run_in k) k.plan.code (given_turns n) date agent (r ∷ before) outbox.sends taken)
            (size : (old : Outboxed) → slice_get k.shared.outboxes.items agent ≡ Some old → outbox.size ≡ old.size) (count : length taken ≡ length k.shared.taken.items)
            (untaken : (stream : ℕ) (decl : StreamDecl) → slice_get k.plan.unit.streams stream ≡ Some decl → decl.receiver ≢ agent → slice_get taken stream ≡ slice_get k.shared.taken.items stream)
            (own : pending_deadline next.ready agent ≡ waiting) (rest : (other : ℕ) → (other ≡ agent → ⊥) → pending_deadline next.ready other ≡ pending_deadline server.ready other) where
          own_waiting : waits_on k.plan.unit servers agent ≡ waiting
          own_waiting = own_waits k processor server next n servers gone agent home ∙ own

          other_waiting : (other : ℕ) → (other ≡ agent → ⊥) → waits_on k.plan.unit servers other ≡ waits_on k.plan.unit k.servers.items other
          other_waiting other differs = elim (cases_eq (processor_at k.plan.unit other) processor) [
            | inl of ↦ own_waits k processor server next n servers gone other of ∙ rest other differs ∙ sym (waits other of)
            | inr away ↦ other_waits k processor server next n servers gone other away
          ]

          parts_given : (after : Shared) → after.date ≡ k.shared.date → after.seats.items ≡ slice_set k.shared.seats.items agent seat → after.ended.items ≡ ended → after.committed ≡ k.shared.committed
              → after.rings ≡ k.shared.rings → after.queues ≡ k.shared.queues → after.outboxes.items ≡ slice_set k.shared.outboxes.items agent outbox → after.taken.items ≡ taken → after.calendar ≡ k.shared.calendar → IsTold seat k.shared.movers after.movers
              → PartsStand (run_in k) k.plan.sizes k.plan.code k.plan.until (turns_with k servers) dates after (slice_set k.runners.items agent runner) (waits_on k.plan.unit servers)
          parts_given after a b c e f g h i j told =
              alike (run_in k) k.plan.sizes k.plan.code k.plan.until (gone_by n) dates after (slice_set k.runners.items agent runner) (waits_on k.plan.unit servers)
              (given (run_in k) k.plan.sizes k.plan.code k.plan.until (turns_in k) dates k.shared k.runners.items (waits_on k.plan.unit k.servers.items) (parts_in k is) lawful date agent r before (last_date dates date inside.0) t.is_last n runner waiting seat ended one as_many others outbox taken box size count untaken (waits_on k.plan.unit servers) own_waiting other_waiting after h i
              (shared_given (run_in k) k.plan.sizes k.plan.code k.plan.until (turns_in k) dates k.shared k.runners.items (waits_on k.plan.unit k.servers.items) (parts_in k is) lawful date agent r before (last_date dates date inside.0) t.is_last n runner waiting seat ended one as_many others outbox taken box size count untaken after a b c e f g h i j told))
              (turns_with k servers) turned

          pub given_stands : (moved : Vec Server Global) (movers : Movers) (told : IsTold seat k.shared.movers movers) (seats : Vec Seat Global) (copies : Vec ℤ Global) (outboxes : Vec Outboxed Global) (counts : Vec ℕ Global) (runners : Vec Runner Global) (reaches : Vec (Option ℕ) Global) (now : ℕ)
              → moved.items ≡ servers → seats.items ≡ slice_set k.shared.seats.items agent seat → copies.items ≡ ended → outboxes.items ≡ slice_set k.shared.outboxes.items agent outbox → counts.items ≡ taken → runners.items ≡ slice_set k.runners.items agent runner
              → now ≡ dates - 1 → length reaches.items ≡ length k.reaches.items
              → ((variable : ℕ) → slice_get k.reaches.items variable ≡ Some (reach (run_in k) (turns_in k) (history (run_in k) (now + 1)) variable) → slice_get reaches.items variable ≡ Some (reach (run_in k) (gone_by n) (history (run_in k) (now + 1)) variable))
              → EngineStands (record k { shared = record k.shared { seats = seats; ended = copies; outboxes = outboxes; taken = counts; movers = movers }; runners = runners; reaches = reaches; servers = moved })
          given_stands moved movers told seats copies outboxes counts runners reaches now moved_is a b g h c now_is many_reached reached =
              let after : Shared = record k.shared { seats = seats; ended = copies; outboxes = outboxes; taken = counts; movers = movers } in
              stands_gone k processor server next n servers gone is d high moved movers seats copies outboxes counts runners reaches moved_is
              (subst (λ rs. PartsStand (run_in k) k.plan.sizes k.plan.code k.plan.until (turns_with k servers) dates after rs (waits_on k.plan.unit servers)) (sym c)
              (parts_given after refl a b refl refl refl g h refl told))
              many_reached (reached_given now now_is reaches.items many_reached reached)

      -- ---- all of them at once

      module _ (most : ℕ) (high : server.cycles + most ≤ (date + 1) * k.plan.unit.quantum) (ahead : (o : Order) → slice_get k.script.orders server.passed ≡ Some o → server.cycles + most ≤ o.cycle)
          (now : ℕ) (now_is : now ≡ dates - 1) (n : ℕ) (count : (1 ≤ n) × (n ≤ most)) {goes : Bool} {runner : Runner} {seat : Seat} {ended : List ℤ} (outbox : Outboxed) {taken : List ℕ} {reaches : List (Option ℕ)}
          (lasts : Lasts k.plan (opening_in k) k.shared.inputs.lists (stalls_of k.script) (turns_in k) now agent r before deadline n goes runner seat ended outbox.sends taken k.reaches.items reaches) where
        lasted_row : (j : ℕ) → j ≤ n → all_in (server.cycles + j) ≡ given_to (turn_of (Some r)) j all
        lasted_row j less = row most high ahead j (omega (arith, less, count.1)) (λ i below. lasts.pends i (omega (arith, below, less)))

        pub lasted_steady : (between : ℕ) → server.cycles < between → between < server.cycles + n → IsOverOn (state_of k) processor between → ⊥
        lasted_steady = given_steady n count.0 lasted_row lasts.pends

        pub lasted_on : goes ≡ true → IsOverOn (state_of k) processor (server.cycles + n) → ⊥
        lasted_on on = given_on_steady n count.0 lasted_row lasts.pends (lasts.is_on ∙ on)

        pub lasted_over : goes ≡ false → IsOverOn (state_of k) processor (server.cycles + n)
        lasted_over over = over_by n count.0 lasted_row lasts.pends goes lasts.is_on over

        abbrev after_all : Option ℕ
        after_all = if goes then deadline else None

        one_then : OneStands (run_in k) k.plan.code (given_turns n) k.plan.until date agent (r ∷ before) runner after_all seat ended
        one_then = subst (λ m. OneStands (run_in k) k.plan.code (given_turns n) k.plan.until m agent (r ∷ before) runner after_all seat ended) (on_date now now_is) lasts.has

        box_then : BoxStands (run_in k) k.plan.code (given_turns n) date agent (r ∷ before) outbox.sends taken
        box_then = subst (λ m. BoxStands (run_in k) k.plan.code (given_turns n) m agent (r ∷ before) outbox.sends taken) (on_date now now_is) lasts.boxed

        -- the engine with what it has then
        module _ (next : Server) (servers : List Server) (gone : HaveGone k processor server next n servers) (own : pending_deadline next.ready agent ≡ after_all) (rest : (other : ℕ) → (other ≡ agent → ⊥) → pending_deadline next.ready other ≡ pending_deadline server.ready other)
            (as_many : length ended ≡ length k.shared.ended.items) (others : (variable : ℕ) (v : VarDecl) → slice_get k.plan.unit.variables variable ≡ Some v → v.owner ≢ Some agent → slice_get ended variable ≡ slice_get k.shared.ended.items variable)
            (size : (old : Outboxed) → slice_get k.shared.outboxes.items agent ≡ Some old → outbox.size ≡ old.size) (counted : length taken ≡ length k.shared.taken.items)
            (untaken : (stream : ℕ) (decl : StreamDecl) → slice_get k.plan.unit.streams stream ≡ Some decl → decl.receiver ≢ agent → slice_get taken stream ≡ slice_get k.shared.taken.items stream) (many : length reaches ≡ length k.reaches.items)
            (movers : Movers) (told : IsTold seat k.shared.movers movers) where
          pub lasted_stands : (moved : Vec Server Global) (seats : Vec Seat Global) (copies : Vec ℤ Global) (outboxes : Vec Outboxed Global) (counts : Vec ℕ Global) (runners : Vec Runner Global) (reached : Vec (Option ℕ) Global)
              → moved.items ≡ servers → seats.items ≡ slice_set k.shared.seats.items agent seat → copies.items ≡ ended → outboxes.items ≡ slice_set k.shared.outboxes.items agent outbox → counts.items ≡ taken → runners.items ≡ slice_set k.runners.items agent runner → reached.items ≡ reaches
              → EngineStands (record k { shared = record k.shared { seats = seats; ended = copies; outboxes = outboxes; taken = counts; movers = movers }; runners = runners; reaches = reached; servers = moved })
          lasted_stands moved seats copies outboxes counts runners reached moved_is a b c d e f =
              given_stands n (lasted_row n (omega arith)) next servers gone (omega (arith, high, count.1)) runner after_all seat ended one_then as_many others outbox taken box_then size counted untaken own rest
              moved movers told seats copies outboxes counts runners reached now moved_is a b c d e now_is (ap length f ∙ many) (λ variable at. ap (λ xs. slice_get xs variable) f ∙ lasts.reached variable at)
