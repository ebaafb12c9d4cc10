-- What all agents have and share, before some cycles and behind them.
use Rattle.std.proofs.Common.{◌≡◌, ◌≢◌, refl, sym, ap, ◌∙◌, subst, inl, inr, arith}
use Rattle.std.specs.Prelude.{ℕ, ◌-◌, ◌<◌, ◌≤◌, Bool, true, false, List, [], ◌∷◌, get_or, length, Option, Some, None, slice_get, slice_set, ℤ}
use Rattle.std.specs.List.{All}
use Rattle.std.proofs.lemmas.Bool.{cases_eq, cases_lt}
use Rattle.std.proofs.lemmas.List.{get_or_past, length-set}
use Rattle.std.proofs.lemmas.List.Elements.{All-head, All-weaker}
use Rattle.std.proofs.lemmas.Option.{slice_get-get_or, slice_get_within}
use Rattle.psy_lists.proofs.lemmas.Places.{there}
use Rattle.psy_code.specs.declared.code.Code.{Code}
use Rattle.psy_dates.specs.declared.seat.Seat.{Seat}
use Rattle.psy_dates.specs.declared.movers.Movers.{Movers}
use Rattle.psy_dates.specs.declared.shared.Shared.{Shared}
use Rattle.psy_dates.specs.Calendars.{CalendarStands}
use Rattle.psy_dates.specs.Outboxes.{Outboxed}
use Rattle.psy_dates.specs.Standing.{IsSeated, KeepsCopy, KeepsSends, KeepsTakes, MoversStand, OutboxStands, SeatStands, SharedStands, dates_done}
use Rattle.psy_dates.proofs.lemmas.Moving.{never_waits, silent_by, silent_from}
use Rattle.psy_history.specs.Regular.{AreRegular, IsLawful, IsRegular}
use Rattle.psy_history.specs.Actions.{Action, History, System, is_done, is_silent, stream_of, variable_of}
use Rattle.psy_tree.specs.Parts.{no_stream}
use Rattle.psy_base.specs.declared.sizes.Sizes.{Sizes}
use Rattle.psy_history.specs.History.{history}
use Rattle.psy_history.specs.Processors.{processor_at, served}
use Rattle.psy_history.specs.Schedule.{Turn, is_pending, pending, soonest}
use Rattle.psy_ready.specs.Choice.{IsPick, pending_deadline}
use Rattle.psy_tree.specs.declared.unit.StreamDecl.{StreamDecl}
use Rattle.psy_tree.specs.declared.unit.VarDecl.{VarDecl}
use Rattle.psy_kernel.specs.Cycles.{AreOver, BoxStands, OneStands}
use Rattle.psy_kernel.specs.declared.engine.Runner.{Runner}
use Rattle.psy_kernel.specs.Standing.{AgentStands, DeedsStand, IsChosen, deadline_of}
use Rattle.psy_kernel.specs.Stretches.{given_on, given_to}
use Rattle.psy_kernel.proofs.GivenCycles.{missed_on, own_given}
use Rattle.psy_kernel.proofs.MoversGiven.{IsTold, movers_given}
use Rattle.psy_kernel.proofs.OneAgent.{variable_known}
use Rattle.psy_kernel.proofs.OtherAgents.{AreSameFor, agent_kept, copy_kept, deeds_kept, deeds_untaken, other_agent, seat_kept, sends_kept, takes_kept}
use Rattle.psy_kernel.proofs.OwnAgents.{history_on, on_other, on_own, served_pending}
use Rattle.psy_kernel.proofs.PickIsSoonest.{Front, front_none, front_of, soonest_by_pick, soonest_of_nobody}
use Rattle.psy_dates.proofs.lemmas.Sets.{get_set_other, get_set_same}

-- It stands for the history of so many dates, where by agent the cycles of its processor went to these turns
pub record PartsStand (s : System) (sizes : Sizes) (code : Code) (until : ℕ) (turns : ℕ → List (Option Turn)) (dates : ℕ) (shared : Shared) (runners : List Runner) (waiting : ℕ → Option ℕ) : Type 0 where
  pub shares : SharedStands s sizes turns dates shared
  pub run : length runners ≡ length s.unit.agents
  pub agents : (agent : ℕ) (runner : Runner) → slice_get runners agent ≡ Some runner
      → AgentStands s code (turns agent) until agent (history s dates agent) runner (waiting agent)
  pub doing : (agent : ℕ) (outbox : Outboxed) → slice_get shared.outboxes.items agent ≡ Some outbox → DeedsStand s code (turns agent) (history s dates agent) outbox.sends shared.taken.items

-- The seat of an agent as its history has it, whether the agent was silent from before or not
seated_kept : (quiet : Bool) (before : ℕ) (turns now : List (Option Turn)) (date : ℕ) (actions : List Action) (seat : Seat) → All (AreSameFor turns now) actions → IsSeated quiet before date turns actions seat → IsSeated quiet before date now actions seat
seated_kept false before turns now date actions seat same h = seat_kept turns now date actions seat same h
seated_kept true before turns now date [] seat same h = h
seated_kept true before turns now date (r ∷ earlier) seat same h = seat_kept turns now date (r ∷ earlier) seat same h

seated_last : (quiet : Bool) (before date : ℕ) (turns : List (Option Turn)) (r : Action) (earlier : List Action) (seat : Seat) → IsSeated quiet before date turns (r ∷ earlier) seat → SeatStands date turns (r ∷ earlier) seat
seated_last false before date turns r earlier seat h = h
seated_last true before date turns r earlier seat h = h

last_seated : (quiet : Bool) (before date : ℕ) (turns : List (Option Turn)) (r : Action) (earlier : List Action) (seat : Seat) → SeatStands date turns (r ∷ earlier) seat → IsSeated quiet before date turns (r ∷ earlier) seat
last_seated false before date turns r earlier seat h = h
last_seated true before date turns r earlier seat h = h

shared_same : (s : System) (sizes : Sizes) (turns now : ℕ → List (Option Turn)) (dates : ℕ) (shared : Shared) → ((agent : ℕ) → All (AreSameFor (turns agent) (now agent)) (history s dates agent)) → SharedStands s sizes turns dates shared → SharedStands s sizes now dates shared
shared_same s sizes turns now dates shared same h = record {
  date = h.date;
  seated = h.seated;
  seats = λ agent seat at. seated_kept (s.opening.silent agent) s.opening.dates (turns agent) (now agent) (dates - 1) (history s dates agent) seat (same agent) (h.seats agent seat at);
  valued = h.valued;
  committed = h.committed;
  kept = h.kept;
  ended = λ variable owner value at owned. copy_kept (turns owner) (now owner) (dates - 1) variable (history s dates owner) value (same owner) (h.ended variable owner value at owned);
  ringed = h.ringed;
  rings = h.rings;
  queued = h.queued;
  queues = h.queues;
  boxed = h.boxed;
  outboxes = λ agent outbox at. (let its = h.outboxes agent outbox at in record { size = its.size; sends = sends_kept (turns agent) (now agent) (dates - 1) (history s dates agent) outbox.sends (same agent) its.sends });
  taking = h.taking;
  taken = λ stream n at. takes_kept (turns (stream_of s stream).receiver) (now (stream_of s stream).receiver) (dates - 1) stream (history s dates (stream_of s stream).receiver) n (same (stream_of s stream).receiver) (h.taken stream n at);
  calendar = h.calendar;
  movers = h.movers;
}

-- The same turns, by agent
pub shared_alike : (s : System) (sizes : Sizes) (turns now : ℕ → List (Option Turn)) (dates : ℕ) (shared : Shared) → ((agent : ℕ) → turns agent ≡ now agent) → SharedStands s sizes turns dates shared → SharedStands s sizes now dates shared
shared_alike s sizes turns now dates shared same = shared_same s sizes turns now dates shared (λ agent k d less. subst (λ ts. AreSameFor (turns agent) ts (get_or (history s dates agent) k d)) (same agent) (record { units = refl; finish = refl }))

module _ (s : System) (sizes : Sizes) (code : Code) (until : ℕ) (turns : ℕ → List (Option Turn)) (dates : ℕ) (shared : Shared) (runners : List Runner) (waiting : ℕ → Option ℕ) (p : PartsStand s sizes code until turns dates shared runners waiting) where
  -- turns that give each action as many cycles, and the last one as late
  parts_same : (now : ℕ → List (Option Turn)) → ((agent : ℕ) → All (AreSameFor (turns agent) (now agent)) (history s dates agent)) → PartsStand s sizes code until now dates shared runners waiting
  parts_same now same = record {
    shares = shared_same s sizes turns now dates shared same p.shares;
    run = p.run;
    agents = λ agent runner at.
        agent_kept (turns agent) (now agent) s code until agent (history s dates agent) runner (waiting agent) (same agent) (p.agents agent runner at);
    doing = λ agent outbox at. deeds_kept (turns agent) (now agent) s code (history s dates agent) outbox.sends shared.taken.items (same agent) (p.doing agent outbox at);
  }

  -- the same turns, by agent
  pub alike : (now : ℕ → List (Option Turn)) → ((agent : ℕ) → turns agent ≡ now agent) → PartsStand s sizes code until now dates shared runners waiting
  alike now same = parts_same now (λ agent k d less. subst (λ ts. AreSameFor (turns agent) ts (get_or (history s dates agent) k d)) (same agent) (record { units = refl; finish = refl }))

  -- the same deadlines, by agent
  pub waits_alike : (others : ℕ → Option ℕ) → ((agent : ℕ) → waiting agent ≡ others agent) → PartsStand s sizes code until turns dates shared runners others
  waits_alike others same = record {
    shares = p.shares;
    run = p.run;
    agents = λ agent runner at. subst (AgentStands s code (turns agent) until agent (history s dates agent) runner) (same agent) (p.agents agent runner at);
    doing = p.doing;
  }

  -- cycles that nobody gets
  pub idle : (processor n : ℕ) → PartsStand s sizes code until (given_on s.unit processor None n turns) dates shared runners waiting
  idle processor n = parts_same (given_on s.unit processor None n turns) (λ agent k d less. missed_on s.unit processor agent None turns (get_or (history s dates agent) k d) refl n)

  module _ (lawful : IsLawful s) where
    -- an agent that the program doesn't have has no actions
    past : (agent : ℕ) → length s.unit.agents ≤ agent → history s dates agent ≡ []
    past agent h = by (history s dates agent) (AreRegular.each (lawful.actions dates agent))
      where
        by : (actions : List Action) → All (IsRegular s agent) actions → actions ≡ []
        by [] all = refl
        by (r ∷ before) all = absurd (omega (arith, h, IsRegular.known (All-head (IsRegular s agent) r before all)))

    -- a processor, for which its own agents wait, and whose cycles went to these turns
    module _ (processor : ℕ) (ready : List (Option ℕ)) (as_many : length ready ≡ length s.unit.agents) (all : List (Option Turn))
        (own : (agent : ℕ) → processor_at s.unit agent ≡ processor → waiting agent ≡ pending_deadline ready agent)
        (alone : (agent : ℕ) → (processor_at s.unit agent ≡ processor → ⊥) → pending_deadline ready agent ≡ None)
        (one : (agent : ℕ) → processor_at s.unit agent ≡ processor → turns agent ≡ all)
        (over : (agent : ℕ) → processor_at s.unit agent ≡ processor → AreOver (turns agent) (history s dates agent)) where
      waits_is : (agent : ℕ) → processor_at s.unit agent ≡ processor → pending_deadline ready agent ≡ deadline_of (turns agent) (history s dates agent)
      waits_is agent of = elim (cases_lt agent (length s.unit.agents)) [
        | inl less ↦
            (let runner = there runners agent (omega (arith, less, p.run)) in
            sym (own agent of) ∙ AgentStands.ready (p.agents agent runner.0 runner.1))
        | inr more ↦ get_or_past ready agent None (omega (arith, more, as_many)) ∙ sym (ap (deadline_of (turns agent)) (past agent more))
      ]

      -- where nobody waits, no action of its agents is pending
      pub nobody_pending : ((agent : ℕ) → pending_deadline ready agent ≡ None) → (agent : ℕ) → processor_at s.unit agent ≡ processor → All (λ r. is_pending (turns agent) r ≡ false) (history s dates agent)
      nobody_pending nobody agent of =
          front_none (turns agent) (history s dates agent)
          (subst (Front (turns agent) (history s dates agent)) (sym (waits_is agent of) ∙ nobody agent) (front_of (turns agent) (history s dates agent) (over agent of)))

      abbrev its : History
      its = history_on s.unit processor (history s dates)

      fronts : (agent : ℕ) → Front all (its agent) (pending_deadline ready agent)
      fronts agent = elim (cases_eq (processor_at s.unit agent) processor) [
        | inl of ↦
            subst (λ actions. Front all actions (pending_deadline ready agent)) (sym (on_own s.unit processor agent (history s dates) of))
            (subst (λ ts. Front ts (history s dates agent) (pending_deadline ready agent)) (one agent of)
            (subst (Front (turns agent) (history s dates agent)) (sym (waits_is agent of)) (front_of (turns agent) (history s dates agent) (over agent of))))
        | inr differs ↦
            subst (λ actions. Front all actions (pending_deadline ready agent)) (sym (on_other s.unit processor agent (history s dates) differs)) (subst (Front all []) (sym (alone agent differs)) refl)
      ]

      pub nobody_soonest : (order : List ℕ) → IsChosen ready order None → soonest (pending (served s.unit processor order) all (history s dates)) ≡ None
      nobody_soonest order none = ap soonest (served_pending s.unit processor all (history s dates) order) ∙ soonest_of_nobody all its ready fronts order none

      pub pick_home : (order : List ℕ) (agent : ℕ) → IsPick ready order agent → processor_at s.unit agent ≡ processor
      pick_home order agent pick = elim (cases_eq (processor_at s.unit agent) processor) [
        | inl of ↦ of
        | inr differs ↦ absurd (let wrong : None ≡ Some pick.deadline = sym (alone agent differs) ∙ pick.is_pending in cc)
      ]

      -- The last action of an agent is the soonest of those that the processor serves.
      abbrev pub IsFirst : List ℕ → ℕ → Type 0
      IsFirst order agent = (r : Action) × (before : List Action) × (history s dates agent ≡ r ∷ before) × (is_pending all r ≡ true) × (soonest (pending (served s.unit processor order) all (history s dates)) ≡ Some r)

      pub pick_soonest : (order : List ℕ) (agent : ℕ) → IsPick ready order agent → IsFirst order agent
      pick_soonest order agent pick =
          let w = soonest_by_pick all its ready fronts order agent pick in
          (w.0, w.1, sym (on_own s.unit processor agent (history s dates) (pick_home order agent pick)) ∙ w.2, w.3, ap soonest (served_pending s.unit processor all (history s dates) order) ∙ w.5)

      pub pick_known : (order : List ℕ) (agent : ℕ) → IsPick ready order agent → agent < length s.unit.agents
      pick_known order agent pick = elim (cases_lt agent (length s.unit.agents)) [
        | inl less ↦ less
        | inr more ↦ absurd (let wrong : None ≡ Some pick.deadline = sym (get_or_past ready agent None (omega (arith, more, as_many))) ∙ pick.is_pending in cc)
      ]

  -- what an agent has, with its seat and kept copies
  pub one_of : (date agent : ℕ) (r : Action) (before : List Action) → dates - 1 ≡ date → history s dates agent ≡ r ∷ before
      → (runner : Runner) (seat : Seat) → slice_get runners agent ≡ Some runner → slice_get shared.seats.items agent ≡ Some seat
      → OneStands s code (turns agent) until date agent (r ∷ before) runner (waiting agent) seat shared.ended.items
  one_of date agent r before last is runner seat at x = record {
    stands = subst (λ actions. AgentStands s code (turns agent) until agent actions runner (waiting agent)) is (p.agents agent runner at);
    seated = seated_last (s.opening.silent agent) s.opening.dates date (turns agent) r before seat
        (subst (λ actions. IsSeated (s.opening.silent agent) s.opening.dates date (turns agent) actions seat) is
        (subst (λ d. IsSeated (s.opening.silent agent) s.opening.dates d (turns agent) (history s dates agent) seat) last (p.shares.seats agent seat x)));
    kept = λ variable value at owned. subst (λ actions. KeepsCopy date (turns agent) variable actions value) is (subst (λ d. KeepsCopy d (turns agent) variable (history s dates agent) value) last (p.shares.ended variable agent value at owned));
  }

  -- cycles that an agent's last action gets, so many in a row
  module _ (lawful : IsLawful s) (date agent : ℕ) (r : Action) (before : List Action) (last : dates - 1 ≡ date) (is : history s dates agent ≡ r ∷ before) (n : ℕ) where
    -- what its cycles leave: to its own agent they all go to it
    abbrev now : ℕ → List (Option Turn)
    now = given_on s.unit (processor_at s.unit r.agent) (Some (record { agent = r.agent; number = r.number })) n turns

    abbrev mine : List (Option Turn)
    mine = given_to (Some (record { agent = r.agent; number = r.number })) n (turns agent)

    of_agent : (other : ℕ) (actions : List Action) → All (IsRegular s other) actions → All (λ (q : Action). q.agent ≡ other) actions
    of_agent other actions all = All-weaker (IsRegular s other) (λ (q : Action). q.agent ≡ other) (λ q h. h.agent_is) actions all

    r_agent : r.agent ≡ agent
    r_agent = All-head (λ (q : Action). q.agent ≡ agent) r before (subst (All (λ (q : Action). q.agent ≡ agent)) is (of_agent agent (history s dates agent) (AreRegular.each (lawful.actions dates agent))))

    own_now : now agent ≡ mine
    own_now = own_given s.unit (processor_at s.unit r.agent) agent (Some (record { agent = r.agent; number = r.number })) turns (ap (processor_at s.unit) (sym r_agent)) n

    pub others_same : (other : ℕ) → (other ≡ agent → ⊥) → All (AreSameFor (turns other) (now other)) (history s dates other)
    others_same other differs =
        All-weaker (λ (q : Action). q.agent ≡ other) (AreSameFor (turns other) (now other))
        (λ q e. missed_on s.unit (processor_at s.unit r.agent) other (Some (record { agent = r.agent; number = r.number })) turns q (other_agent q.agent q.number (record { agent = r.agent; number = r.number }) (λ same. differs (sym e ∙ sym same ∙ r_agent))) n)
        (history s dates other) (of_agent other (history s dates other) (AreRegular.each (lawful.actions dates other)))

    module _ (runner : Runner) (waits : Option ℕ) (seat : Seat) (ended : List ℤ) (one_is : OneStands s code mine until date agent (r ∷ before) runner waits seat ended)
        (all : length ended ≡ length shared.ended.items) (others : (variable : ℕ) (v : VarDecl) → slice_get s.unit.variables variable ≡ Some v → v.owner ≢ Some agent → slice_get ended variable ≡ slice_get shared.ended.items variable)
        (outbox : Outboxed) (taken : List ℕ) (box_is : BoxStands s code mine date agent (r ∷ before) outbox.sends taken) (size : (old : Outboxed) → slice_get shared.outboxes.items agent ≡ Some old → outbox.size ≡ old.size)
        (count : length taken ≡ length shared.taken.items) (untaken : (stream : ℕ) (decl : StreamDecl) → slice_get s.unit.streams stream ≡ Some decl → decl.receiver ≢ agent → slice_get taken stream ≡ slice_get shared.taken.items stream) where
      one : OneStands s code (now agent) until date agent (r ∷ before) runner waits seat ended
      one = subst (λ ts. OneStands s code ts until date agent (r ∷ before) runner waits seat ended) (sym own_now) one_is

      box : BoxStands s code (now agent) date agent (r ∷ before) outbox.sends taken
      box = subst (λ ts. BoxStands s code ts date agent (r ∷ before) outbox.sends taken) (sym own_now) box_is

      -- what was taken of a stream that another agent receives
      same_taken : (stream n : ℕ) → slice_get taken stream ≡ Some n → ((stream_of s stream).receiver ≡ agent → ⊥) → slice_get shared.taken.items stream ≡ Some n
      same_taken stream n at differs =
          let known : stream < length s.unit.streams = omega (arith, slice_get_within taken stream n at, count, p.shares.taking) in
          sym (untaken stream (stream_of s stream) (slice_get-get_or s.unit.streams stream no_stream known) differs) ∙ at

      taken_given : (stream n : ℕ) → slice_get taken stream ≡ Some n → KeepsTakes (dates - 1) (now (stream_of s stream).receiver) stream (history s dates (stream_of s stream).receiver) n
      taken_given stream n at = elim (cases_eq (stream_of s stream).receiver agent) [
        | inl same ↦
            subst (λ a. KeepsTakes (dates - 1) (now a) stream (history s dates a) n) (sym same) (subst (λ actions. KeepsTakes (dates - 1) (now agent) stream actions n) (sym is) (subst (λ d. KeepsTakes d (now agent) stream (r ∷ before) n) (sym last) (box.took stream n at same)))
        | inr differs ↦
            takes_kept (turns (stream_of s stream).receiver) (now (stream_of s stream).receiver) (dates - 1) stream (history s dates (stream_of s stream).receiver) n (others_same (stream_of s stream).receiver differs) (p.shares.taken stream n (same_taken stream n at differs))
      ]

      outboxes_given : (other : ℕ) (x : Outboxed) → slice_get (slice_set shared.outboxes.items agent outbox) other ≡ Some x → OutboxStands sizes (dates - 1) (now other) other (history s dates other) x
      outboxes_given other x at = elim (cases_eq other agent) [
        | inl same ↦
            (let here : slice_get (slice_set shared.outboxes.items agent outbox) agent ≡ Some x = sym (ap (slice_get (slice_set shared.outboxes.items agent outbox)) same) ∙ at in
            let x_is : x ≡ outbox = get_set_same shared.outboxes.items agent outbox x here in
            let old = there shared.outboxes.items agent (omega (arith, slice_get_within (slice_set shared.outboxes.items agent outbox) agent x here, length-set shared.outboxes.items agent outbox)) in
            subst (λ a. OutboxStands sizes (dates - 1) (now a) a (history s dates a) x) (sym same) (subst (OutboxStands sizes (dates - 1) (now agent) agent (history s dates agent)) (sym x_is) (record {
              size = size old.0 old.1 ∙ (p.shares.outboxes agent old.0 old.1).size;
              sends = subst (λ actions. KeepsSends (dates - 1) (now agent) actions outbox.sends) (sym is) (subst (λ d. KeepsSends d (now agent) (r ∷ before) outbox.sends) (sym last) box.sent);
            })))
        | inr differs ↦
            (let its = p.shares.outboxes other x (sym (get_set_other shared.outboxes.items agent other outbox differs) ∙ at) in
            record { size = its.size; sends = sends_kept (turns other) (now other) (dates - 1) (history s dates other) x.sends (others_same other differs) its.sends })
      ]

      doing_given : (other : ℕ) (x : Outboxed) → slice_get (slice_set shared.outboxes.items agent outbox) other ≡ Some x → DeedsStand s code (now other) (history s dates other) x.sends taken
      doing_given other x at = elim (cases_eq other agent) [
        | inl same ↦
            (let x_is : x ≡ outbox = get_set_same shared.outboxes.items agent outbox x (sym (ap (slice_get (slice_set shared.outboxes.items agent outbox)) same) ∙ at) in
            subst (λ a. DeedsStand s code (now a) (history s dates a) x.sends taken) (sym same) (subst (λ actions. DeedsStand s code (now agent) actions x.sends taken) (sym is) (subst (λ (o : Outboxed). DeedsStand s code (now agent) (r ∷ before) o.sends taken) (sym x_is) box.doing)))
        | inr differs ↦
            deeds_untaken s code (now other) other (history s dates other) x.sends shared.taken.items taken (of_agent other (history s dates other) (AreRegular.each (lawful.actions dates other)))
            (λ stream n here own. same_taken stream n here (λ e. differs (sym own ∙ e)))
            (deeds_kept (turns other) (now other) s code (history s dates other) x.sends shared.taken.items (others_same other differs) (p.doing other x (sym (get_set_other shared.outboxes.items agent other outbox differs) ∙ at)))
      ]

      seats_given : (other : ℕ) (x : Seat) → slice_get (slice_set shared.seats.items agent seat) other ≡ Some x → IsSeated (s.opening.silent other) s.opening.dates (dates - 1) (now other) (history s dates other) x
      seats_given other x at = elim (cases_eq other agent) [
        | inl same ↦
            (let x_is : x ≡ seat = get_set_same shared.seats.items agent seat x (sym (ap (slice_get (slice_set shared.seats.items agent seat)) same) ∙ at) in
            let own : IsSeated (s.opening.silent agent) s.opening.dates date (now agent) (r ∷ before) x = last_seated (s.opening.silent agent) s.opening.dates date (now agent) r before x (subst (SeatStands date (now agent) (r ∷ before)) (sym x_is) one.seated) in
            subst (λ a. IsSeated (s.opening.silent a) s.opening.dates (dates - 1) (now a) (history s dates a) x) (sym same)
            (subst (λ actions. IsSeated (s.opening.silent agent) s.opening.dates (dates - 1) (now agent) actions x) (sym is)
            (subst (λ d. IsSeated (s.opening.silent agent) s.opening.dates d (now agent) (r ∷ before) x) (sym last) own)))
        | inr differs ↦ seated_kept (s.opening.silent other) s.opening.dates (turns other) (now other) (dates - 1) (history s dates other) x (others_same other differs) (p.shares.seats other x (sym (get_set_other shared.seats.items agent other seat differs) ∙ at))
      ]

      -- who moves, where the seat was told
      movers_told : (after : Movers) → IsTold seat shared.movers after → MoversStand s dates (slice_set shared.seats.items agent seat) after
      movers_told after told =
          let known : agent < length s.unit.agents = IsRegular.known (All-head (IsRegular s agent) r before (subst (All (IsRegular s agent)) is (AreRegular.each (lawful.actions dates agent)))) in
          let old = there shared.seats.items agent (omega (arith, known, p.shares.seated)) in
          let was : SeatStands date (turns agent) (r ∷ before) old.0 = seated_last (s.opening.silent agent) s.opening.dates date (turns agent) r before old.0
          (subst (λ actions. IsSeated (s.opening.silent agent) s.opening.dates date (turns agent) actions old.0) is (subst (λ d. IsSeated (s.opening.silent agent) s.opening.dates d (turns agent) (history s dates agent) old.0) last (p.shares.seats agent old.0 old.1))) in
          movers_given s dates shared.seats.items agent old.0 seat shared.movers after old.1 (λ waits. never_waits (is_silent date (r ∷ [])) (is_pending (now agent) r) (is_done r.verdict) (sym one.seated.phase ∙ waits))
          (λ rests. was.phase ∙ silent_by (is_silent date (r ∷ [])) (is_pending (turns agent) r) (is_done r.verdict) (silent_from (is_silent date (r ∷ [])) (is_pending (now agent) r) (is_done r.verdict) (sym one.seated.phase ∙ rests)))
          (one.seated.deadline ∙ sym was.deadline) told p.shares.movers

      ended_given : (variable owner : ℕ) (value : ℤ) → slice_get ended variable ≡ Some value → (variable_of s variable).owner ≡ Some owner → KeepsCopy (dates - 1) (now owner) variable (history s dates owner) value
      ended_given variable owner value at owned = elim (cases_eq owner agent) [
        | inl same ↦
            subst (λ a. KeepsCopy (dates - 1) (now a) variable (history s dates a) value) (sym same) (subst (λ actions. KeepsCopy (dates - 1) (now agent) variable actions value) (sym is) (subst (λ d. KeepsCopy d (now agent) variable (r ∷ before) value) (sym last)
            (one.kept variable value at (owned ∙ ap (λ n. Some n) same))))
        | inr differs ↦
            copy_kept (turns owner) (now owner) (dates - 1) variable (history s dates owner) value (others_same owner differs)
            (p.shares.ended variable owner value (sym (others variable (variable_of s variable) (variable_known s variable owner owned) (λ e. differs (let e' : Some owner ≡ Some agent = sym owned ∙ e in let same : owner ≡ agent = cc in same))) ∙ at) owned)
      ]

      pub shared_given : (after : Shared) → after.date ≡ shared.date → after.seats.items ≡ slice_set shared.seats.items agent seat → after.ended.items ≡ ended → after.committed ≡ shared.committed
          → after.rings ≡ shared.rings → after.queues ≡ shared.queues → after.outboxes.items ≡ slice_set shared.outboxes.items agent outbox → after.taken.items ≡ taken → after.calendar ≡ shared.calendar → IsTold seat shared.movers after.movers → SharedStands s sizes now dates after
      shared_given after date_is seats_are ended_are committed_is rings_are queues_are outboxes_are taken_is calendar_is told = record {
        date = ap dates_done date_is ∙ p.shares.date;
        seated = ap length seats_are ∙ length-set shared.seats.items agent seat ∙ p.shares.seated;
        seats = λ other x at. seats_given other x (sym (ap (λ xs. slice_get xs other) seats_are) ∙ at);
        valued = ap (λ v. length v.items) committed_is ∙ p.shares.valued;
        committed = λ variable value at. p.shares.committed variable value (sym (ap (λ v. slice_get v.items variable) committed_is) ∙ at);
        kept = ap length ended_are ∙ all ∙ p.shares.kept;
        ended = λ variable owner value at owned. ended_given variable owner value (sym (ap (λ xs. slice_get xs variable) ended_are) ∙ at) owned;
        ringed = ap (λ v. length v.items) rings_are ∙ p.shares.ringed;
        rings = λ variable ring at. p.shares.rings variable ring (sym (ap (λ v. slice_get v.items variable) rings_are) ∙ at);
        queued = ap (λ v. length v.items) queues_are ∙ p.shares.queued;
        queues = λ stream queue at. p.shares.queues stream queue (sym (ap (λ v. slice_get v.items stream) queues_are) ∙ at);
        boxed = ap length outboxes_are ∙ length-set shared.outboxes.items agent outbox ∙ p.shares.boxed;
        outboxes = λ other x at. outboxes_given other x (sym (ap (λ xs. slice_get xs other) outboxes_are) ∙ at);
        taking = ap length taken_is ∙ count ∙ p.shares.taking;
        taken = λ stream n at. taken_given stream n (sym (ap (λ ns. slice_get ns stream) taken_is) ∙ at);
        calendar = subst (CalendarStands s.unit.clocks dates) (sym calendar_is) p.shares.calendar;
        movers = subst (λ xs. MoversStand s dates xs after.movers) (sym seats_are) (movers_told after.movers told);
      }

      -- the agent's own, and those of another agent
      agents_given : (waiting' : ℕ → Option ℕ) → waiting' agent ≡ waits → ((other : ℕ) → (other ≡ agent → ⊥) → waiting' other ≡ waiting other)
          → (other : ℕ) (x : Runner) → slice_get (slice_set runners agent runner) other ≡ Some x → AgentStands s code (now other) until other (history s dates other) x (waiting' other)
      agents_given waiting' own rest other x at = elim (cases_eq other agent) [
        | inl same ↦
            (let x_is : x ≡ runner = get_set_same runners agent runner x (sym (ap (slice_get (slice_set runners agent runner)) same) ∙ at) in
            subst (λ a. AgentStands s code (now a) until a (history s dates a) x (waiting' a)) (sym same)
            (subst (λ actions. AgentStands s code (now agent) until agent actions x (waiting' agent)) (sym is)
            (subst (λ z. AgentStands s code (now agent) until agent (r ∷ before) z (waiting' agent)) (sym x_is)
            (subst (AgentStands s code (now agent) until agent (r ∷ before) runner) (sym own) one.stands))))
        | inr differs ↦
            subst (AgentStands s code (now other) until other (history s dates other) x) (sym (rest other differs))
            (agent_kept (turns other) (now other) s code until other (history s dates other) x (waiting other) (others_same other differs)
            (p.agents other x (sym (get_set_other runners agent other runner differs) ∙ at)))
      ]

      pub given : (waiting' : ℕ → Option ℕ) → waiting' agent ≡ waits → ((other : ℕ) → (other ≡ agent → ⊥) → waiting' other ≡ waiting other)
          → (after : Shared) → after.outboxes.items ≡ slice_set shared.outboxes.items agent outbox → after.taken.items ≡ taken → SharedStands s sizes now dates after → PartsStand s sizes code until now dates after (slice_set runners agent runner) waiting'
      given waiting' own rest after outboxes_are taken_is shares = record {
        shares = shares;
        run = length-set runners agent runner ∙ p.run;
        agents = agents_given waiting' own rest;
        doing = λ other x at. subst (λ ns. DeedsStand s code (now other) (history s dates other) x.sends ns) (sym taken_is) (doing_given other x (sym (ap (λ xs. slice_get xs other) outboxes_are) ∙ at));
      }
