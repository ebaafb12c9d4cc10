-- What is left of a run at a quiet date is the state that its history leaves there.
use Rattle.std.proofs.Common.{◌≡◌, ℕ, suc, ◌+◌, ◌*◌, ◌<◌, ◌≤◌, Bool, true, false, if◌then◌else◌, List, [], ◌∷◌, ◌++◌, map, length, get_or, slice_get, pos, Option, Some, None, ℤ, refl, sym, ap, subst, ◌∙◌, inl, inr, arith}
use Rattle.std.specs.List.{All, Contains, range_with_len}
use Rattle.std.proofs.Math.Numerals.{add-one}
use Rattle.std.proofs.Math.Path.{fun_ext}
use Rattle.std.proofs.lemmas.Bool.{cases_lt}
use Rattle.std.proofs.lemmas.List.{get_or_past, length-map}
use Rattle.std.proofs.lemmas.List.Elements.{All-get_or, All-head, All-nil, All-cons, All-tail}
use Rattle.std.proofs.lemmas.List.FromFn.{fill_by_all, get_or-map-range_with_len, length-map-range_with_len}
use Rattle.std.proofs.lemmas.Option.{slice_get-get_or, slice_get_past, slice_get_within}
use Rattle.psy_budget.specs.declared.charge.Stall.{Stall}
use Rattle.psy_code.specs.declared.code.AgentCode.{AgentCode}
use Rattle.psy_code.specs.declared.code.CopyInit.{CopyInit}
use Rattle.psy_code.specs.Views.{found_in}
use Rattle.psy_lists.proofs.lemmas.Places.{there as some_at}
use Rattle.psy_queue.specs.Order.{Queued}
use Rattle.psy_tree.specs.declared.unit.VarDecl.{VarDecl}
use Rattle.psy_tree.specs.Parts.{no_variable, variable_at}
use Rattle.psy_history.specs.Actions.{Action, Next, Opening, System, next_of, rests, variable_of}
use Rattle.psy_history.specs.History.{history}
use Rattle.psy_history.specs.Openings.{IsSound}
use Rattle.psy_history.specs.Queues.{queue_of}
use Rattle.psy_history.specs.Regular.{IsLawful, Runs, WereStarted}
use Rattle.psy_history.specs.Resuming.{IsQuiet, committed_at, opening_at}
use Rattle.psy_history.specs.Rings.{ring_of}
use Rattle.psy_history.specs.Schedule.{Turn}
use Rattle.psy_history.specs.Scheduled.{IsFinished, IsSupplied, turns_by}
use Rattle.psy_history.specs.Scripts.{stalls_of}
use Rattle.psy_base.specs.Extremes.{least_of}
use Rattle.psy_history.specs.Summary.{added_to, due_by, due_count, least_slack, most_held, numbers_in, reach}
use Rattle.psy_history.specs.Visible.{committed_in}
use Rattle.psy_history.specs.Ways.{IsSentBy}
use Rattle.psy_meaning.specs.CodeWays.{agent_code_at}
use Rattle.psy_meaning.specs.KnownWays.{Listed}
use Rattle.psy_meaning.specs.Units.{IsBareVariable, OwnedWithin}
use Rattle.psy_dates.specs.Beginnings.{agent_in, beginning_of, behind, committed_by, committed_of, is_silent_by, starts_by, stream_in, variable_in}
use Rattle.psy_dates.specs.declared.opening.AgentOpening.{AgentOpening}
use Rattle.psy_dates.specs.declared.opening.Begun.{Begun}
use Rattle.psy_dates.specs.declared.opening.NextAction.{NextAction}
use Rattle.psy_dates.specs.declared.opening.Opening.{Opening as State}
use Rattle.psy_dates.specs.declared.opening.StreamOpening.{StreamOpening}
use Rattle.psy_dates.specs.declared.opening.VarOpening.{VarOpening}
use Rattle.psy_dates.specs.declared.plan.Plan.{Plan}
use Rattle.psy_dates.specs.declared.seat.Phase.{Phase}
use Rattle.psy_dates.specs.declared.seat.Phase.TheVariants as phase
use Rattle.psy_dates.specs.declared.seat.Seat.{Seat}
use Rattle.psy_dates.specs.Plans.{IsPlan, opened_of}
use Rattle.psy_dates.specs.Standing as dates
use Rattle.psy_dates.proofs.lemmas.OwnCopies.{own_owned}
use Rattle.psy_kernel.specs.Acting.{IsOfCode}
use Rattle.psy_kernel.specs.declared.engine.Engine.TheInside.{Inside}
use Rattle.psy_kernel.specs.declared.engine.Runner.{Runner}
use Rattle.psy_kernel.specs.Freezing.{BeginWithFirst, MayLeave, action_left, agent_by, agent_left, agent_of, begun_by, begun_left, copies_left, left_on, state_by, stream_by, stream_left, variable_by, variable_left}
use Rattle.psy_kernel.specs.Resuming.{HasShapeOf}
use Rattle.psy_kernel.specs.Standing.{AgentStands, HasPartsIn, state_of, waits_on}
use Rattle.psy_kernel.specs.Starting.{is_acting, seat_at}
use Rattle.psy_kernel.proofs.CarriedOn.{Carries, EndStanding, next_carries}
use Rattle.psy_kernel.proofs.DatesDue.{LeavesReach, SameReach}
use Rattle.psy_kernel.proofs.Engines.{opening_in, order_in, run_in, turns_in}
use Rattle.psy_kernel.proofs.GetsCycle.{told}
use Rattle.psy_kernel.proofs.LeftAgents.{begins_cells, begun_same, cells_fit, committed_left, due_old, silent_left, starts_left}
use Rattle.psy_kernel.proofs.NoneLeft.{never_held, queue_none, reach_none}
use Rattle.psy_kernel.proofs.RunsDone.{IsDone, agent_at, before, last, none_unknown, quantum_some, seat_there, shares, sits, turns_all}
use Rattle.psy_kernel.proofs.SummaryLines.{count_told, held_told, least_told, reach_told}
use Rattle.psy_kernel.proofs.UnderWay.{Stands, stands}

-- ---- where a run begins

-- The opening of a run has nothing of what the program hasn't.
module _ (plan : Plan) where
  abbrev begins : Option State → Opening
  begins o = beginning_of plan o

  none_in : (state : State) (agent : ℕ) → length state.agents ≤ agent → agent_in state agent ≡ record { begun = None; count = 0; slack = None }
  none_in state agent past = get_or_past state.agents agent (record { begun = None; count = 0; slack = None }) past

  none_silent : (o : Option State) → HasPartsIn plan.unit o → (agent : ℕ) → length plan.unit.agents ≤ agent → (begins o).silent agent ≡ false
  none_silent None parts agent past = refl
  none_silent (Some state) parts agent past = ap (λ (a : AgentOpening). is_silent_by a.begun) (none_in state agent (omega (arith, past, parts.agents)))

  none_counted : (o : Option State) → HasPartsIn plan.unit o → (agent : ℕ) → length plan.unit.agents ≤ agent → (begins o).count agent ≡ 0
  none_counted None parts agent past = refl
  none_counted (Some state) parts agent past = ap (λ (a : AgentOpening). a.count) (none_in state agent (omega (arith, past, parts.agents)))

  none_slack : (o : Option State) → HasPartsIn plan.unit o → (agent : ℕ) → length plan.unit.agents ≤ agent → (begins o).slack agent ≡ None
  none_slack None parts agent past = refl
  none_slack (Some state) parts agent past = ap (λ (a : AgentOpening). a.slack) (none_in state agent (omega (arith, past, parts.agents)))

  none_reached : (o : Option State) → HasPartsIn plan.unit o → (variable : ℕ) → length plan.unit.variables ≤ variable → (begins o).reach variable ≡ None
  none_reached None parts variable past = refl
  none_reached (Some state) parts variable past =
      ap (λ (v : VarOpening). v.reach) (get_or_past state.variables variable (record { values = []; reach = None }) (omega (arith, past, parts.variables)))

  none_in_stream : (state : State) (stream : ℕ) → length state.streams ≤ stream → stream_in state stream ≡ record { held = 0; messages = [] }
  none_in_stream state stream past = get_or_past state.streams stream (record { held = 0; messages = [] }) past

  none_held : (o : Option State) → HasPartsIn plan.unit o → (stream : ℕ) → length plan.unit.streams ≤ stream → (begins o).messages stream ≡ []
  none_held None parts stream past = refl
  none_held (Some state) parts stream past = ap (λ (q : StreamOpening). q.messages) (none_in_stream state stream (omega (arith, past, parts.streams)))

  none_most : (o : Option State) → HasPartsIn plan.unit o → (stream : ℕ) → length plan.unit.streams ≤ stream → (begins o).most stream ≡ 0
  none_most None parts stream past = refl
  none_most (Some state) parts stream past = ap (λ (q : StreamOpening). q.held) (none_in_stream state stream (omega (arith, past, parts.streams)))

-- ---- a plan that fits

-- A variable that there isn't has no owner,
pub no_owner : (plan : Plan) (variable agent : ℕ) → length plan.unit.variables ≤ variable → (variable_at plan.unit variable).owner ≡ Some agent → ⊥
no_owner plan variable agent past owned =
    (let none : None ≡ Some agent = sym (ap (λ (v : VarDecl). v.owner) (get_or_past plan.unit.variables variable no_variable past)) ∙ owned in cc)

module _ (plan : Plan) (is : IsPlan plan) where
  -- and that of one that there is is known.
  pub owner_known : (variable agent : ℕ) → variable < length plan.unit.variables → (variable_at plan.unit variable).owner ≡ Some agent → agent < length plan.unit.agents
  owner_known variable agent less owned =
      let bare : IsBareVariable plan.unit (variable_at plan.unit variable) = All-get_or (IsBareVariable plan.unit) plan.unit.variables variable no_variable less is.fits.bare.variables in
      subst (OwnedWithin (length plan.unit.agents)) owned bare.owner

  -- Each action is what its code came to.
  module _ (opening : Opening) (inputs : List (List ℤ)) (stalls : ℕ → List Stall) where
    abbrev its_runs : Action → Type 0
    its_runs = Runs (opened_of plan opening inputs stalls) (Listed is.ways) plan.code

    abbrev of_its_code : Action → Type 0
    of_its_code = IsOfCode (opened_of plan opening inputs stalls) plan.code

    of_code_by : (dates agent : ℕ) (rs : List Action) → WereStarted (opened_of plan opening inputs stalls) dates agent rs → All its_runs rs → All of_its_code rs
    of_code_by dates agent [] w all = All-nil of_its_code
    of_code_by dates agent (r ∷ more) w all =
        let t = told plan opening inputs stalls is dates agent more r w.0 in
        All-cons of_its_code r more
        (record { deeds = t.0; after = t.1; charge = t.2; verdict = t.3; ways = Listed is.ways; runs = All-head its_runs r more all })
        (of_code_by dates agent more w.1 (All-tail its_runs r more all))

    pub all_of_code : IsLawful (opened_of plan opening inputs stalls) → ((dates agent : ℕ) → All its_runs (history (opened_of plan opening inputs stalls) dates agent))
        → (dates agent : ℕ) → All of_its_code (history (opened_of plan opening inputs stalls) dates agent)
    all_of_code lawful runs dates agent = of_code_by dates agent (history (opened_of plan opening inputs stalls) dates agent) (lawful.actions dates agent).were_started (runs dates agent)

-- ---- lists of what is left

module _ {X : Type 0} (f : ℕ → X) (n i : ℕ) where
  pub made_at : (d : X) → i < n → get_or (map f (range_with_len 0 n)) i d ≡ f i
  made_at d less = get_or-map-range_with_len f 0 n i i d less (omega arith)

  pub made_past : (d : X) → n ≤ i → get_or (map f (range_with_len 0 n)) i d ≡ d
  made_past d past = get_or_past (map f (range_with_len 0 n)) i d (omega (arith, past, length-map-range_with_len f 0 n))

  pub made_there : i < n → slice_get (map f (range_with_len 0 n)) i ≡ Some (f i)
  made_there less =
      slice_get-get_or (map f (range_with_len 0 n)) i (f i) (omega (arith, less, length-map-range_with_len f 0 n)) ∙ ap Some (made_at (f i) less)

  pub made_none : n ≤ i → slice_get (map f (range_with_len 0 n)) i ≡ None
  made_none past = slice_get_past (map f (range_with_len 0 n)) i (omega (arith, past, length-map-range_with_len f 0 n))

some_begun : (p : Phase) (x y : Begun) → begun_by p x ≡ Some y → x ≡ y
some_begun phase.Waiting x y e = absurd (cc)
some_begun phase.Acting x y e = cc
some_begun phase.Ended x y e = cc
some_begun phase.Stopped x y e = cc
some_begun phase.Silent x y e = cc

-- ---- what is left

module _ (k : Inside) where
  abbrev s : System
  s = run_in k

  abbrev until : ℕ
  until = k.plan.until

  abbrev committed : List ℤ
  committed = k.shared.committed.items

  abbrev seats : List Seat
  seats = k.shared.seats.items

  abbrev by_agent : ℕ → AgentOpening
  by_agent = agent_left k.plan.code committed seats k.runners.items

  abbrev by_variable : ℕ → VarOpening
  by_variable = variable_left k.shared.rings.items k.reaches.items

  abbrev by_stream : ℕ → StreamOpening
  by_stream = stream_left k.shared.queues.items k.helds.items

  abbrev pub state_left : State
  state_left = record {
    date = until;
    agents = map by_agent (range_with_len 0 (length k.runners.items));
    variables = map by_variable (range_with_len 0 (length k.shared.rings.items));
    streams = map by_stream (range_with_len 0 (length k.shared.queues.items));
  }

  -- What is read of the parts is what they are.
  pub agents_read : (values : List ℤ) (sat : List Seat) (runners : List Runner) (agents : List AgentOpening) → agents ≡ map (agent_left k.plan.code values sat runners) (range_with_len 0 (length runners))
      → values ≡ committed → sat ≡ seats → runners ≡ k.runners.items → agents ≡ state_left.agents
  agents_read values sat runners agents is a b c =
      is ∙ ap (λ xs. map (agent_left k.plan.code xs sat runners) (range_with_len 0 (length runners))) a
      ∙ ap (λ xs. map (agent_left k.plan.code committed xs runners) (range_with_len 0 (length runners))) b
      ∙ ap (λ xs. map (agent_left k.plan.code committed seats xs) (range_with_len 0 (length xs))) c

  pub variables_read : (rings : List (List ℤ)) (reaches : List (Option ℕ)) (variables : List VarOpening) → variables ≡ map (variable_left rings reaches) (range_with_len 0 (length rings))
      → rings ≡ k.shared.rings.items → reaches ≡ k.reaches.items → variables ≡ state_left.variables
  variables_read rings reaches variables is a b =
      is ∙ ap (λ xs. map (variable_left xs reaches) (range_with_len 0 (length xs))) a
      ∙ ap (λ xs. map (variable_left k.shared.rings.items xs) (range_with_len 0 (length k.shared.rings.items))) b

  pub streams_read : (queues : List Queued) (helds : List ℕ) (streams : List StreamOpening) → streams ≡ map (stream_left queues helds) (range_with_len 0 (length queues))
      → queues ≡ k.shared.queues.items → helds ≡ k.helds.items → streams ≡ state_left.streams
  streams_read queues helds streams is a b =
      is ∙ ap (λ xs. map (stream_left xs helds) (range_with_len 0 (length xs))) a
      ∙ ap (λ xs. map (stream_left k.shared.queues.items xs) (range_with_len 0 (length k.shared.queues.items))) b

  pub state_read : (date : ℕ) (agents : List AgentOpening) (variables : List VarOpening) (streams : List StreamOpening) → date ≡ until → agents ≡ state_left.agents → variables ≡ state_left.variables → streams ≡ state_left.streams
      → ◌≡◌ {A = State} (record { date = date; agents = agents; variables = variables; streams = streams }) state_left
  state_read date agents variables streams a b c d = λ i. record { date = a i; agents = b i; variables = c i; streams = d i }

  module _ (at : IsDone k) where
    sound : IsSound s (Listed at.stands.plan.ways) k.plan.code
    sound = at.stands.sound at.stands.plan

    abbrev its : ℕ → AgentCode
    its agent = agent_code_at k.plan.code agent

    abbrev old : ℕ → List Action
    old agent = history s until agent

    abbrev turns : ℕ → List (Option Turn)
    turns agent = turns_by s (order_in k) (until * s.unit.quantum) agent

    -- ---- variables and streams

    -- A ring has its size.
    pub sized : (variable : ℕ) → variable < length k.shared.rings.items → length (get_or k.shared.rings.items variable []) ≡ get_or k.plan.sizes.rings variable 0
    sized variable less = dates.RingStands.size ((shares k at).rings variable (get_or k.shared.rings.items variable []) (slice_get-get_or k.shared.rings.items variable [] less))

    published_is : (variable : ℕ) → (variable_in state_left variable).values ≡ ring_of s (suc until) variable (get_or k.plan.sizes.rings variable 0)
    published_is variable = elim (cases_lt variable (length k.shared.rings.items)) [
      | inl less ↦ (
          let ring = get_or k.shared.rings.items variable [] in
          let stood = (shares k at).rings variable ring (slice_get-get_or k.shared.rings.items variable [] less) in
          ap (λ (v : VarOpening). v.values) (made_at by_variable (length k.shared.rings.items) variable (record { values = []; reach = None }) less)
          ∙ stood.values ∙ ap (ring_of s (suc until) variable) stood.size)
      | inr past ↦ (
          let none : get_or k.plan.sizes.rings variable 0 ≡ 0 = get_or_past k.plan.sizes.rings variable 0 (omega (arith, past, at.stands.plan.buffers.rings.count, (shares k at).ringed)) in
          ap (λ (v : VarOpening). v.values) (made_past by_variable (length k.shared.rings.items) variable (record { values = []; reach = None }) past)
          ∙ sym (ap (ring_of s (suc until) variable) none))
    ]

    messages_is : ((dates agent : ℕ) → All (λ (r : Action). All (IsSentBy (Listed at.stands.plan.ways) s.unit) r.deeds.sends) (history s dates agent))
        → (stream : ℕ) → (stream_in state_left stream).messages ≡ queue_of s (suc until) stream
    messages_is sends stream = elim (cases_lt stream (length k.shared.queues.items)) [
      | inl less ↦ (
          let empty : Queued = record { size = 0; messages = [] } in
          let queue = get_or k.shared.queues.items stream empty in
          let stood = (shares k at).queues stream queue (slice_get-get_or k.shared.queues.items stream empty less) in
          ap (λ (q : StreamOpening). q.messages) (made_at by_stream (length k.shared.queues.items) stream (record { held = 0; messages = [] }) less) ∙ stood.messages)
      | inr past ↦ (
          let beyond : length k.plan.unit.streams ≤ stream = omega (arith, past, (shares k at).queued) in
          ap (λ (q : StreamOpening). q.messages) (made_past by_stream (length k.shared.queues.items) stream (record { held = 0; messages = [] }) past)
          ∙ sym (queue_none s (Listed at.stands.plan.ways) sends stream beyond (none_held k.plan k.opening at.stands.parts stream beyond) until))
    ]

    most_is : ((dates agent : ℕ) → All (λ (r : Action). All (IsSentBy (Listed at.stands.plan.ways) s.unit) r.deeds.sends) (history s dates agent))
        → (stream : ℕ) → (stream_in state_left stream).held ≡ most_held s until stream
    most_is sends stream = elim (cases_lt stream (length k.shared.queues.items)) [
      | inl less ↦
          ap (λ (q : StreamOpening). q.held) (made_at by_stream (length k.shared.queues.items) stream (record { held = 0; messages = [] }) less)
          ∙ held_told k at.stands at.done at.homes stream (omega (arith, less, (shares k at).queued))
      | inr past ↦ (
          let beyond : length k.plan.unit.streams ≤ stream = omega (arith, past, (shares k at).queued) in
          ap (λ (q : StreamOpening). q.held) (made_past by_stream (length k.shared.queues.items) stream (record { held = 0; messages = [] }) past)
          ∙ sym (never_held s (Listed at.stands.plan.ways) sends stream beyond (none_held k.plan k.opening at.stands.parts stream beyond) (none_most k.plan k.opening at.stands.parts stream beyond) until))
    ]

    -- each action is what its code came to
    module _ (runs : (dates agent : ℕ) → All (Runs s (Listed at.stands.plan.ways) k.plan.code) (history s dates agent)) where
      of_code : (dates agent : ℕ) → All (IsOfCode s k.plan.code) (history s dates agent)
      of_code = all_of_code k.plan at.stands.plan (opening_in k) k.shared.inputs.lists (stalls_of k.script) at.lawful runs

      reach_is : LeavesReach → SameReach → (variable : ℕ) → (variable_in state_left variable).reach ≡ reach s turns (history s until) variable
      reach_is leaves same variable = elim (cases_lt variable (length k.shared.rings.items)) [
        | inl less ↦
            ap (λ (v : VarOpening). v.reach) (made_at by_variable (length k.shared.rings.items) variable (record { values = []; reach = None }) less)
            ∙ reach_told k at.stands at.done at.homes same variable (omega (arith, less, (shares k at).ringed))
            ∙ leaves s (order_in k) until (until * s.unit.quantum) variable at.lawful (quantum_some k at) (omega arith)
        | inr past ↦ (
            let beyond : length k.plan.unit.variables ≤ variable = omega (arith, past, (shares k at).ringed) in
            ap (λ (v : VarOpening). v.reach) (made_past by_variable (length k.shared.rings.items) variable (record { values = []; reach = None }) past)
            ∙ sym (reach_none s k.plan.code of_code variable beyond turns until (none_reached k.plan k.opening at.stands.parts variable beyond)))
      ]

    -- ---- agents

    module _ (agent : ℕ) where
      abbrev seat : Seat
      seat = seat_at seats agent

      -- An agent that there isn't
      none_known : length k.plan.unit.agents ≤ agent → agent_in state_left agent ≡ record { begun = None; count = 0; slack = None }
      none_known past = made_past by_agent (length k.runners.items) agent (record { begun = None; count = 0; slack = None }) (omega (arith, past, at.stands.run))

      none_old : length k.plan.unit.agents ≤ agent → old agent ≡ []
      none_old past = none_unknown k at until agent past

      -- and one that there is, with what it runs
      module _ (runner : Runner) (there : slice_get k.runners.items agent ≡ Some runner) where
        abbrev cells : List ℤ
        cells = runner.machine.machine.home.cells

        less : agent < length k.plan.unit.agents
        less = omega (arith, slice_get_within k.runners.items agent runner there, at.stands.run)

        abbrev begun : Option Begun
        begun = begun_left (its agent).copies committed seat cells

        by_agent_is : by_agent agent ≡ record { begun = begun; count = runner.figure.count; slack = runner.figure.slack }
        by_agent_is = ap (agent_by (its agent) committed seat) there

        known_is : agent_in state_left agent ≡ record { begun = begun; count = runner.figure.count; slack = runner.figure.slack }
        known_is = made_at by_agent (length k.runners.items) agent (record { begun = None; count = 0; slack = None }) (slice_get_within k.runners.items agent runner there) ∙ by_agent_is

        listed : slice_get state_left.agents agent ≡ Some (record { begun = begun; count = runner.figure.count; slack = runner.figure.slack })
        listed = made_there by_agent (length k.runners.items) agent (slice_get_within k.runners.items agent runner there) ∙ ap Some by_agent_is

        runs_so : AgentStands s k.plan.code (turns agent) until agent (history s (suc until) agent) runner (waits_on k.plan.unit k.servers.items agent)
        runs_so =
            subst (λ ts. AgentStands s k.plan.code ts until agent (history s (suc until) agent) runner (waits_on k.plan.unit k.servers.items agent)) (turns_all k at agent)
            (subst (λ d. AgentStands s k.plan.code (turns_in k agent) until agent (history s d agent) runner (waits_on k.plan.unit k.servers.items agent)) (last k at) (at.stands.agents agent runner there))

        stood : IsQuiet s until → Stands s until agent (turns agent) (agent_at k at agent) seat
        stood quiet = stands s until agent (turns agent) (agent_at k at agent) seat (sits k at agent seat (seat_there k at agent less)) (quiet agent)

        -- ---- its shape

        module _ (ended : EndStanding) (quiet : IsQuiet s until) where
          carry : (n : Next) → next_of s agent (old agent) ≡ Some n → Carries k.plan at.stands.plan (opening_in k) k.shared.inputs.lists (stalls_of k.script) agent n.carried
          carry n e =
              next_carries k.plan at.stands.plan (opening_in k) k.shared.inputs.lists (stalls_of k.script) sound ended until agent (old agent) (at.lawful.actions until agent).were_started n e

          fit : is_acting seat.phase ≡ true → length cells ≡ length (its agent).cells
          fit acts =
              cells_fit k.plan at.stands.plan (opening_in k) k.shared.inputs.lists (stalls_of k.script) sound until agent (turns agent) (agent_at k at agent) seat until runner
              (waits_on k.plan.unit k.servers.items agent) runs_so carry (stood quiet) acts

          copies_fit : (b : Begun) → begun ≡ Some b → length b.copies ≡ length (its agent).copies
          copies_fit b e =
              let all : Begun = record { copies = copies_left (its agent).copies committed; action = action_left seat cells } in
              ap (λ (x : Begun). length x.copies) (sym (some_begun seat.phase all b e)) ∙ length-map (its agent).copies (λ (c : CopyInit). get_or committed c.variable (pos 0))

          action_fit : (b : Bool) (action : NextAction) → (b ≡ true → length cells ≡ length (its agent).cells)
              → (if b then Some (record { number = seat.number; point = seat.point; cells = cells }) else None) ≡ Some action → length action.cells ≡ length (its agent).cells
          action_fit true action fits e = (let same : record { number = seat.number; point = seat.point; cells = cells } ≡ action = cc in ap (λ (a : NextAction). length a.cells) (sym same) ∙ fits refl)
          action_fit false action fits e = absurd (cc)

          cells_are : (b : Begun) (action : NextAction) → begun ≡ Some b → b.action ≡ Some action → length action.cells ≡ length (its agent).cells
          cells_are b action e acts =
              let all : Begun = record { copies = copies_left (its agent).copies committed; action = action_left seat cells } in
              action_fit (is_acting seat.phase) action fit (ap (λ (x : Begun). x.action) (some_begun seat.phase all b e) ∙ acts)

        -- ---- its figures

        module _ (due : (other : ℕ) (r : Action) → IsSupplied s (order_in k) until → Contains (history s until other) r → r.deadline ≤ until → IsFinished s (order_in k) (until * s.unit.quantum) r) where
          due_same : due_by until (history s (until + 1) agent) ≡ due_by until (old agent)
          due_same =
              ap (λ d. due_by until (history s d agent)) (add-one until)
              ∙ due_old k.plan at.stands.plan (opening_in k) k.shared.inputs.lists (stalls_of k.script) sound until agent (turns agent) (agent_at k at agent)

          count_left : runner.figure.count ≡ due_count s agent (due_by until (old agent))
          count_left = count_told k at.stands at.done at.homes at.lawful due agent runner there ∙ ap (due_count s agent) due_same

          slack_left : runner.figure.slack ≡ least_slack s (turns agent) agent (due_by until (old agent))
          slack_left = least_told k at.stands at.done at.homes at.lawful due agent runner there ∙ ap (least_slack s (turns agent) agent) due_same

      -- ---- by its number

      some_runner : agent < length k.plan.unit.agents → (runner : Runner) × (slice_get k.runners.items agent ≡ Some runner)
      some_runner known = some_at k.runners.items agent (omega (arith, known, at.stands.run))

      silent_is : IsQuiet s until → is_silent_by (agent_in state_left agent).begun ≡ rests ((opening_in k).silent agent) until (old agent)
      silent_is quiet = elim (cases_lt agent (length k.plan.unit.agents)) [
        | inl known ↦ (
            let (runner, there) = some_runner known in
            ap (λ (a : AgentOpening). is_silent_by a.begun) (known_is runner there)
            ∙ silent_left k.plan at.stands.plan (opening_in k) k.shared.inputs.lists (stalls_of k.script) sound until agent (turns agent) (agent_at k at agent) seat committed (cells runner there) (stood runner there quiet))
        | inr past ↦
            ap (λ (a : AgentOpening). is_silent_by a.begun) (none_known past)
            ∙ sym (ap (rests ((opening_in k).silent agent) until) (none_old past) ∙ none_silent k.plan k.opening at.stands.parts agent past)
      ]

      no_start : length k.plan.unit.agents ≤ agent → (o : Option Next) → s.opening.starts agent ≡ o → o ≡ None
      no_start past None e = refl
      no_start past (Some n) e = absurd (let known = (sound.known agent n e).0 in omega (arith, known, past))

      values : (variable : ℕ) → variable < length k.plan.unit.variables → (variable_of s variable).owner ≡ Some agent → get_or committed variable (pos 0) ≡ committed_in s variable until (history s (suc until) agent)
      values variable known owned =
          (shares k at).committed variable (get_or committed variable (pos 0)) (slice_get-get_or committed variable (pos 0) (omega (arith, known, (shares k at).valued)))
          ∙ ap (dates.committed_at s (history s (suc until)) variable) (before k at) ∙ ap (dates.committed_by s (history s (suc until)) variable until) owned

      starts_is : EndStanding → IsQuiet s until → BeginWithFirst k.plan → found_in (slice_get state_left.agents agent) (λ (a : AgentOpening). starts_by k.plan until agent a.begun) ≡ next_of s agent (old agent)
      starts_is ended quiet first = elim (cases_lt agent (length k.plan.unit.agents)) [
        | inl known ↦ (
            let (runner, there) = some_runner known in
            ap (λ o. found_in o (λ (a : AgentOpening). starts_by k.plan until agent a.begun)) (listed runner there)
            ∙ starts_left k.plan at.stands.plan (opening_in k) k.shared.inputs.lists (stalls_of k.script) sound until agent (turns agent) (agent_at k at agent) seat committed (cells runner there) known first values
            (begins_cells k.plan at.stands.plan (opening_in k) k.shared.inputs.lists (stalls_of k.script) sound until agent (turns agent) (agent_at k at agent) seat until runner
            (waits_on k.plan.unit k.servers.items agent) (runs_so runner there))
            (carry runner there ended quiet) (stood runner there quiet))
        | inr past ↦
            ap (λ o. found_in o (λ (a : AgentOpening). starts_by k.plan until agent a.begun)) (made_none by_agent (length k.runners.items) agent (omega (arith, past, at.stands.run)))
            ∙ sym (ap (next_of s agent) (none_old past) ∙ no_start past (s.opening.starts agent) refl)
      ]

      -- the variables that it owns
      committed_own : IsQuiet s until → BeginWithFirst k.plan → agent < length k.plan.unit.agents → (variable : ℕ) (v : VarDecl) → slice_get k.plan.unit.variables variable ≡ Some v → v.owner ≡ Some agent
          → committed_of k.plan state_left variable (Some agent) ≡ committed_in s variable until (old agent)
      committed_own quiet first known variable v at_v owner =
          let (runner, there) = some_runner known in
          ap (λ (a : AgentOpening). committed_by k.plan agent variable a.begun) (known_is runner there)
          ∙ committed_left k.plan at.stands.plan (opening_in k) k.shared.inputs.lists (stalls_of k.script) sound until agent (turns agent) (agent_at k at agent) seat committed (cells runner there) known first values
          variable v at_v owner (stood runner there quiet)

      module _ (due : (other : ℕ) (r : Action) → IsSupplied s (order_in k) until → Contains (history s until other) r → r.deadline ≤ until → IsFinished s (order_in k) (until * s.unit.quantum) r) where
        count_is : (agent_in state_left agent).count ≡ due_count s agent (due_by until (old agent))
        count_is = elim (cases_lt agent (length k.plan.unit.agents)) [
          | inl known ↦ (let (runner, there) = some_runner known in ap (λ (a : AgentOpening). a.count) (known_is runner there) ∙ count_left runner there due)
          | inr past ↦
              ap (λ (a : AgentOpening). a.count) (none_known past)
              ∙ sym (ap (λ rs. due_count s agent (due_by until rs)) (none_old past) ∙ ap (λ n. added_to n 0) (none_counted k.plan k.opening at.stands.parts agent past))
        ]

        slack_is : (agent_in state_left agent).slack ≡ least_slack s (turns agent) agent (due_by until (old agent))
        slack_is = elim (cases_lt agent (length k.plan.unit.agents)) [
          | inl known ↦ (let (runner, there) = some_runner known in ap (λ (a : AgentOpening). a.slack) (known_is runner there) ∙ slack_left runner there due)
          | inr past ↦
              ap (λ (a : AgentOpening). a.slack) (none_known past)
              ∙ sym (ap (λ rs. least_slack s (turns agent) agent (due_by until rs)) (none_old past) ∙ ap (λ o. least_of (numbers_in o ++ [])) (none_slack k.plan k.opening at.stands.parts agent past))
        ]

    -- ---- what is committed, by variable

    committed_by_owner : IsQuiet s until → BeginWithFirst k.plan → (variable : ℕ) (owner : Option ℕ) → (variable_of s variable).owner ≡ owner → committed_of k.plan state_left variable owner ≡ committed_at s until variable owner
    committed_by_owner quiet first variable None e = sym (sound.inputs variable e)
    committed_by_owner quiet first variable (Some agent) e = elim (cases_lt variable (length k.plan.unit.variables)) [
      | inl less ↦ committed_own agent quiet first (owner_known k.plan at.stands.plan variable agent less e) variable (variable_of s variable) (slice_get-get_or k.plan.unit.variables variable no_variable less) e
      | inr past ↦ absurd (no_owner k.plan variable agent past e)
    ]

    -- ---- all of it

    -- It has the shape of the program,
    pub shape_left : EndStanding → IsQuiet s until → HasShapeOf k.plan state_left
    shape_left ended quiet = record {
      agents = length-map-range_with_len by_agent 0 (length k.runners.items) ∙ at.stands.run;
      variables = length-map-range_with_len by_variable 0 (length k.shared.rings.items) ∙ (shares k at).ringed;
      streams = length-map-range_with_len by_stream 0 (length k.shared.queues.items) ∙ (shares k at).queued;
      near = omega arith;
      copies = λ agent b e. elim (cases_lt agent (length k.plan.unit.agents)) [
        | inl known ↦ (
            let (runner, there) = some_runner agent known in
            copies_fit agent runner there ended quiet b (sym (ap (λ (a : AgentOpening). a.begun) (known_is agent runner there)) ∙ e))
        | inr past ↦ absurd (let none : None ≡ Some b = sym (ap (λ (a : AgentOpening). a.begun) (none_known agent past)) ∙ e in cc)
      ];
      cells = λ agent b action e acts. elim (cases_lt agent (length k.plan.unit.agents)) [
        | inl known ↦ (
            let (runner, there) = some_runner agent known in
            cells_are agent runner there ended quiet b action (sym (ap (λ (a : AgentOpening). a.begun) (known_is agent runner there)) ∙ e) acts)
        | inr past ↦ absurd (let none : None ≡ Some b = sym (ap (λ (a : AgentOpening). a.begun) (none_known agent past)) ∙ e in cc)
      ];
    }

    -- its agents' working copies are of variables that there are,
    pub all_may : (agent : ℕ) → agent < length k.runners.items → MayLeave (agent_code_at k.plan.code agent) committed
    all_may agent less = λ place d within.
        let known : agent < length k.plan.unit.agents = omega (arith, less, at.stands.run) in
        let c = get_or (its agent).copies place d in
        let own = own_owned agent k.plan.unit.variables (its agent).copies (at.stands.plan.fits.parts.each agent known).copies place c (slice_get-get_or (its agent).copies place d within) in
        omega (arith, slice_get_within k.plan.unit.variables c.variable own.0 own.1, (shares k at).valued)

    -- it is the one state of what the history leaves, and what it stands for is just that.
    module _ (ended : EndStanding) (quiet : IsQuiet s until)
        (sends : (dates agent : ℕ) → All (λ (r : Action). All (IsSentBy (Listed at.stands.plan.ways) s.unit) r.deeds.sends) (history s dates agent))
        (runs : (dates agent : ℕ) → All (Runs s (Listed at.stands.plan.ways) k.plan.code) (history s dates agent)) (leaves : LeavesReach) (same : SameReach)
        (due : (other : ℕ) (r : Action) → IsSupplied s (order_in k) until → Contains (history s until other) r → r.deadline ≤ until → IsFinished s (order_in k) (until * s.unit.quantum) r) where
      abbrev that : Opening
      that = behind k.plan state_left

      abbrev left : Opening
      left = opening_at s k.plan.sizes.rings turns until

      starts_same : BeginWithFirst k.plan → that.starts ≡ left.starts
      starts_same first = fun_ext (λ agent. starts_is agent ended quiet first)

      silent_same : that.silent ≡ left.silent
      silent_same = fun_ext (λ agent. silent_is agent quiet)

      committed_same : BeginWithFirst k.plan → that.committed ≡ left.committed
      committed_same first = fun_ext (λ variable. committed_by_owner quiet first variable (variable_of s variable).owner refl)

      published_same : that.published ≡ left.published
      published_same = fun_ext published_is

      messages_same : that.messages ≡ left.messages
      messages_same = fun_ext (messages_is sends)

      count_same : that.count ≡ left.count
      count_same = fun_ext (λ agent. count_is agent due)

      slack_same : that.slack ≡ left.slack
      slack_same = fun_ext (λ agent. slack_is agent due)

      reach_same : that.reach ≡ left.reach
      reach_same = fun_ext (reach_is runs leaves same)

      most_same : that.most ≡ left.most
      most_same = fun_ext (most_is sends)

      -- ---- the one state of it

      abbrev one : State
      one = state_by k.plan left

      agent_same : (agent : ℕ) → agent < length k.plan.unit.agents → agent_in state_left agent ≡ agent_of k.plan left agent
      agent_same agent less =
          let (runner, there) = some_runner agent less in
          let cells = runner.machine.machine.home.cells in
          let begun = begun_same k.plan at.stands.plan (opening_in k) k.shared.inputs.lists (stalls_of k.script) sound until agent (turns agent) (agent_at k at agent) (seat agent) committed cells less (values agent)
          (begins_cells k.plan at.stands.plan (opening_in k) k.shared.inputs.lists (stalls_of k.script) sound until agent (turns agent) (agent_at k at agent) (seat agent) until runner
          (waits_on k.plan.unit k.servers.items agent) (runs_so agent runner there)) (stood agent runner there quiet) in
          let its_count = count_left agent runner there due in
          let its_slack = slack_left agent runner there due in
          known_is agent runner there ∙ (λ i. record { begun = begun i; count = its_count i; slack = its_slack i })

      variable_same : (variable : ℕ) → variable_in state_left variable ≡ variable_by left variable
      variable_same variable = (let values = published_is variable in let reached = reach_is runs leaves same variable in λ i. record { values = values i; reach = reached i })

      stream_same : (stream : ℕ) → stream_in state_left stream ≡ stream_by left stream
      stream_same stream = (let most = most_is sends stream in let messages = messages_is sends stream in λ i. record { held = most i; messages = messages i })

      pub state_same : state_left ≡ state_by k.plan (left_on (state_of k))
      state_same =
          let agents = fill_by_all (agent_of k.plan left) state_left.agents (length k.plan.unit.agents) (record { begun = None; count = 0; slack = None })
          (length-map-range_with_len by_agent 0 (length k.runners.items) ∙ at.stands.run) agent_same in
          let variables = fill_by_all (variable_by left) state_left.variables (length k.plan.unit.variables) (record { values = []; reach = None })
          (length-map-range_with_len by_variable 0 (length k.shared.rings.items) ∙ (shares k at).ringed) (λ variable less. variable_same variable) in
          let streams = fill_by_all (stream_by left) state_left.streams (length k.plan.unit.streams) (record { held = 0; messages = [] })
          (length-map-range_with_len by_stream 0 (length k.shared.queues.items) ∙ (shares k at).queued) (λ stream less. stream_same stream) in
          sym (state_read one.date one.agents one.variables one.streams (before k at) (sym agents) (sym variables) (sym streams))

      pub opened_left : BeginWithFirst k.plan → behind k.plan state_left ≡ left_on (state_of k)
      opened_left first = λ i. record {
        dates = add-one until i;
        starts = starts_same first i;
        silent = silent_same i;
        committed = committed_same first i;
        published = published_same i;
        messages = messages_same i;
        count = count_same i;
        slack = slack_same i;
        reach = reach_same i;
        most = most_same i;
      }
