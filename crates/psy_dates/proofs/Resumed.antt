-- What the agents share behind the date of a state stands for the history that begins there.
use Rattle.std.proofs.Common.{◌≡◌, ℕ, suc, ◌+◌, ◌-◌, ◌<◌, ◌≤◌, Bool, true, false, List, [], ◌∷◌, All, length, get_or, Option, Some, None, refl, sym, ap, subst, ◌∙◌, inl, inr, arith}
use Rattle.std.specs.Prelude.{option_map, slice_get, ◌==◌, ◌≢◌, ⊤, ℤ}
use Rattle.std.specs.List.{AllPairs}
use Rattle.std.specs.Option.{is_none}
use Rattle.std.proofs.lemmas.Bool.{cases_eq, cond-true, cond-false, eq-eqb, ne_eqb}
use Rattle.std.proofs.lemmas.List.{get_or_default}
use Rattle.std.proofs.lemmas.Option.{get_or_from_slice_get, same_Some, slice_get-get_or, slice_get_within}
use Rattle.psy_base.specs.declared.limits.TheConstants.{QUEUE, RING}
use Rattle.psy_budget.specs.declared.charge.Stall.{Stall}
use Rattle.psy_code.specs.Views.{found_in}
use Rattle.psy_history.specs.Actions.{Action, Next, System, first_action, timing, variable_of}
use Rattle.psy_history.specs.Actions as action
use Rattle.psy_history.specs.Executors.{by_code}
use Rattle.psy_history.specs.History.{history}
use Rattle.psy_history.specs.Queues.{queue_of}
use Rattle.psy_history.specs.Regular.{IsLawful}
use Rattle.psy_history.specs.Rings.{ring_of}
use Rattle.psy_history.specs.Schedule.{Turn, units}
use Rattle.psy_history.specs.Visible.{committed_in, taken}
use Rattle.psy_meaning.specs.KnownWays.{Listed}
use Rattle.psy_meaning.specs.Timing.{Timing, first_date}
use Rattle.psy_queue.specs.Order.{comes_before}
use Rattle.psy_tree.specs.Parts.{variable_at}
use Rattle.psy_dates.specs.declared.opening.AgentOpening.{AgentOpening}
use Rattle.psy_dates.specs.declared.opening.Begun.{Begun}
use Rattle.psy_dates.specs.declared.opening.NextAction.{NextAction}
use Rattle.psy_dates.specs.declared.opening.Opening.{Opening as State}
use Rattle.psy_dates.specs.declared.opening.StreamOpening.{StreamOpening}
use Rattle.psy_dates.specs.declared.opening.VarOpening.{VarOpening}
use Rattle.psy_dates.specs.declared.plan.Plan.{Plan}
use Rattle.psy_dates.specs.declared.seat.Phase.{Phase}
use Rattle.psy_dates.specs.declared.seat.Phase.TheVariants as phase
use Rattle.psy_dates.specs.declared.seat.Seat.{Seat}
use Rattle.psy_dates.specs.declared.shared.Shared.{Shared}
use Rattle.psy_dates.specs.Beginnings.{agent_in, behind, committed_of, is_silent_by, next_at, seat_behind, seat_of_action, starts_by, variable_in, stream_in}
use Rattle.psy_dates.specs.Calendars.{CalendarStands}
use Rattle.psy_dates.specs.Messages.{nowhere}
use Rattle.psy_dates.specs.Movers.{IsBefore, NamesAll, falls_in}
use Rattle.psy_dates.specs.Moves.{begun_at, timing_in}
use Rattle.psy_dates.specs.Outboxes.{Outboxed}
use Rattle.psy_dates.specs.Plans.{IsPlan, IsSoundFor, opened_of}
use Rattle.psy_dates.specs.Standing.{IsSeated, KeepsCopy, KeepsTakes, MoversStand, OutboxStands, QueueStands, RingStands, SharedStands, committed_by, dates_done, phase_of}
use Rattle.psy_dates.proofs.Committed.{acts_not, same_by}
use Rattle.psy_dates.proofs.Histories.{goes_on, numbered, starts, stays}
use Rattle.psy_dates.proofs.Kept.{Kept, kept_sends, kept_takes}
use Rattle.psy_dates.proofs.lemmas.Fits.{ring_size}
use Rattle.psy_dates.proofs.Opened.{ring_places}
use Rattle.psy_dates.proofs.Seats.{acting, begins, first}

-- ---- an agent's actions

-- The last of these actions is pending.
abbrev IsFresh : ℕ → List (Option Turn) → List Action → Type 0
IsFresh date turns [] = ⊤
IsFresh date turns (r ∷ before) = phase_of date turns r ≡ phase.Acting

-- What is kept of actions that have ended is kept of them, whatever it is.
fresh_kept : {X : Type 0} (nothing x : X) (of : Action → X) (date : ℕ) (turns : List (Option Turn)) (actions : List Action) → IsFresh date turns actions → x ≡ nothing → Kept nothing of date turns actions x
fresh_kept nothing x of date turns [] fresh is = is
fresh_kept nothing x of date turns (r ∷ before) fresh is = λ ended. absurd (acts_not (sym fresh ∙ ended))

fresh_copy : (date : ℕ) (turns : List (Option Turn)) (variable : ℕ) (value : ℤ) (actions : List Action) → IsFresh date turns actions → KeepsCopy date turns variable actions value
fresh_copy date turns variable value [] fresh = tt {0}
fresh_copy date turns variable value (r ∷ before) fresh = λ ended. absurd (acts_not (sym fresh ∙ ended))

module _ (s : System) (lawful : IsLawful s) (date : ℕ) (turns : List (Option Turn)) (agent : ℕ) (idle : (number : ℕ) → units agent number turns ≡ 0) (none : history s date agent ≡ []) where
  -- The agent's first action may start at the date, and is pending then.
  fresh : IsFresh date turns (history s (suc date) agent)
  fresh = from (s.opening.starts agent) refl
    where
      from : (next : Option Next) → s.opening.starts agent ≡ next → IsFresh date turns (history s (suc date) agent)
      from None e = subst (IsFresh date turns) (sym (goes_on s date agent (ap (action.next_of s agent) none ∙ e) ∙ none)) (tt {0})
      from (Some n) e =
          let next : action.next_of s agent (history s date agent) ≡ Some n = ap (action.next_of s agent) none ∙ e in
          elim (cases_eq n.start date) [
            | inl at ↦ subst (IsFresh date turns) (sym (starts s date agent n next at)) (acting s lawful date turns agent (λ number new. idle number) n next at (numbered s lawful date agent n next))
            | inr later ↦ subst (IsFresh date turns) (sym (stays s date agent n next later ∙ none)) (tt {0})
          ]

  -- What is committed stays.
  committed_is : (variable : ℕ) → s.opening.committed variable ≡ committed_in s variable date (history s (suc date) agent)
  committed_is variable = sym (same_by s lawful date turns agent variable ∙ ap (committed_in s variable date) none)

-- ---- seats

-- No seat is stopped.
action_not_stopped : (its : Timing) (date : ℕ) (a : Option NextAction) → (seat_of_action its date a).phase ≢ phase.Stopped
action_not_stopped its date None = λ e. (let no : phase.Silent ≡ phase.Stopped = e in absurd cc)
action_not_stopped its date (Some a) = λ e. (let no : phase.Acting ≡ phase.Stopped = e in absurd cc)

not_stopped : (its : Timing) (date : ℕ) (b : Option Begun) → (seat_behind its date b).phase ≢ phase.Stopped
not_stopped its date (Some b) = action_not_stopped its date b.action
not_stopped its date None = elim (cases_eq (first_date its) date) [
  | inl at ↦ (λ e. (let no : phase.Acting ≡ phase.Stopped = ap (λ (x : Seat). x.phase) (sym (cond-true (first_date its == date) (begun_at its date 0 0) nowhere (eq-eqb (first_date its) date at))) ∙ e in absurd cc))
  | inr later ↦ (λ e. (let no : phase.Waiting ≡ phase.Stopped = ap (λ (x : Seat). x.phase) (sym (cond-false (first_date its == date) (begun_at its date 0 0) nowhere (ne_eqb (first_date its) date later))) ∙ e in absurd cc))
]

-- Date 0 is before each change of a seat.
before_all : (first : ℕ) (seat : Seat) (p : Phase) → IsBefore 0 first seat p
before_all first seat phase.Waiting = omega arith
before_all first seat phase.Acting = tt {0}
before_all first seat phase.Ended = omega arith
before_all first seat phase.Stopped = omega arith
before_all first seat phase.Silent = tt {0}

-- ---- what is shared

-- What is shared behind the date of a state
pub record IsBehind (plan : Plan) (opening : State) (shared : Shared) : Type 0 where
  pub date : shared.date ≡ Some opening.date
  pub seated : length shared.seats.items ≡ length plan.unit.agents
  pub seats : (agent : ℕ) (known : AgentOpening) → slice_get opening.agents agent ≡ Some known → slice_get shared.seats.items agent ≡ Some (seat_behind (timing_in plan agent) opening.date known.begun)
  pub valued : length shared.committed.items ≡ length plan.unit.variables
  pub committed : (variable : ℕ) → variable < length plan.unit.variables → slice_get shared.committed.items variable ≡ Some (committed_of plan opening variable (variable_at plan.unit variable).owner)
  pub kept : length shared.ended.items ≡ length plan.unit.variables
  pub ringed : length shared.rings.items ≡ length plan.unit.variables
  pub rings : (variable : ℕ) (known : VarOpening) → slice_get opening.variables variable ≡ Some known → slice_get shared.rings.items variable ≡ Some known.values
  pub queued : length shared.queues.items ≡ length plan.unit.streams
  pub queues : (stream : ℕ) (known : StreamOpening) → slice_get opening.streams stream ≡ Some known
      → slice_get shared.queues.items stream ≡ Some (record { size = get_or plan.sizes.queues stream 0 + length known.messages; messages = known.messages })
  pub boxed : length shared.outboxes.items ≡ length plan.sizes.outboxes
  pub outboxes : (agent : ℕ) → agent < length plan.sizes.outboxes → slice_get shared.outboxes.items agent ≡ Some (record { size = get_or plan.sizes.outboxes agent 0; sends = [] })
  pub taking : length shared.taken.items ≡ length plan.unit.streams
  pub taken : All (λ n. n ≡ 0) shared.taken.items
  pub calendar : CalendarStands plan.unit.clocks (opening.date + 1) shared.calendar
  pub room : shared.movers.moved.size ≡ length shared.seats.items
  pub names : (test : ℕ → Bool) → NamesAll test (length shared.seats.items) 0 shared.movers.moved.agents
  pub least : shared.movers.least ≡ 0
  pub stopped : shared.movers.stopped ≡ false → (agent : ℕ) (seat : Seat) → slice_get shared.seats.items agent ≡ Some seat → seat.phase ≢ phase.Silent

-- The state has the program's agents, variables and streams.
pub record HasParts (plan : Plan) (opening : State) : Type 0 where
  pub agents : length opening.agents ≡ length plan.unit.agents
  pub variables : length opening.variables ≡ length plan.unit.variables
  pub streams : length opening.streams ≡ length plan.unit.streams

-- So much the laws say of a history that begins behind a state.
pub record AreLaws (plan : Plan) (opening : State) (inputs : List (List ℤ)) (stalls : ℕ → List Stall) : Type 0 where
  pub lawful : IsLawful (opened_of plan (behind plan opening) inputs stalls)
  pub none : (agent : ℕ) → history (opened_of plan (behind plan opening) inputs stalls) opening.date agent ≡ []
  pub silent : (agent : ℕ) → is_silent_by (agent_in opening agent).begun ≡ true → history (opened_of plan (behind plan opening) inputs stalls) (suc opening.date) agent ≡ []
  pub rings : (variable : ℕ) → variable < length plan.unit.variables
      → ring_of (opened_of plan (behind plan opening) inputs stalls) (opening.date + 1) variable (get_or plan.sizes.rings variable 0) ≡ (variable_in opening variable).values
  pub queues : (stream : ℕ) → stream < length plan.unit.streams → queue_of (opened_of plan (behind plan opening) inputs stalls) (opening.date + 1) stream ≡ (stream_in opening stream).messages

module _ (plan : Plan) (is : IsPlan plan) (opening : State) (has : HasParts plan opening) (inputs : List (List ℤ)) (stalls : ℕ → List Stall) (sound : IsSoundFor plan (behind plan opening) inputs stalls) where
  -- A ring has its size,
  pub ring_long : (variable : ℕ) → variable < length plan.unit.variables → length (variable_in opening variable).values ≡ get_or plan.sizes.rings variable 0
  ring_long variable less = ((sound is).rings opening.date variable (omega arith) less).size (get_or plan.sizes.rings variable 0) (ring_size plan is variable less)

  -- so there is a place for each of its values, and there are some;
  pub rings_fit : All (λ (v : VarOpening). (1 ≤ length v.values) × (length v.values ≤ RING)) opening.variables
  rings_fit variable d l =
      let less : variable < length plan.unit.variables = omega (arith, l, has.variables) in
      let places = ring_places plan (Listed is.ways) is.fits.bare is.buffers variable 0 (omega (arith, less, is.buffers.rings.count)) in
      let long = ring_long variable less in
      subst (λ (v : VarOpening). (1 ≤ length v.values) × (length v.values ≤ RING)) (get_or_default opening.variables variable (record { values = []; reach = None }) d l) (omega (arith, long, places.0), omega (arith, long, places.1))

  -- and a stream holds few messages, which rise.
  pub queues_few : All (λ (m : StreamOpening). length m.messages ≤ QUEUE) opening.streams
  queues_few stream d l = subst (λ (m : StreamOpening). length m.messages ≤ QUEUE) (get_or_default opening.streams stream (record { held = 0; messages = [] }) d l) ((sound is).messages stream).few

  pub queues_rise : All (λ (s : StreamOpening). AllPairs (λ m n. comes_before m n ≡ true) s.messages) opening.streams
  queues_rise stream d l = subst (λ (s : StreamOpening). AllPairs (λ m n. comes_before m n ≡ true) s.messages) (get_or_default opening.streams stream (record { held = 0; messages = [] }) d l) ((sound is).messages stream).rise

module _ (plan : Plan) (is : IsPlan plan) (opening : State) (has : HasParts plan opening) (inputs : List (List ℤ)) (stalls : ℕ → List Stall) (sound : IsSoundFor plan (behind plan opening) inputs stalls) (laws : AreLaws plan opening inputs stalls)
    (turns : ℕ → List (Option Turn)) (idle : (agent number : ℕ) → units agent number (turns agent) ≡ 0) where
  abbrev s : System
  s = opened_of plan (behind plan opening) inputs stalls

  abbrev date : ℕ
  date = opening.date

  next : date + 1 ≡ suc date
  next = omega arith

  last : date ≡ suc date - 1
  last = omega arith

  new : (agent : ℕ) → IsFresh date (turns agent) (history s (suc date) agent)
  new agent = fresh s laws.lawful date (turns agent) agent (idle agent) (laws.none agent)

  -- ---- an agent

  module _ (agent : ℕ) where
    abbrev its : Timing
    its = timing_in plan agent

    by_action : (copies : List ℤ) (a : Option NextAction) → is_silent_by (agent_in opening agent).begun ≡ is_none a → s.opening.starts agent ≡ option_map (next_at plan date agent copies) a
        → IsSeated (is_none a) (date + 1) date (turns agent) (history s (suc date) agent) (seat_of_action its date a)
    by_action copies None quiet starting =
        let quiet_seat : IsSeated true (date + 1) date (turns agent) [] (seat_of_action its date None) = record { phase = refl; deadline = omega arith; trap = refl } in
        subst (λ actions. IsSeated true (date + 1) date (turns agent) actions (seat_of_action its date None)) (sym (laws.silent agent quiet)) quiet_seat
    by_action copies (Some a) quiet starting =
        let n : Next = next_at plan date agent copies a in
        let next : action.next_of s agent (history s date agent) ≡ Some n = ap (action.next_of s agent) (laws.none agent) ∙ starting in
        begins s laws.lawful date (turns agent) agent (λ number fewer. idle agent number) n next refl (numbered s laws.lawful date agent n next)

    by_begun : (b : Option Begun) → is_silent_by (agent_in opening agent).begun ≡ is_silent_by b → s.opening.starts agent ≡ starts_by plan date agent b
        → IsSeated (is_silent_by b) (date + 1) date (turns agent) (history s (suc date) agent) (seat_behind its date b)
    by_begun None quiet starting =
        first s laws.lawful date (turns agent) agent (λ number fewer. idle agent number) nowhere (first_action plan.unit plan.nexts (by_code plan.code) agent) starting refl refl refl (laws.none agent) refl
    by_begun (Some b) quiet starting = by_action b.copies b.action quiet starting

    seat_stands : (known : AgentOpening) → slice_get opening.agents agent ≡ Some known → IsSeated (s.opening.silent agent) (date + 1) date (turns agent) (history s (suc date) agent) (seat_behind its date known.begun)
    seat_stands known at =
        let same : agent_in opening agent ≡ known = get_or_from_slice_get opening.agents agent known (record { begun = None; count = 0; slack = None }) at in
        let quiet : is_silent_by (agent_in opening agent).begun ≡ is_silent_by known.begun = ap (λ (a : AgentOpening). is_silent_by a.begun) same in
        let starting : s.opening.starts agent ≡ starts_by plan date agent known.begun = ap (λ o. found_in o (λ (a : AgentOpening). starts_by plan date agent a.begun)) at in
        subst (λ q. IsSeated q (date + 1) date (turns agent) (history s (suc date) agent) (seat_behind its date known.begun)) (sym quiet) (by_begun known.begun quiet starting)

  -- ---- a variable

  by_owner : (variable : ℕ) (owner : Option ℕ) → s.opening.committed variable ≡ committed_by s (history s (suc date)) variable date owner
  by_owner variable None = refl
  by_owner variable (Some owner) = committed_is s laws.lawful date (turns owner) owner (idle owner) (laws.none owner) variable

  ring_stands : (variable : ℕ) → variable < length plan.unit.variables → RingStands s plan.sizes (suc date) variable (variable_in opening variable).values
  ring_stands variable less =
      let long = ring_long plan is opening has inputs stalls sound variable less in
      record {
        size = long;
        values = sym (laws.rings variable less) ∙ ap (λ d. ring_of s d variable (get_or plan.sizes.rings variable 0)) next ∙ ap (ring_of s (suc date) variable) (sym long);
      }

  -- ---- all of it

  module _ (shared : Shared) (are : IsBehind plan opening shared) where
    -- the seat of each agent
    seat_at : (agent : ℕ) (seat : Seat) → slice_get shared.seats.items agent ≡ Some seat → (known : AgentOpening) × (slice_get opening.agents agent ≡ Some known) × (seat_behind (timing_in plan agent) date known.begun ≡ seat)
    seat_at agent seat at =
        let within : agent < length opening.agents = omega (arith, slice_get_within shared.seats.items agent seat at, are.seated, has.agents) in
        let known : AgentOpening = get_or opening.agents agent (record { begun = None; count = 0; slack = None }) in
        let there : slice_get opening.agents agent ≡ Some known = slice_get-get_or opening.agents agent (record { begun = None; count = 0; slack = None }) within in
        (known, there, same_Some _ _ (sym (are.seats agent known there) ∙ at))

    movers_stand : MoversStand s (suc date) shared.seats.items shared.movers
    movers_stand = record {
      room = omega (arith, are.room, are.seated);
      before = λ agent seat at. subst (λ (n : ℕ). IsBefore n (first_date (timing s agent)) seat seat.phase) (sym are.least) (before_all (first_date (timing s agent)) seat seat.phase);
      stopped = λ e agent seat at. (
        (let of = seat_at agent seat at in subst (λ (x : Seat). x.phase ≢ phase.Stopped) of.2 (not_stopped (timing_in plan agent) date of.0.begun)),
        are.stopped e agent seat at,
      );
      fallen = are.names (falls_in (suc date) shared.seats.items);
    }

    stands : SharedStands s plan.sizes turns (suc date) shared
    stands = record {
      date = ap dates_done are.date ∙ next;
      seated = are.seated;
      seats = λ agent seat at. (let of = seat_at agent seat at in
          subst (λ (d : ℕ). IsSeated (s.opening.silent agent) (date + 1) d (turns agent) (history s (suc date) agent) seat) last
          (subst (IsSeated (s.opening.silent agent) (date + 1) date (turns agent) (history s (suc date) agent)) of.2 (seat_stands agent of.0 of.1)));
      valued = are.valued;
      committed = λ variable value at. (let within : variable < length plan.unit.variables = omega (arith, slice_get_within shared.committed.items variable value at, are.valued) in
          subst (λ (d : ℕ). value ≡ committed_by s (history s (suc date)) variable d (variable_of s variable).owner) last
          (sym (same_Some _ _ (sym (are.committed variable within) ∙ at)) ∙ by_owner variable (variable_of s variable).owner));
      kept = are.kept;
      ended = λ variable owner value at owned.
          subst (λ (d : ℕ). KeepsCopy d (turns owner) variable (history s (suc date) owner) value) last (fresh_copy date (turns owner) variable value (history s (suc date) owner) (new owner));
      ringed = are.ringed;
      rings = λ variable ring at. (let within : variable < length plan.unit.variables = omega (arith, slice_get_within shared.rings.items variable ring at, are.ringed) in
          let known = variable_in opening variable in
          let there : slice_get opening.variables variable ≡ Some known = slice_get-get_or opening.variables variable (record { values = []; reach = None }) (omega (arith, within, has.variables)) in
          subst (RingStands s plan.sizes (suc date) variable) (same_Some _ _ (sym (are.rings variable known there) ∙ at)) (ring_stands variable within));
      queued = are.queued;
      queues = λ stream queue at. (let within : stream < length plan.unit.streams = omega (arith, slice_get_within shared.queues.items stream queue at, are.queued) in
          let known = stream_in opening stream in
          let there : slice_get opening.streams stream ≡ Some known = slice_get-get_or opening.streams stream (record { held = 0; messages = [] }) (omega (arith, within, has.streams)) in
          let of : QueueStands s plan.sizes (suc date) stream (record { size = get_or plan.sizes.queues stream 0 + length known.messages; messages = known.messages }) = record {
            room = refl;
            messages = sym (laws.queues stream within) ∙ ap (λ d. queue_of s d stream) next;
          } in
          subst (QueueStands s plan.sizes (suc date) stream) (same_Some _ _ (sym (are.queues stream known there) ∙ at)) of);
      boxed = are.boxed ∙ is.buffers.outboxes.count;
      outboxes = λ agent outbox at. (let within : agent < length plan.sizes.outboxes = omega (arith, slice_get_within shared.outboxes.items agent outbox at, are.boxed) in
          let first_box : Outboxed = record { size = get_or plan.sizes.outboxes agent 0; sends = [] } in
          let of : OutboxStands plan.sizes date (turns agent) agent (history s (suc date) agent) first_box = record {
            size = refl;
            sends = kept_sends date (turns agent) (history s (suc date) agent) [] (fresh_kept [] [] (λ r. r.deeds.sends) date (turns agent) (history s (suc date) agent) (new agent) refl);
          } in
          subst (λ (d : ℕ). OutboxStands plan.sizes d (turns agent) agent (history s (suc date) agent) outbox) last
          (subst (OutboxStands plan.sizes date (turns agent) agent (history s (suc date) agent)) (same_Some _ _ (sym (are.outboxes agent within) ∙ at)) of));
      taking = are.taking;
      taken = λ stream n at. (let receiver = (action.stream_of s stream).receiver in
          let zero_is : n ≡ 0 = sym (get_or_from_slice_get shared.taken.items stream n n at) ∙ are.taken stream n (slice_get_within shared.taken.items stream n at) in
          subst (λ (d : ℕ). KeepsTakes d (turns receiver) stream (history s (suc date) receiver) n) last
          (kept_takes date (turns receiver) stream (history s (suc date) receiver) n (fresh_kept 0 n (λ r. length (taken r stream)) date (turns receiver) (history s (suc date) receiver) (new receiver) zero_is)));
      calendar = subst (λ d. CalendarStands plan.unit.clocks d shared.calendar) next are.calendar;
      movers = movers_stand;
    }

    pub behind_stands : SharedStands s plan.sizes turns (date + 1) shared
    behind_stands = subst (λ d. SharedStands s plan.sizes turns d shared) (sym next) stands
