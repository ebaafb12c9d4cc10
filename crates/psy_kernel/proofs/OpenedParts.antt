-- A run that goes on from a state: its agents, what their actions did, its figures, and that its code has places for what starts.
use Rattle.std.proofs.Common.{◌≡◌, ℤ, ℕ, suc, ◌+◌, ◌-◌, ◌*◌, ◌<◌, ◌≤◌, List, [], ◌∷◌, ◌++◌, map, length, get_or, nat_lt, replicate, true, Option, Some, None, refl, sym, ap, subst, ◌∙◌, inl, inr, arith}
use Rattle.std.specs.Prelude.{option_map, slice_get}
use Rattle.std.specs.List.{All, flat_map, range_with_len}
use Rattle.std.proofs.Math.Numerals.{add-one}
use Rattle.std.proofs.lemmas.Bool.{cond-true, lt-ltb}
use Rattle.std.proofs.lemmas.Option.{get_or_from_slice_get, slice_get-get_or, slice_get_within}
use Rattle.psy_lists.proofs.lemmas.Places.{mapped_from}
use Rattle.psy_base.specs.Extremes.{greatest_of, most_of}
use Rattle.psy_code.specs.Execution.{run_code}
use Rattle.psy_meaning.specs.CodeWays.{agent_code_at}
use Rattle.psy_meaning.specs.Timing.{MayStart, first, later}
use Rattle.psy_meaning.specs.Units.{HasHead, IsBareAgent, IsBarePoint}
use Rattle.psy_tree.specs.declared.unit.AgentDecl.{AgentDecl}
use Rattle.psy_tree.specs.declared.unit.Point.{Point}
use Rattle.psy_tree.specs.declared.unit.Unit.{Unit as Whole}
use Rattle.psy_tree.specs.Parts.{agent_at, no_agent}
use Rattle.psy_history.specs.Actions.{System, next_of, timing}
use Rattle.psy_history.specs.Compiled.{AreInputs}
use Rattle.psy_history.specs.History.{action_of, history}
use Rattle.psy_history.specs.Processors.{processors}
use Rattle.psy_history.specs.Regular.{begun_by}
use Rattle.psy_history.specs.Schedule.{Turn}
use Rattle.psy_history.specs.Scripts.{order_of, stalls_of}
use Rattle.psy_history.specs.Summary.{ages_of, at_least, dates_from, numbers_in, reach}
use Rattle.psy_history.specs.Visible.{held}
use Rattle.psy_history.specs.declared.told.Script.{Script}
use Rattle.psy_dates.specs.Beginnings.{agent_in, behind, next_at, stream_in, variable_in}
use Rattle.psy_dates.specs.declared.opening.AgentOpening.{AgentOpening}
use Rattle.psy_dates.specs.declared.opening.Begun.{Begun}
use Rattle.psy_dates.specs.declared.opening.NextAction.{NextAction}
use Rattle.psy_dates.specs.declared.opening.Opening.{Opening as State}
use Rattle.psy_dates.specs.declared.opening.StreamOpening.{StreamOpening}
use Rattle.psy_dates.specs.declared.opening.VarOpening.{VarOpening}
use Rattle.psy_dates.specs.declared.plan.Plan.{Plan}
use Rattle.psy_dates.specs.declared.seat.Seat.{Seat}
use Rattle.psy_dates.specs.declared.shared.Shared.{Shared}
use Rattle.psy_dates.specs.Movers.{IsDoneBelow}
use Rattle.psy_dates.specs.Outboxes.{Outboxed}
use Rattle.psy_dates.specs.Plans.{IsPlan, IsSoundFor}
use Rattle.psy_dates.specs.Standing.{SharedStands}
use Rattle.psy_kernel.specs.declared.engine.Runner.{Runner}
use Rattle.psy_kernel.specs.Resuming.{AreBehind, CanBegin, CanStart, HasShapeOf}
use Rattle.psy_kernel.specs.Engines.{EngineState, begun_behind}
use Rattle.psy_kernel.specs.Standing.{AgentStands, DeedsStand, charge_after, given_at, most_held_in, told_from}
use Rattle.psy_kernel.specs.Starting.{deadline_at, runner_at, seat_at}
use Rattle.psy_kernel.proofs.DatesDue.{AreRunLaws, LeavesReach}
use Rattle.psy_kernel.proofs.Opened.{agent_opened, lawful, none_before, none_had, opened, run, starts_is, turns_before}
use Rattle.psy_kernel.proofs.OpenedFigures.{greatest_one, most_kept, none_listed}
use Rattle.psy_kernel.proofs.Started.{Sits, grown_by}

same_item : {X : Type 0} (o : Option X) (x y : X) → o ≡ Some x → o ≡ Some y → x ≡ y
same_item o x y e f = (let both : Some x ≡ Some y = sym e ∙ f in cc)

some_points : (unit : Whole) (agent : AgentDecl) (points : List Point) → HasHead agent points (IsBarePoint unit) → 0 < length points
some_points unit agent [] h = absurd h
some_points unit agent (head ∷ rest) h = omega arith

module _ (plan : Plan) (known_state : State) (inputs : List (List ℤ)) (script : Script) (fits : IsPlan plan) (are : AreInputs plan.unit inputs)
    (sound : IsSoundFor plan (behind plan known_state) inputs (stalls_of script)) (laws : AreRunLaws) where
  abbrev s : System
  s = opened plan known_state inputs script fits are sound laws

  abbrev date : ℕ
  date = known_state.date

  abbrev turns : ℕ → List (Option Turn)
  turns = turns_before plan known_state inputs script fits are sound laws

  some_quantum : 1 ≤ plan.unit.quantum
  some_quantum = fits.fits.bare.quantum.0

  -- ---- places

  module _ (agent : ℕ) (less : agent < length plan.unit.agents) where
    point_known : (point start : ℕ) → MayStart (timing s agent) point start → point < length (agent_at plan.unit agent).points
    point_known point start first =
        some_points plan.unit (agent_at plan.unit agent) (agent_at plan.unit agent).points (IsBareAgent.points (fits.fits.bare.agents agent no_agent less))
    point_known point start (later from begun to may follows) = ((run plan known_state inputs script fits are sound laws).points agent from point less follows).1

  pub can_begin : HasShapeOf plan known_state → (agent : ℕ) (known : AgentOpening) → slice_get known_state.agents agent ≡ Some known
      → CanBegin plan.code agent known.begun
  can_begin shape agent known at = by known.begun refl
    where
      less : agent < length plan.unit.agents
      less = omega (arith, slice_get_within known_state.agents agent known at, shape.agents)

      in_state : agent_in known_state agent ≡ known
      in_state = get_or_from_slice_get known_state.agents agent known _ at

      by_action : (begun : Begun) → known.begun ≡ Some begun → (a : Option NextAction) → begun.action ≡ a → CanStart plan.code agent begun.copies a
      by_action begun e None is = tt {0}
      by_action begun e (Some action) is =
          let next = starts_is plan known_state inputs script fits are sound laws agent less known at (Some begun) e ∙ ap (option_map (next_at plan date agent begun.copies)) is in
          let may = (sound fits).starts agent (next_at plan date agent begun.copies action) next in
          let parts = fits.fits.parts.each agent less in
          let here : (agent_in known_state agent).begun ≡ Some begun = ap (λ (a : AgentOpening). a.begun) in_state ∙ e in (
            agent_code_at plan.code agent,
            slice_get-get_or plan.code.agents agent _ (omega (arith, less, fits.fits.parts.agents)),
            omega (arith, point_known agent less action.point may.met may.may, parts.points),
            shape.cells agent begun action here is,
            shape.copies agent begun here,
          )

      by : (o : Option Begun) → known.begun ≡ o → CanBegin plan.code agent o
      by None e = tt {0}
      by (Some begun) e = by_action begun e begun.action refl

  -- ---- figures

  pub reach_opened : LeavesReach → (variable : ℕ) (n : Option ℕ)
      → slice_get (map (λ (v : VarOpening). v.reach) known_state.variables) variable ≡ Some n → n ≡ reach s turns (history s (suc date)) variable
  reach_opened leaves variable n there =
      let (v, at, made) = mapped_from (λ (v : VarOpening). v.reach) known_state.variables variable n there in
      let known : variable_in known_state variable ≡ v = get_or_from_slice_get known_state.variables variable v _ at in
      let none : flat_map (λ agent. flat_map (ages_of s turns variable) (history s date agent)) (range_with_len 0 (length s.unit.agents)) ≡ [] =
      none_listed (ages_of s turns variable) (history s date) (λ agent. none_before plan known_state inputs script fits are sound laws date agent (omega arith)) (range_with_len 0 (length s.unit.agents)) in
      sym made ∙ ap (λ (w : VarOpening). w.reach) (sym known) ∙ greatest_one (s.opening.reach variable)
      ∙ ap (λ ages. greatest_of (numbers_in (s.opening.reach variable) ++ ages)) (sym none)
      ∙ sym (leaves s (order_of plan.unit script) date (date * plan.unit.quantum) variable (lawful plan known_state inputs script fits are sound laws) some_quantum (omega arith))
      ∙ ap (λ d. reach s turns (history s d) variable) (add-one date)

  pub held_opened : (stream n : ℕ) → slice_get (map (λ (o : StreamOpening). o.held) known_state.streams) stream ≡ Some n → n ≡ most_held_in s (suc date) stream
  held_opened stream n there =
      let (o, at, made) = mapped_from (λ (o : StreamOpening). o.held) known_state.streams stream n there in
      let known : stream_in known_state stream ≡ o = get_or_from_slice_get known_state.streams stream o _ at in
      let one : date + 1 ≡ suc date = add-one date in
      let most : ℕ → ℕ → ℕ = λ dates until. at_least (s.opening.most stream)
      (most_of (map (λ d. length (held s (history s (d + 1)) stream d)) (dates_from dates until))) in
      sym made ∙ ap (λ (w : StreamOpening). w.held) (sym known)
      ∙ most_kept (s.opening.most stream) date (λ d. length (held s (history s (d + 1)) stream d))
      ∙ ap (λ dates. most dates (suc date)) (sym one) ∙ ap (λ until. most (date + 1) until) (sym one)

  -- ---- what is shared

  module _ (shared : Shared) (stands : SharedStands s plan.sizes turns (date + 1) shared) where
    sits : (agent : ℕ) (seat : Seat) → slice_get shared.seats.items agent ≡ Some seat → Sits s date (turns agent) agent (history s (suc date) agent) seat
    sits agent seat there =
        let here : Sits s (date + 1 - 1) (turns agent) agent (history s (suc date) agent) seat =
        subst (λ d. Sits s (date + 1 - 1) (turns agent) agent (history s d agent) seat) (add-one date) (stands.seats agent seat there) in
        subst (λ d. Sits s d (turns agent) agent (history s (suc date) agent) seat) (omega arith) here

    pub agents_opened : length known_state.agents ≡ length plan.unit.agents → (before after : List Runner) (waits : ℕ → Option ℕ)
        → AreBehind plan.code script known_state.agents before → length before ≡ length plan.unit.agents
        → IsDoneBelow (runner_at date shared.seats.items plan.unit.agents) (length plan.unit.agents) before after
        → ((agent : ℕ) → agent < length plan.unit.agents → waits agent ≡ deadline_at date shared.seats.items agent None)
        → (agent : ℕ) (runner : Runner) → slice_get after agent ≡ Some runner
        → AgentStands s plan.code (turns agent) plan.until agent (history s (suc date) agent) runner (waits agent)
    agents_opened as_many before after waits each count started waited agent runner there =
        let less : agent < length plan.unit.agents = omega (arith, slice_get_within after agent runner there, started.count, count) in
        let old : Runner = get_or before agent runner in
        let here : slice_get before agent ≡ Some old = slice_get-get_or before agent runner (omega (arith, less, count)) in
        let known : AgentOpening = agent_in known_state agent in
        let at : slice_get known_state.agents agent ≡ Some known = slice_get-get_or known_state.agents agent _ (omega (arith, less, as_many)) in
        let its : runner_at date shared.seats.items plan.unit.agents agent old ≡ runner = same_item (slice_get after agent) _ runner (started.done agent old less here) there in
        let seat : Seat = seat_at shared.seats.items agent in
        let new = agent_opened plan known_state inputs script fits are sound laws agent less known at seat old (each agent old here known at)
        (sits agent seat (slice_get-get_or shared.seats.items agent _ (omega (arith, less, stands.seated)))) in
        subst (λ x. AgentStands s plan.code (turns agent) plan.until agent (history s (suc date) agent) x (waits agent)) its
        (subst (AgentStands s plan.code (turns agent) plan.until agent (history s (suc date) agent) (runner_at date shared.seats.items plan.unit.agents agent old)) (sym (waited agent less)) new)

    -- what starts there has sent and taken nothing
    pub deeds_opened : ((agent : ℕ) (outbox : Outboxed) → slice_get shared.outboxes.items agent ≡ Some outbox → outbox.sends ≡ [])
        → All (λ n. n ≡ 0) shared.taken.items
        → (agent : ℕ) (outbox : Outboxed) → slice_get shared.outboxes.items agent ≡ Some outbox
        → DeedsStand s plan.code (turns agent) (history s (suc date) agent) outbox.sends shared.taken.items
    deeds_opened unsent untaken agent outbox at =
        let before = none_before plan known_state inputs script fits are sound laws date agent (omega arith) in
        elim (grown_by s (history s date) date agent (history s date agent) (next_of s agent (history s date agent))) [
          | inl same ↦ subst (λ rs. DeedsStand s plan.code (turns agent) rs outbox.sends shared.taken.items) (sym (same ∙ before)) (tt {0})
          | inr grew ↦
              (let r = action_of s (history s date) agent grew.0 in
              let is : history s (suc date) agent ≡ r ∷ [] = grew.3 ∙ ap (λ rs. r ∷ rs) before in
              let its = agent_code_at plan.code agent in
              subst (λ rs. DeedsStand s plan.code (turns agent) rs outbox.sends shared.taken.items) (sym is) (λ pending. record {
                state = begun_by its r;
                running = ap (λ had. run_code plan.code its (begun_by its r) (charge_after s r had).paid) (none_had plan known_state inputs script fits are sound laws agent r.number);
                sent = unsent agent outbox at;
                took = λ stream n there mine. sym (get_or_from_slice_get shared.taken.items stream n n there) ∙ untaken stream n (slice_get_within shared.taken.items stream n there);
              }))
        ]

-- Nothing is given of a date that was done before.
pub given_opened : (s : System) (date place : ℕ) → s.opening.dates ≡ suc date → 0 ≡ given_at s (suc date) place 0
given_opened s date place last =
    let before : nat_lt date s.opening.dates ≡ true = lt-ltb date s.opening.dates (omega (arith, last)) in
    sym (cond-true (nat_lt date s.opening.dates) 0 (length (told_from s date place 0)) before)

pub view_opened : (plan : Plan) (script : Script) (state : State) (lists : List (List ℤ)) (dates : ℕ) (done : List ℕ) → dates ≡ state.date + 1
    → done ≡ replicate (processors plan.unit) (state.date * plan.unit.quantum)
    → ◌≡◌ {A = EngineState} (record { plan = plan; inputs = lists; script = script; opening = Some state; dates = dates; done = done; given = 0 }) (begun_behind plan lists script state)
view_opened plan script state lists dates done last filled = cc (last, filled)
