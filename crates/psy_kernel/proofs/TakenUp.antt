-- Behind the state of what a whole run leaves at a quiet date another run begins with just that.
use Rattle.std.proofs.Common.{◌≡◌, ℕ, suc, ◌+◌, ◌-◌, ◌*◌, ◌<◌, ◌≤◌, false, List, [], map, length, get_or, slice_get, pos, Option, Some, None, ℤ, refl, sym, ap, subst, ◌∙◌, inl, inr, arith}
use Rattle.std.specs.List.{All, range_with_len}
use Rattle.std.proofs.Math.Path.{fun_ext}
use Rattle.std.proofs.lemmas.Bool.{cases_lt}
use Rattle.std.proofs.lemmas.List.{get_or_past}
use Rattle.std.proofs.lemmas.Option.{slice_get-get_or, slice_get_past}
use Rattle.psy_budget.specs.declared.charge.Stall.{Stall}
use Rattle.psy_code.specs.Views.{found_in}
use Rattle.psy_tree.specs.declared.unit.VarDecl.{VarDecl}
use Rattle.psy_tree.specs.Parts.{no_variable}
use Rattle.psy_history.specs.Actions.{Action, Next, Opening, System, first_action, next_of, rests, variable_of}
use Rattle.psy_history.specs.Compiled.{AreInputs}
use Rattle.psy_history.specs.Executors.{by_code}
use Rattle.psy_history.specs.History.{history}
use Rattle.psy_history.specs.Queues.{queue_of}
use Rattle.psy_history.specs.Regular.{IsLawful, Runs}
use Rattle.psy_history.specs.Resuming.{IsQuiet, committed_at, opening_at}
use Rattle.psy_history.specs.Rings.{ring_of}
use Rattle.psy_history.specs.Runs.{IsRun}
use Rattle.psy_history.specs.Schedule.{Turn}
use Rattle.psy_history.specs.Scheduled.{turns_by}
use Rattle.psy_history.specs.Scripts.{stalls_of}
use Rattle.psy_history.specs.Summary.{due_by, due_count, least_slack, most_held, reach}
use Rattle.psy_history.specs.Visible.{committed_in}
use Rattle.psy_history.specs.Ways.{IsSentBy}
use Rattle.psy_meaning.specs.CodeWays.{agent_code_at}
use Rattle.psy_meaning.specs.KnownWays.{Listed, Ways}
use Rattle.psy_code.specs.declared.code.Code.{Code}
use Rattle.psy_dates.specs.Beginnings.{agent_in, behind, committed_by, committed_of, is_silent_by, starts_by, stream_in, variable_in}
use Rattle.psy_dates.specs.declared.opening.AgentOpening.{AgentOpening}
use Rattle.psy_dates.specs.declared.opening.Opening.{Opening as State}
use Rattle.psy_dates.specs.declared.opening.StreamOpening.{StreamOpening}
use Rattle.psy_dates.specs.declared.opening.VarOpening.{VarOpening}
use Rattle.psy_dates.specs.declared.plan.Plan.{Plan}
use Rattle.psy_dates.specs.declared.seat.Seat.{Seat}
use Rattle.psy_dates.specs.Plans.{IsPlan, opened_of, whole_of}
use Rattle.psy_dates.proofs.lemmas.Begun.{are_begun}
use Rattle.psy_dates.proofs.lemmas.Fits.{goes_well}
use Rattle.psy_kernel.specs.Freezing.{BeginWithFirst, agent_of, begun_left, left_by, state_by, stream_by, variable_by}
use Rattle.psy_kernel.specs.Progress.{Progress, order, system}
use Rattle.psy_kernel.proofs.CarriedOn.{Carries, EndStanding, next_carries}
use Rattle.psy_kernel.proofs.DatesDue.{AreRunLaws, Unstarted}
use Rattle.psy_kernel.proofs.LeftAgents.{begun_same, committed_left, silent_left, starts_left}
use Rattle.psy_kernel.proofs.LeftStates.{all_of_code, made_at, made_none, made_past, made_there, no_owner, owner_known}
use Rattle.psy_kernel.proofs.NoneLeft.{never_held, queue_none, reach_none}
use Rattle.psy_kernel.proofs.SomeSeats.{some_seat}
use Rattle.psy_kernel.proofs.UnderWay.{IsAgentAt, Stands, none_known, stands}

-- What an agent carries that starts this action
abbrev cells_by : Option Next → List ℤ
cells_by None = []
cells_by (Some n) = n.carried.cells

module _ (plan : Plan) (is : IsPlan plan) (inputs : List (List ℤ)) (stalls : ℕ → List Stall) where
  abbrev whole : Opening
  whole = whole_of plan

  abbrev s : System
  s = opened_of plan whole inputs stalls

  abbrev until : ℕ
  until = plan.until

  -- Where a whole run is quiet at its last date
  module _ (run : IsRun s (Listed is.ways) plan.code) (lawful : IsLawful s) (turns : ℕ → List (Option Turn)) (at : (agent : ℕ) → IsAgentAt s until agent (turns agent))
      (ended : EndStanding) (quiet : IsQuiet s until) (first : BeginWithFirst plan) where
    abbrev left : Opening
    left = opening_at s plan.sizes.rings turns until

    abbrev state : State
    state = state_by plan left

    -- the date done last
    last : suc until - 1 ≡ until
    last = omega arith

    -- the values committed by it
    abbrev valued : ℕ → ℕ → ℤ
    valued agent variable = committed_in s variable until (history s (suc until) agent)

    -- ---- agents

    module _ (agent : ℕ) where
      abbrev old : List Action
      old = history s until agent

      abbrev values : List ℤ
      values = map (valued agent) (range_with_len 0 (length plan.unit.variables))

      values_are : (variable : ℕ) → variable < length plan.unit.variables → (variable_of s variable).owner ≡ Some agent → get_or values variable (pos 0) ≡ committed_in s variable until (history s (suc until) agent)
      values_are variable less owned = made_at (valued agent) (length plan.unit.variables) variable (pos 0) less

      abbrev cells : List ℤ
      cells = cells_by (next_of s agent old)

      abbrev seat : Seat
      seat = (some_seat until (turns agent) (history s (suc until) agent)).0

      stood : Stands s until agent (turns agent) (at agent) seat
      stood = stands s until agent (turns agent) (at agent) seat (some_seat until (turns agent) (history s (suc until) agent)).1 (quiet agent)

      carry : (n : Next) → next_of s agent old ≡ Some n → Carries plan is whole inputs stalls agent n.carried
      carry n e = next_carries plan is whole inputs stalls run.opened ended until agent old (lawful.actions until agent).were_started n e

      abbrev its : AgentOpening
      its = agent_of plan left agent

      module _ (less : agent < length plan.unit.agents) where
        begun_is : begun_left (agent_code_at plan.code agent).copies values seat cells ≡ its.begun
        begun_is =
            begun_same plan is whole inputs stalls run.opened until agent (turns agent) (at agent) seat values cells less values_are (λ b. ap cells_by b.starts.is_next) stood

        starts_known : starts_by plan until agent its.begun ≡ next_of s agent old
        starts_known =
            sym (ap (starts_by plan until agent) begun_is)
            ∙ starts_left plan is whole inputs stalls run.opened until agent (turns agent) (at agent) seat values cells less first values_are (λ b. ap cells_by b.starts.is_next) carry stood

        silent_known : is_silent_by its.begun ≡ rests false until old
        silent_known =
            sym (ap is_silent_by begun_is) ∙ silent_left plan is whole inputs stalls run.opened until agent (turns agent) (at agent) seat values cells stood

        committed_known : (variable : ℕ) (v : VarDecl) → slice_get plan.unit.variables variable ≡ Some v → v.owner ≡ Some agent → committed_by plan agent variable its.begun ≡ committed_in s variable until old
        committed_known variable v there owner =
            sym (ap (committed_by plan agent variable) begun_is)
            ∙ committed_left plan is whole inputs stalls run.opened until agent (turns agent) (at agent) seat values cells less first values_are variable v there owner stood

        known_is : agent_in state agent ≡ its
        known_is = made_at (agent_of plan left) (length plan.unit.agents) agent (record { begun = None; count = 0; slack = None }) less

      -- one that there isn't
      module _ (past : length plan.unit.agents ≤ agent) where
        none_is : agent_in state agent ≡ record { begun = None; count = 0; slack = None }
        none_is = made_past (agent_of plan left) (length plan.unit.agents) agent (record { begun = None; count = 0; slack = None }) past

        none_old : old ≡ []
        none_old = none_known s lawful until agent past

        none_next : next_of s agent old ≡ None
        none_next = ap (next_of s agent) none_old ∙ ap (λ o. found_in o (λ a. Some (first_action plan.unit plan.nexts (by_code plan.code) agent))) (slice_get_past plan.unit.agents agent past)

      starts_is : found_in (slice_get state.agents agent) (λ (a : AgentOpening). starts_by plan until agent a.begun) ≡ next_of s agent old
      starts_is = elim (cases_lt agent (length plan.unit.agents)) [
        | inl less ↦
            ap (λ o. found_in o (λ (a : AgentOpening). starts_by plan until agent a.begun)) (made_there (agent_of plan left) (length plan.unit.agents) agent less) ∙ starts_known less
        | inr past ↦
            ap (λ o. found_in o (λ (a : AgentOpening). starts_by plan until agent a.begun)) (made_none (agent_of plan left) (length plan.unit.agents) agent past) ∙ sym (none_next past)
      ]

      silent_is : is_silent_by (agent_in state agent).begun ≡ rests false until old
      silent_is = elim (cases_lt agent (length plan.unit.agents)) [
        | inl less ↦ ap (λ (a : AgentOpening). is_silent_by a.begun) (known_is less) ∙ silent_known less
        | inr past ↦ ap (λ (a : AgentOpening). is_silent_by a.begun) (none_is past) ∙ sym (ap (rests false until) (none_old past))
      ]

      count_is : (agent_in state agent).count ≡ due_count s agent (due_by until old)
      count_is = elim (cases_lt agent (length plan.unit.agents)) [
        | inl less ↦ ap (λ (a : AgentOpening). a.count) (known_is less)
        | inr past ↦ ap (λ (a : AgentOpening). a.count) (none_is past) ∙ sym (ap (λ rs. due_count s agent (due_by until rs)) (none_old past))
      ]

      slack_is : (agent_in state agent).slack ≡ least_slack s (turns agent) agent (due_by until old)
      slack_is = elim (cases_lt agent (length plan.unit.agents)) [
        | inl less ↦ ap (λ (a : AgentOpening). a.slack) (known_is less)
        | inr past ↦ ap (λ (a : AgentOpening). a.slack) (none_is past) ∙ sym (ap (λ rs. least_slack s (turns agent) agent (due_by until rs)) (none_old past))
      ]

    -- ---- variables

    committed_by_owner : (variable : ℕ) (owner : Option ℕ) → (variable_of s variable).owner ≡ owner → committed_of plan state variable owner ≡ committed_at s until variable owner
    committed_by_owner variable None e = refl
    committed_by_owner variable (Some agent) e = elim (cases_lt variable (length plan.unit.variables)) [
      | inl less ↦ (
          let known = owner_known plan is variable agent less e in
          ap (λ (a : AgentOpening). committed_by plan agent variable a.begun) (known_is agent known)
          ∙ committed_known agent known variable (variable_of s variable) (slice_get-get_or plan.unit.variables variable no_variable less) e)
      | inr past ↦ absurd (no_owner plan variable agent past e)
    ]

    abbrev no_values : VarOpening
    no_values = record { values = []; reach = None }

    published_is : (variable : ℕ) → (variable_in state variable).values ≡ ring_of s (suc until) variable (get_or plan.sizes.rings variable 0)
    published_is variable = elim (cases_lt variable (length plan.unit.variables)) [
      | inl less ↦ ap (λ (v : VarOpening). v.values) (made_at (variable_by left) (length plan.unit.variables) variable no_values less)
      | inr past ↦
          ap (λ (v : VarOpening). v.values) (made_past (variable_by left) (length plan.unit.variables) variable no_values past)
          ∙ sym (ap (ring_of s (suc until) variable) (get_or_past plan.sizes.rings variable 0 (omega (arith, past, is.buffers.rings.count))))
    ]

    -- ---- all of it

    module _ (sends : (dates agent : ℕ) → All (λ (r : Action). All (IsSentBy (Listed is.ways) s.unit) r.deeds.sends) (history s dates agent))
        (runs : (dates agent : ℕ) → All (Runs s (Listed is.ways) plan.code) (history s dates agent)) where
      abbrev no_messages : StreamOpening
      no_messages = record { held = 0; messages = [] }

      messages_is : (stream : ℕ) → (stream_in state stream).messages ≡ queue_of s (suc until) stream
      messages_is stream = elim (cases_lt stream (length plan.unit.streams)) [
        | inl less ↦ ap (λ (q : StreamOpening). q.messages) (made_at (stream_by left) (length plan.unit.streams) stream no_messages less)
        | inr past ↦
            ap (λ (q : StreamOpening). q.messages) (made_past (stream_by left) (length plan.unit.streams) stream no_messages past)
            ∙ sym (queue_none s (Listed is.ways) sends stream past refl until)
      ]

      most_is : (stream : ℕ) → (stream_in state stream).held ≡ most_held s until stream
      most_is stream = elim (cases_lt stream (length plan.unit.streams)) [
        | inl less ↦ ap (λ (q : StreamOpening). q.held) (made_at (stream_by left) (length plan.unit.streams) stream no_messages less)
        | inr past ↦
            ap (λ (q : StreamOpening). q.held) (made_past (stream_by left) (length plan.unit.streams) stream no_messages past)
            ∙ sym (never_held s (Listed is.ways) sends stream past refl refl until)
      ]

      reach_is : (variable : ℕ) → (variable_in state variable).reach ≡ reach s turns (history s until) variable
      reach_is variable = elim (cases_lt variable (length plan.unit.variables)) [
        | inl less ↦ ap (λ (v : VarOpening). v.reach) (made_at (variable_by left) (length plan.unit.variables) variable no_values less)
        | inr past ↦
            ap (λ (v : VarOpening). v.reach) (made_past (variable_by left) (length plan.unit.variables) variable no_values past)
            ∙ sym (reach_none s plan.code (all_of_code plan is whole inputs stalls lawful runs) variable past turns until refl)
      ]

      starts_same : (behind plan state).starts ≡ left.starts
      starts_same = fun_ext (λ agent. ap (λ date. found_in (slice_get state.agents agent) (λ (a : AgentOpening). starts_by plan date agent a.begun)) last ∙ starts_is agent)

      silent_same : (behind plan state).silent ≡ left.silent
      silent_same = fun_ext silent_is

      committed_same : (behind plan state).committed ≡ left.committed
      committed_same = fun_ext (λ variable. committed_by_owner variable (variable_of s variable).owner refl)

      published_same : (behind plan state).published ≡ left.published
      published_same = fun_ext published_is

      messages_same : (behind plan state).messages ≡ left.messages
      messages_same = fun_ext messages_is

      count_same : (behind plan state).count ≡ left.count
      count_same = fun_ext count_is

      slack_same : (behind plan state).slack ≡ left.slack
      slack_same = fun_ext slack_is

      reach_same : (behind plan state).reach ≡ left.reach
      reach_same = fun_ext reach_is

      most_same : (behind plan state).most ≡ left.most
      most_same = fun_ext most_is

      dates_same : suc until - 1 + 1 ≡ suc until
      dates_same = omega (arith, last)

      opened : behind plan state ≡ left
      opened = λ i. record {
        dates = dates_same i;
        starts = starts_same i;
        silent = silent_same i;
        committed = committed_same i;
        published = published_same i;
        messages = messages_same i;
        count = count_same i;
        slack = slack_same i;
        reach = reach_same i;
        most = most_same i;
      }

-- ---- by the laws of runs

abbrev pub SendByWays : Type 0
SendByWays = (s : System) (ways : Ways) (code : Code) → IsRun s ways code → (dates agent : ℕ) → All (λ (r : Action). All (IsSentBy ways s.unit) r.deeds.sends) (history s dates agent)

abbrev pub RunTheirCode : Type 0
RunTheirCode = (s : System) (ways : Ways) (code : Code) → IsRun s ways code → (dates agent : ℕ) → All (Runs s ways code) (history s dates agent)

-- A run that begins at date 0
abbrev from_zero : Progress → Progress
from_zero p = record p { opening = None }

module _ (laws : AreRunLaws) (sends : SendByWays) (runs : RunTheirCode) (ended : EndStanding) (no_cycle : Unstarted) where
  whole_taken_up : (p : Progress) → IsPlan p.plan → AreInputs p.plan.unit p.inputs → IsQuiet (system (from_zero p)) p.plan.until → BeginWithFirst p.plan
      → behind p.plan (state_by p.plan (left_by (from_zero p))) ≡ left_by (from_zero p)
  whole_taken_up p is inputs quiet first =
      let stalls : ℕ → List Stall = stalls_of p.script in
      let s : System = opened_of p.plan (whole_of p.plan) p.inputs stalls in
      let ways : Ways = Listed is.ways in
      let run : IsRun s ways p.plan.code = goes_well p.plan is laws.well p.inputs stalls inputs in
      let lawful : IsLawful s = laws.lawful s ways p.plan.code run in
      let cycles : ℕ = p.plan.until * p.plan.unit.quantum in
      let turns : ℕ → List (Option Turn) = λ agent. turns_by s (order p) cycles agent in
      let at : (agent : ℕ) → IsAgentAt s p.plan.until agent (turns agent) = λ agent. record {
        lawful = lawful;
        opens = are_begun s ways p.plan.code (suc p.plan.until) run.opened (omega arith) (laws.none s ways p.plan.code run) (laws.silent s ways p.plan.code run) (laws.waits s ways p.plan.code run);
        unstarted = λ number more. no_cycle s (order p) p.plan.until cycles agent number lawful is.fits.bare.quantum.0 (omega arith) more;
      } in
      opened p.plan is p.inputs stalls run lawful turns at ended quiet first (sends s ways p.plan.code run) (runs s ways p.plan.code run)

  pub taken_up : (p : Progress) → IsPlan p.plan → AreInputs p.plan.unit p.inputs → p.opening ≡ None → IsQuiet (system p) p.plan.until → BeginWithFirst p.plan
      → behind p.plan (state_by p.plan (left_by p)) ≡ left_by p
  taken_up p is inputs none quiet first =
      let same : p ≡ from_zero p = λ i. record p { opening = none i } in
      subst (λ (q : Progress). behind q.plan (state_by q.plan (left_by q)) ≡ left_by q) (sym same)
      (whole_taken_up p is inputs (subst (λ (q : Progress). IsQuiet (system q) q.plan.until) same quiet) first)
