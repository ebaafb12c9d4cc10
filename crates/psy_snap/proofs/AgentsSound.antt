-- What a state without a fault says of where agents start.
use Rattle.std.proofs.Common.{◌≡◌, ◌∙◌, ℕ, ◌^◌, ◌<◌, ◌⊎◌, inl, inr, true, false, List, get_or, length, Option, Some, None, refl, sym, ap, subst, arith}
use Rattle.std.specs.Prelude.{ℤ, slice_get}
use Rattle.std.proofs.lemmas.Option.{get_or_from_slice_get, none-some, same_Some, slice_get-get_or, slice_get_within}
use Rattle.psy_budget.specs.declared.charge.Stall.{Stall}
use Rattle.psy_code.specs.Views.{found_in}
use Rattle.psy_dates.specs.declared.opening.AgentOpening.{AgentOpening}
use Rattle.psy_dates.specs.declared.opening.Begun.{Begun}
use Rattle.psy_dates.specs.declared.opening.NextAction.{NextAction}
use Rattle.psy_dates.specs.declared.opening.Opening.{Opening as State}
use Rattle.psy_dates.specs.declared.plan.Plan.{Plan}
use Rattle.psy_dates.specs.Beginnings.{agent_in, behind, carried_with, committed_by, committed_of, is_silent_by, next_at, starts_by}
use Rattle.psy_dates.specs.Plans.{IsPlan, opened_of}
use Rattle.psy_graph.specs.declared.graph.Graph.{Graph}
use Rattle.psy_graph.specs.Graphs.{AreGraphsBy}
use Rattle.psy_history.specs.Actions.{Next, System, first_action, timing, variable_of}
use Rattle.psy_history.specs.Executors.{by_code}
use Rattle.psy_history.specs.Openings.{HasFigure, IsBegun, IsWaiting, MayCarry}
use Rattle.psy_history.specs.Regular.{MayStartAlike}
use Rattle.psy_lists.proofs.lemmas.Members.{get_or_holds}
use Rattle.psy_meaning.specs.Alike.{first_copies}
use Rattle.psy_meaning.specs.CodeWays.{agent_code_at}
use Rattle.psy_snap.specs.Forms.{agent_form, cell_types, fits_type, form_of}
use Rattle.psy_snap.specs.Ranges.{FitsBegun, FitsState}
use Rattle.psy_snap.specs.Shapes.{HasAgentForm, HasBegun, HasForm}
use Rattle.psy_snap.proofs.AgentsFound.{CanBe, IsAgentRight, IsBegunOf}
use Rattle.psy_snap.proofs.CellsFit.{cells_fit}
use Rattle.psy_snap.proofs.CopiesCarried.{first_carried, same_variables, values_fit}
use Rattle.psy_snap.proofs.NodesStart.{first_alike, may_alike}
use Rattle.psy_snap.proofs.PartsFound.{AreFigures}
use Rattle.psy_snap.proofs.PartsRight.{all_parts, part_right, parts_count}
use Rattle.psy_snap.proofs.SlotTypes.{types_count}
use Rattle.psy_snap.proofs.Spelled.{Pairs}
use Rattle.psy_snap.proofs.StatesFound.{IsStateRight}
use Rattle.psy_tree.specs.Parts.{agent_at}

abbrev no_opening : AgentOpening
no_opening = record { begun = None; count = 0; slack = None }

module _ (plan : Plan) (its : IsPlan plan) (graphs : List Graph) (drawn : AreGraphsBy plan.unit plan.nexts graphs) (state : State) (has : HasForm (form_of plan graphs) state) (fits : FitsState state)
    (right : IsStateRight (form_of plan graphs) state) (inputs : List (List ℤ)) (stalls : ℕ → List Stall) where
  abbrev system : System
  system = opened_of plan (behind plan state) inputs stalls

  -- ---- the agents of the state

  pub agents_count : length state.agents ≡ length plan.unit.agents
  unfolding form_of
  agents_count = parts_count (IsAgentRight state.date) (agent_form plan graphs) (length plan.unit.agents) state.agents right.agents

  agent_right : (agent : ℕ) (a : AgentOpening) → slice_get state.agents agent ≡ Some a → IsAgentRight state.date (agent_form plan graphs agent) a
  unfolding form_of
  agent_right agent a at = part_right (IsAgentRight state.date) (agent_form plan graphs) (length plan.unit.agents) state.agents right.agents agent a at

  agent_has : (agent : ℕ) (a : AgentOpening) → slice_get state.agents agent ≡ Some a → HasBegun (agent_form plan graphs agent) a.begun
  unfolding form_of
  agent_has agent a at = part_right HasAgentForm (agent_form plan graphs) (length plan.unit.agents) state.agents has.agents agent a at

  agent_fits : (agent : ℕ) (a : AgentOpening) → slice_get state.agents agent ≡ Some a → FitsBegun a.begun
  agent_fits agent a at =
      let is : get_or state.agents agent a ≡ a = get_or_from_slice_get state.agents agent a a at in
      subst (λ (b : AgentOpening). FitsBegun b.begun) is (fits.agents agent a (slice_get_within state.agents agent a at)).begun

  -- ---- where they start

  -- It starts this action at the date, and has these copies.
  pub record Starts (agent : ℕ) (begun : Option Begun) (n : Next) : Type 0 where
    pub copies : List ℤ
    pub action : NextAction
    pub is : begun ≡ Some (record { copies = copies; action = Some action })
    pub next : next_at plan state.date agent copies action ≡ n

  -- It hasn't begun.
  pub record Waits (agent : ℕ) (begun : Option Begun) (n : Next) : Type 0 where
    pub is : begun ≡ None
    pub next : first_action plan.unit plan.nexts (by_code plan.code) agent ≡ n

  started_by : (agent : ℕ) (copies : List ℤ) (action : Option NextAction) (n : Next) → starts_by plan state.date agent (Some (record { copies = copies; action = action })) ≡ Some n
      → Starts agent (Some (record { copies = copies; action = action })) n
  started_by agent copies None n e = absurd (none-some n e)
  started_by agent copies (Some action) n e = record { copies = copies; action = action; is = refl; next = same_Some (next_at plan state.date agent copies action) n e }

  by_begun : (agent : ℕ) (begun : Option Begun) (n : Next) → starts_by plan state.date agent begun ≡ Some n → Starts agent begun n ⊎ Waits agent begun n
  by_begun agent None n e = inr (record { is = refl; next = same_Some (first_action plan.unit plan.nexts (by_code plan.code) agent) n e })
  by_begun agent (Some begun) n e = inl (started_by agent begun.copies begun.action n e)

  -- An agent that starts is there.
  pub record Stands (agent : ℕ) (n : Next) : Type 0 where
    pub opening : AgentOpening
    pub at : slice_get state.agents agent ≡ Some opening
    pub one : Starts agent opening.begun n ⊎ Waits agent opening.begun n

  stands_by : (agent : ℕ) (o : Option AgentOpening) (n : Next) → slice_get state.agents agent ≡ o → found_in o (λ a. starts_by plan state.date agent a.begun) ≡ Some n → Stands agent n
  stands_by agent None n at e = absurd (none-some n e)
  stands_by agent (Some a) n at e = record { opening = a; at = at; one = by_begun agent a.begun n e }

  stands : (agent : ℕ) (n : Next) → system.opening.starts agent ≡ Some n → Stands agent n
  stands agent n e = stands_by agent (slice_get state.agents agent) n refl e

  number_known : (agent : ℕ) (n : Next) → Stands agent n → agent < length plan.unit.agents
  number_known agent n it = omega (arith, slice_get_within state.agents agent it.opening it.at, agents_count)

  opening_is : (agent : ℕ) (n : Next) (it : Stands agent n) → agent_in state agent ≡ it.opening
  opening_is agent n it = get_or_from_slice_get state.agents agent it.opening no_opening it.at

  -- ---- begins, known

  loud_by : (agent : ℕ) (copies : List ℤ) (action : Option NextAction) → is_silent_by (Some (record { copies = copies; action = action })) ≡ false
      → (n : Next) × (starts_by plan state.date agent (Some (record { copies = copies; action = action })) ≡ Some n)
  loud_by agent copies None e = absurd cc
  loud_by agent copies (Some action) e = (next_at plan state.date agent copies action, refl)

  loud : (agent : ℕ) (begun : Option Begun) → is_silent_by begun ≡ false → (n : Next) × (starts_by plan state.date agent begun ≡ Some n)
  loud agent None e = (first_action plan.unit plan.nexts (by_code plan.code) agent, refl)
  loud agent (Some begun) e = loud_by agent begun.copies begun.action e

  pub begins : (agent : ℕ) → agent < length plan.unit.agents → system.opening.silent agent ≡ false → (n : Next) × (system.opening.starts agent ≡ Some n)
  begins agent less quiet =
      let (n, is) = loud agent (agent_in state agent).begun quiet in
      (n, ap (λ o. found_in o (λ (a : AgentOpening). starts_by plan state.date agent a.begun)) (slice_get-get_or state.agents agent no_opening (omega (arith, less, agents_count))) ∙ is)

  not_silent : (agent : ℕ) (begun : Option Begun) (n : Next) → Starts agent begun n ⊎ Waits agent begun n → is_silent_by begun ≡ false
  not_silent agent begun n (inl it) = ap is_silent_by it.is
  not_silent agent begun n (inr it) = ap is_silent_by it.is

  pub known : (agent : ℕ) (n : Next) → system.opening.starts agent ≡ Some n → (agent < length plan.unit.agents) × (system.opening.silent agent ≡ false)
  known agent n e =
      let it = stands agent n e in
      (number_known agent n it, ap (λ (a : AgentOpening). is_silent_by a.begun) (opening_is agent n it) ∙ not_silent agent it.opening.begun n it.one)

  -- ---- places

  committed_is : (agent : ℕ) (n : Next) (it : Stands agent n) (begun : Option Begun) → it.opening.begun ≡ begun → (variable : ℕ) → (variable_of system variable).owner ≡ Some agent
      → system.opening.committed variable ≡ committed_by plan agent variable begun
  committed_is agent n it begun is variable owned =
      ap (committed_of plan state variable) owned ∙ ap (λ (a : AgentOpening). committed_by plan agent variable a.begun) (opening_is agent n it) ∙ ap (committed_by plan agent variable) is

  begun_place : (agent : ℕ) (n : Next) (it : Stands agent n) → Starts agent it.opening.begun n → IsBegun system agent n
  unfolding agent_form
  begun_place agent n it starts =
      let begun : Option Begun = Some (record { copies = starts.copies; action = Some starts.action }) in
      let its_right = agent_right agent it.opening it.at in
      let can : CanBe state.date (agent_form plan graphs agent) begun = subst (CanBe state.date (agent_form plan graphs agent)) starts.is its_right.can in
      let well : IsBegunOf (agent_form plan graphs agent) begun = subst (IsBegunOf (agent_form plan graphs agent)) starts.is its_right.begun in
      subst (IsBegun system agent) starts.next (record {
        last = omega arith;
        first = can.first;
        number = well.number;
        committed = λ variable owned. committed_is agent n it begun starts.is variable owned;
      })

  waiting_place : (agent : ℕ) (n : Next) (it : Stands agent n) → Waits agent it.opening.begun n → IsWaiting system agent n
  unfolding agent_form
  waiting_place agent n it waits =
      let can : CanBe state.date (agent_form plan graphs agent) None = subst (CanBe state.date (agent_form plan graphs agent)) waits.is (agent_right agent it.opening it.at).can in
      subst (IsWaiting system agent) waits.next (record {
        first = refl;
        ahead = omega (arith, can);
        committed = λ variable owned. committed_is agent n it None waits.is variable owned;
      })

  pub places : (agent : ℕ) (n : Next) → system.opening.starts agent ≡ Some n → IsBegun system agent n ⊎ IsWaiting system agent n
  places agent n e =
      let it = stands agent n e in
      elim it.one [
        | inl starts ↦ inl (begun_place agent n it starts)
        | inr waits ↦ inr (waiting_place agent n it waits)
      ]

  -- ---- starts

  pub starts_alike : (agent : ℕ) (n : Next) → system.opening.starts agent ≡ Some n → MayStartAlike (timing system agent) n.point n.start
  starts_alike agent n e =
      let it = stands agent n e in
      elim it.one [
        | inl starts ↦ (
            let can : CanBe state.date (agent_form plan graphs agent) (Some (record { copies = starts.copies; action = Some starts.action })) =
            subst (CanBe state.date (agent_form plan graphs agent)) starts.is (agent_right agent it.opening it.at).can in
            subst (λ (m : Next). MayStartAlike (timing system agent) m.point m.start) starts.next
            (may_alike plan graphs drawn agent starts.action.point state.date (number_known agent n it) can.may))
        | inr waits ↦ subst (λ (m : Next). MayStartAlike (timing system agent) m.point m.start) waits.next (first_alike (timing system agent))
      ]

  -- ---- carries

  carried : (agent : ℕ) (n : Next) (it : Stands agent n) (starts : Starts agent it.opening.begun n)
      → MayCarry plan.unit plan.code agent (carried_with plan agent starts.action.cells starts.copies)
  unfolding agent_form
  carried agent n it starts =
      let begun : Option Begun = Some (record { copies = starts.copies; action = Some starts.action }) in
      let count : ℕ = length (agent_code_at plan.code agent).cells in
      let well : IsBegunOf (agent_form plan graphs agent) begun = subst (IsBegunOf (agent_form plan graphs agent)) starts.is (agent_right agent it.opening it.at).begun in
      let there : HasBegun (agent_form plan graphs agent) begun = subst (HasBegun (agent_form plan graphs agent)) starts.is (agent_has agent it.opening it.at) in
      let small : FitsBegun begun = subst FitsBegun starts.is (agent_fits agent it.opening it.at) in
      let cells : length starts.action.cells ≡ count = there.1 ∙ types_count (agent_at plan.unit agent) count in
      record {
        cells = cells;
        values = cells_fit (agent_at plan.unit agent) starts.action.cells
            (subst (λ k. Pairs (λ type z. fits_type type z ≡ true) (cell_types (agent_at plan.unit agent) k) starts.action.cells) (sym cells) well.cells);
        variables = same_variables (first_copies plan.unit agent) starts.copies there.0;
        copies = values_fit (first_copies plan.unit agent) starts.copies small.copies;
      }

  pub carries : (agent : ℕ) (n : Next) → system.opening.starts agent ≡ Some n → MayCarry plan.unit plan.code agent n.carried
  carries agent n e =
      let it = stands agent n e in
      elim it.one [
        | inl starts ↦ subst (λ (m : Next). MayCarry plan.unit plan.code agent m.carried) starts.next (carried agent n it starts)
        | inr waits ↦ subst (λ (m : Next). MayCarry plan.unit plan.code agent m.carried) waits.next
            (first_carried plan.unit plan.code agent (its.fits.parts.each agent (number_known agent n it)))
      ]

  -- ---- figures

  figures : (agent : ℕ) → AreFigures (agent_in state agent).count (agent_in state agent).slack
  figures agent =
      get_or_holds (λ (a : AgentOpening). AreFigures a.count a.slack) state.agents agent no_opening (record { count = omega arith; slack = refl })
      (all_parts (IsAgentRight state.date) (λ (a : AgentOpening). AreFigures a.count a.slack) (form_of plan graphs).agents state.agents right.agents (λ form a it. it.figures))

  pub counts : (agent : ℕ) → system.opening.count agent < 2 ^ 50
  counts agent = (figures agent).count

  pub slacks : (agent : ℕ) → HasFigure (system.opening.count agent) (system.opening.slack agent)
  slacks agent = (figures agent).slack
