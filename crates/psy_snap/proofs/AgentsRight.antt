-- The agents of a state that a run may go on from are right.
use Rattle.std.proofs.Common.{◌≡◌, ◌∙◌, ℕ, ◌<◌, inl, inr, true, List, length, Option, Some, None, refl, ap, subst, arith}
use Rattle.std.specs.Prelude.{ℤ, slice_get}
use Rattle.std.proofs.lemmas.Option.{get_or_from_slice_get, slice_get_within}
use Rattle.psy_budget.specs.declared.charge.Stall.{Stall}
use Rattle.psy_code.specs.Views.{found_in}
use Rattle.psy_dates.specs.declared.opening.AgentOpening.{AgentOpening}
use Rattle.psy_dates.specs.declared.opening.Begun.{Begun}
use Rattle.psy_dates.specs.declared.opening.NextAction.{NextAction}
use Rattle.psy_dates.specs.declared.opening.Opening.{Opening as State}
use Rattle.psy_dates.specs.declared.plan.Plan.{Plan}
use Rattle.psy_dates.specs.Beginnings.{agent_in, behind, next_at, starts_by}
use Rattle.psy_dates.specs.Plans.{IsPlan, opened_of}
use Rattle.psy_graph.specs.declared.graph.Graph.{Graph}
use Rattle.psy_graph.specs.Graphs.{AreGraphsBy, IsTimed}
use Rattle.psy_history.specs.Actions.{Next, System}
use Rattle.psy_history.specs.Openings.{IsBegun, IsSound}
use Rattle.psy_meaning.specs.KnownWays.{Listed}
use Rattle.psy_meaning.specs.RingSizes.{agent_timing}
use Rattle.psy_meaning.specs.Timing.{first_date}
use Rattle.psy_snap.specs.Forms.{agent_form, cell_types, fits_type, form_of}
use Rattle.psy_snap.specs.Shapes.{AreOf, HasAgentForm, HasForm}
use Rattle.psy_snap.proofs.AgentsFound.{CanBe, IsAgentRight, IsBegunOf, IsStartOf, MayBe}
use Rattle.psy_snap.proofs.CellsTyped.{cells_typed}
use Rattle.psy_snap.proofs.Finds.{Both}
use Rattle.psy_snap.proofs.NodesMet.{may_met, point_known}
use Rattle.psy_snap.proofs.PartsFound.{AreFigures}
use Rattle.psy_snap.proofs.PartsKept.{are_by}
use Rattle.psy_snap.proofs.PartsRight.{parts_count}
use Rattle.psy_snap.proofs.Spelled.{Pairs}
use Rattle.psy_tree.specs.Parts.{agent_at}

abbrev no_opening : AgentOpening
no_opening = record { begun = None; count = 0; slack = None }

-- The first dates of agents that haven't begun lie behind the date.
abbrev pub Await : Plan → State → Type 0
Await plan state = (agent : ℕ) → agent < length plan.unit.agents → (agent_in state agent).begun ≡ None → state.date < first_date (agent_timing plan.unit plan.nexts agent)

module _ (plan : Plan) (its : IsPlan plan) (graphs : List Graph) (drawn : AreGraphsBy plan.unit plan.nexts graphs)
    (timed : (agent : ℕ) → agent < length plan.unit.agents → IsTimed (agent_timing plan.unit plan.nexts agent)) (until : ℕ) (state : State)
    (has : HasForm (form_of (record plan { until = until }) graphs) state) (await : Await plan state) (inputs : List (List ℤ)) (stalls : ℕ → List Stall)
    (sound : IsSound (opened_of plan (behind plan state) inputs stalls) (Listed its.ways) plan.code) where
  abbrev system : System
  system = opened_of plan (behind plan state) inputs stalls

  -- The same with another last date, on which no agent's form depends
  abbrev planned : Plan
  planned = record plan { until = until }

  pub agents_count : length state.agents ≡ length plan.unit.agents
  unfolding form_of
  agents_count = parts_count HasAgentForm (agent_form planned graphs) (length plan.unit.agents) state.agents has.agents

  module _ (agent : ℕ) (a : AgentOpening) (at : slice_get state.agents agent ≡ Some a) where
    known : agent < length plan.unit.agents
    known = omega (arith, slice_get_within state.agents agent a at, agents_count)

    opening_is : agent_in state agent ≡ a
    opening_is = get_or_from_slice_get state.agents agent a no_opening at

    module _ (copies : List ℤ) (action : NextAction) (is : a.begun ≡ Some (record { copies = copies; action = Some action })) where
      abbrev next : Next
      next = next_at plan state.date agent copies action

      starts : system.opening.starts agent ≡ Some next
      starts = ap (λ o. found_in o (λ (x : AgentOpening). starts_by plan state.date agent x.begun)) at ∙ ap (starts_by plan state.date agent) is

      begins : IsBegun system agent next
      begins = elim (sound.places agent next starts) [
        | inl it ↦ it
        | inr waits ↦ absurd (omega (arith, waits.ahead))
      ]

      action_right : Both (MayBe state.date (agent_form planned graphs agent) (Some action)) (IsStartOf (agent_form planned graphs agent) (Some action))
      unfolding agent_form
      action_right =
          let carries = sound.carries agent next starts in
          let alike = sound.starts agent next starts in
          record {
            first = record { first = begins.first; may = may_met plan graphs drawn agent action.point state.date known alike };
            second = record {
              number = begins.number;
              point = point_known (agent_timing plan.unit plan.nexts agent) (timed agent known) action.point state.date alike;
              cells = subst (λ count. Pairs (λ type z. fits_type type z ≡ true) (cell_types (agent_at plan.unit agent) count) action.cells) carries.cells
                  (cells_typed (agent_at plan.unit agent) action.cells carries.values);
            };
          }

    start_right : (copies : List ℤ) (action : Option NextAction) → a.begun ≡ Some (record { copies = copies; action = action })
        → Both (MayBe state.date (agent_form planned graphs agent) action) (IsStartOf (agent_form planned graphs agent) action)
    start_right copies None is = record { first = tt; second = tt }
    start_right copies (Some action) is = action_right copies action is

    begun_right : (begun : Option Begun) → a.begun ≡ begun → Both (CanBe state.date (agent_form planned graphs agent) begun) (IsBegunOf (agent_form planned graphs agent) begun)
    unfolding agent_form
    begun_right None is = record { first = await agent known (ap (λ (x : AgentOpening). x.begun) opening_is ∙ is); second = tt }
    begun_right (Some begun) is = start_right begun.copies begun.action is

    figures_right : AreFigures a.count a.slack
    figures_right = subst (λ (x : AgentOpening). AreFigures x.count x.slack) opening_is (record { count = sound.counts agent; slack = sound.slacks agent })

    agent_right : IsAgentRight state.date (agent_form planned graphs agent) a
    agent_right =
        let its_begun = begun_right a.begun refl in
        record { can = its_begun.first; begun = its_begun.second; figures = figures_right }

  pub agents_right : AreOf (IsAgentRight state.date) (form_of planned graphs).agents state.agents
  unfolding form_of
  agents_right = are_by (IsAgentRight state.date) (agent_form planned graphs) (length plan.unit.agents) state.agents agents_count agent_right
