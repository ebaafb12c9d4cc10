-- A state that has the form of a plan's has its shape.
use Rattle.std.proofs.Common.{◌≡◌, ◌∙◌, ℕ, ◌<◌, ◌≤◌, inl, inr, List, length, Some, None, sym, ap, subst, arith}
use Rattle.std.proofs.lemmas.Bool.{cases_lt}
use Rattle.std.proofs.lemmas.List.{get_or_past}
use Rattle.std.proofs.lemmas.Option.{none-some, slice_get-get_or}
use Rattle.psy_dates.specs.declared.opening.AgentOpening.{AgentOpening}
use Rattle.psy_dates.specs.declared.opening.Begun.{Begun}
use Rattle.psy_dates.specs.declared.opening.NextAction.{NextAction}
use Rattle.psy_dates.specs.declared.opening.Opening.{Opening as State}
use Rattle.psy_dates.specs.declared.plan.Plan.{Plan}
use Rattle.psy_dates.specs.Beginnings.{agent_in}
use Rattle.psy_dates.specs.Plans.{IsPlan}
use Rattle.psy_graph.specs.declared.graph.Graph.{Graph}
use Rattle.psy_kernel.specs.Resuming.{HasShapeOf}
use Rattle.psy_meaning.specs.CodeWays.{agent_code_at}
use Rattle.psy_snap.specs.Forms.{agent_form, form_of, stream_form, variable_form}
use Rattle.psy_snap.specs.Shapes.{HasAgentForm, HasBegun, HasCells, HasForm, HasStreamForm, HasVarForm}
use Rattle.psy_save.proofs.FormParts.{copies_count, part_right, parts_count, types_count}
use Rattle.psy_tree.specs.Parts.{agent_at}

abbrev no_opening : AgentOpening
no_opening = record { begun = None; count = 0; slack = None }

module _ (plan : Plan) (its : IsPlan plan) (graphs : List Graph) (state : State) (has : HasForm (form_of plan graphs) state) where
  agents_count : length state.agents ≡ length plan.unit.agents
  unfolding form_of
  agents_count = parts_count HasAgentForm (agent_form plan graphs) (length plan.unit.agents) state.agents has.agents

  variables_count : length state.variables ≡ length plan.unit.variables
  unfolding form_of
  variables_count = parts_count HasVarForm (variable_form plan) (length plan.unit.variables) state.variables has.variables

  streams_count : length state.streams ≡ length plan.unit.streams
  unfolding form_of
  streams_count = parts_count HasStreamForm (stream_form plan) (length plan.unit.streams) state.streams has.streams

  near : state.date ≤ plan.until
  unfolding form_of
  near = has.date

  module _ (agent : ℕ) (begun : Begun) (is : (agent_in state agent).begun ≡ Some begun) where
    -- An agent that has begun is there.
    known : agent < length state.agents
    known = elim (cases_lt agent (length state.agents)) [
      | inl less ↦ less
      | inr past ↦ absurd (none-some begun (sym (ap (λ (a : AgentOpening). a.begun) (get_or_past state.agents agent no_opening past)) ∙ is))
    ]

    begun_has : HasBegun (agent_form plan graphs agent) (Some begun)
    unfolding form_of
    begun_has =
        subst (HasBegun (agent_form plan graphs agent)) is
        (part_right HasAgentForm (agent_form plan graphs) (length plan.unit.agents) state.agents has.agents agent (agent_in state agent) (slice_get-get_or state.agents agent no_opening known))

    copies : length begun.copies ≡ length (agent_code_at plan.code agent).copies
    unfolding agent_form
    copies = begun_has.0 ∙ sym (copies_count plan its agent (omega (arith, known, agents_count)))

    cells : (action : NextAction) → begun.action ≡ Some action → length action.cells ≡ length (agent_code_at plan.code agent).cells
    unfolding agent_form
    cells action starts = subst (HasCells (agent_form plan graphs agent)) starts begun_has.1 ∙ types_count (agent_at plan.unit agent) (length (agent_code_at plan.code agent).cells)

  pub shape : HasShapeOf plan state
  shape = record { agents = agents_count; variables = variables_count; streams = streams_count; near = near; copies = copies; cells = λ agent begun action is starts. cells agent begun is action starts }
