-- The variables of a state that a run may go on from are right.
use Rattle.std.proofs.Common.{◌≡◌, ℕ, ◌<◌, add-one, List, [], get_or, length, Some, None, subst, arith}
use Rattle.std.specs.Prelude.{ℤ, slice_get}
use Rattle.std.proofs.lemmas.Option.{get_or_from_slice_get, slice_get_within}
use Rattle.psy_budget.specs.declared.charge.Stall.{Stall}
use Rattle.psy_dates.specs.declared.opening.Opening.{Opening as State}
use Rattle.psy_dates.specs.declared.opening.VarOpening.{VarOpening}
use Rattle.psy_dates.specs.declared.plan.Plan.{Plan}
use Rattle.psy_dates.specs.Beginnings.{behind, variable_in}
use Rattle.psy_dates.specs.Plans.{IsPlan, opened_of}
use Rattle.psy_dates.proofs.lemmas.Fits.{ring_size}
use Rattle.psy_graph.specs.declared.graph.Graph.{Graph}
use Rattle.psy_history.specs.Actions.{System}
use Rattle.psy_history.specs.Openings.{IsSound}
use Rattle.psy_meaning.specs.KnownWays.{Listed}
use Rattle.psy_snap.specs.Forms.{form_of, variable_form}
use Rattle.psy_snap.specs.Shapes.{AreOf, HasForm, HasVarForm}
use Rattle.psy_snap.proofs.PartsKept.{are_by}
use Rattle.psy_snap.proofs.PartsRight.{parts_count}
use Rattle.psy_snap.proofs.VariablesFound.{IsVariableRight}

abbrev no_values : VarOpening
no_values = record { values = []; reach = None }

module _ (plan : Plan) (its : IsPlan plan) (graphs : List Graph) (until : ℕ) (state : State) (has : HasForm (form_of (record plan { until = until }) graphs) state)
    (inputs : List (List ℤ)) (stalls : ℕ → List Stall) (sound : IsSound (opened_of plan (behind plan state) inputs stalls) (Listed its.ways) plan.code) where
  abbrev system : System
  system = opened_of plan (behind plan state) inputs stalls

  abbrev planned : Plan
  planned = record plan { until = until }

  variables_count : length state.variables ≡ length plan.unit.variables
  unfolding form_of
  variables_count = parts_count HasVarForm (variable_form planned) (length plan.unit.variables) state.variables has.variables

  module _ (variable : ℕ) (v : VarOpening) (at : slice_get state.variables variable ≡ Some v) where
    known : variable < length plan.unit.variables
    known = omega (arith, slice_get_within state.variables variable v at, variables_count)

    opening_is : variable_in state variable ≡ v
    opening_is = get_or_from_slice_get state.variables variable v no_values at

    there_right : IsVariableRight state.date (variable_form planned variable) (variable_in state variable)
    unfolding variable_form
    there_right = record {
      ring = λ back value there le. (sound.rings state.date variable (add-one state.date) known).first back value there le;
      reach = λ n is. sound.reaches variable (get_or plan.sizes.rings variable 0) n (ring_size plan its variable known) is;
    }

    variable_right : IsVariableRight state.date (variable_form planned variable) v
    variable_right = subst (IsVariableRight state.date (variable_form planned variable)) opening_is there_right

  pub variables_right : AreOf (IsVariableRight state.date) (form_of planned graphs).variables state.variables
  unfolding form_of
  variables_right = are_by (IsVariableRight state.date) (variable_form planned) (length plan.unit.variables) state.variables variables_count variable_right
