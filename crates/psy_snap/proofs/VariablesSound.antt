-- What a state without a fault says of the values of variables.
use Rattle.std.proofs.Common.{◌≡◌, ◌∙◌, ℕ, suc, ◌<◌, ◌≤◌, List, [], get_or, length, Option, Some, None, sym, ap, subst, arith}
use Rattle.std.specs.Prelude.{ℤ, FitsSigned, slice_get}
use Rattle.std.specs.Int.{w32}
use Rattle.std.proofs.lemmas.List.Elements.{All-nil}
use Rattle.psy_budget.specs.declared.charge.Stall.{Stall}
use Rattle.psy_clock.specs.Dates.{count}
use Rattle.psy_dates.specs.declared.opening.AgentOpening.{AgentOpening}
use Rattle.psy_dates.specs.declared.opening.Begun.{Begun}
use Rattle.psy_dates.specs.declared.opening.Opening.{Opening as State}
use Rattle.psy_dates.specs.declared.opening.VarOpening.{VarOpening}
use Rattle.psy_dates.specs.declared.plan.Plan.{Plan}
use Rattle.psy_dates.specs.Beginnings.{agent_in, behind, committed_by, committed_of, variable_in}
use Rattle.psy_dates.specs.Plans.{IsPlan, opened_of}
use Rattle.psy_graph.specs.declared.graph.Graph.{Graph}
use Rattle.psy_history.specs.Actions.{System, publishing, variable_of}
use Rattle.psy_history.specs.Openings.{AreInRing}
use Rattle.psy_lists.proofs.lemmas.Members.{get_or_holds}
use Rattle.psy_meaning.specs.Alike.{AllFit, first_copies}
use Rattle.psy_meaning.specs.KnownWays.{Listed}
use Rattle.psy_meaning.specs.RingSizes.{IsRingSize}
use Rattle.psy_snap.specs.Forms.{form_of, variable_form}
use Rattle.psy_snap.specs.Ranges.{FitsAgent, FitsBegun, FitsState, FitsVariable}
use Rattle.psy_snap.specs.Shapes.{HasForm, HasVarForm}
use Rattle.psy_snap.proofs.CopiesCarried.{copy_fits, values_fit, zero_fits}
use Rattle.psy_snap.proofs.LeastQueues.{ring_is}
use Rattle.psy_snap.proofs.PartsRight.{number_right}
use Rattle.psy_snap.proofs.StatesFound.{IsStateRight}
use Rattle.psy_snap.proofs.VariablesFound.{IsVariableRight}
use Rattle.psy_tree.specs.Parts.{no_variable, variable_at}

abbrev no_opening : AgentOpening
no_opening = record { begun = None; count = 0; slack = None }

abbrev no_values : VarOpening
no_values = record { values = []; reach = None }

module _ (plan : Plan) (its : IsPlan plan) (graphs : List Graph) (state : State) (has : HasForm (form_of plan graphs) state) (fits : FitsState state)
    (right : IsStateRight (form_of plan graphs) state) (inputs : List (List ℤ)) (stalls : ℕ → List Stall) where
  abbrev system : System
  system = opened_of plan (behind plan state) inputs stalls

  -- ---- what was committed

  first_fits : (variable : ℕ) → FitsSigned w32 (variable_at plan.unit variable).init
  first_fits variable = get_or_holds (λ v. FitsSigned w32 v.init) plan.unit.variables variable no_variable zero_fits its.fits.inits

  begun_fits : (owner variable : ℕ) (begun : Option Begun) → FitsBegun begun → FitsSigned w32 (committed_by plan owner variable begun)
  begun_fits owner variable None fits = first_fits variable
  begun_fits owner variable (Some begun) fits = copy_fits _ variable (values_fit (first_copies plan.unit owner) begun.copies fits.copies)

  owner_fits : (variable : ℕ) (owner : Option ℕ) → FitsSigned w32 (committed_of plan state variable owner)
  owner_fits variable None = first_fits variable
  owner_fits variable (Some owner) =
      begun_fits owner variable (agent_in state owner).begun
      (get_or_holds FitsAgent state.agents owner no_opening (record { begun = tt; count = omega arith; slack = tt }) fits.agents).begun

  pub committed : (variable : ℕ) → FitsSigned w32 (system.opening.committed variable)
  committed variable = owner_fits variable (variable_at plan.unit variable).owner

  pub of_inputs : (variable : ℕ) → (variable_of system variable).owner ≡ None → system.opening.committed variable ≡ (variable_of system variable).init
  of_inputs variable none = ap (committed_of plan state variable) none

  -- ---- what was published

  pub published : (variable : ℕ) → AllFit (system.opening.published variable)
  published variable =
      (get_or_holds FitsVariable state.variables variable no_values (record { values = All-nil (FitsSigned w32); reach = tt }) fits.variables).values

  variable_right : (variable : ℕ) → variable < length plan.unit.variables → IsVariableRight state.date (variable_form plan variable) (variable_in state variable)
  unfolding form_of
  variable_right variable less = number_right (IsVariableRight state.date) (variable_form plan) (length plan.unit.variables) state.variables right.variables variable no_values less

  ring_long : (variable : ℕ) → variable < length plan.unit.variables → length (variable_in state variable).values ≡ get_or plan.sizes.rings variable 0
  unfolding form_of variable_form
  ring_long variable less = number_right HasVarForm (variable_form plan) (length plan.unit.variables) state.variables has.variables variable no_values less

  first_behind : (variable : ℕ) → variable < length plan.unit.variables → (back : ℕ) (value : ℤ) → slice_get (variable_in state variable).values back ≡ Some value
      → count (publishing system variable) state.date ≤ back → value ≡ (variable_at plan.unit variable).init
  unfolding variable_form
  first_behind variable less back value at le = (variable_right variable less).ring back value at le

  pub rings : (last variable : ℕ) → system.opening.dates ≡ suc last → variable < length plan.unit.variables
      → AreInRing system (Listed its.ways) last variable (system.opening.published variable)
  rings last variable done less =
      let same : state.date ≡ last = omega (arith, done) in
      record {
        size = λ size is. ring_long variable less ∙ (ring_is plan its variable size is).1;
        first = λ back value at le. first_behind variable less back value at (subst (λ d. count (publishing system variable) d ≤ back) (sym same) le);
      }

  -- ---- figures

  reach_less : (variable : ℕ) → variable < length plan.unit.variables → (n : ℕ) → (variable_in state variable).reach ≡ Some n → n < get_or plan.sizes.rings variable 0
  unfolding variable_form
  reach_less variable less n is = (variable_right variable less).reach n is

  pub reaches : (variable size n : ℕ) → IsRingSize plan.unit (Listed its.ways) plan.nexts variable size → system.opening.reach variable ≡ Some n → n < size
  reaches variable size n ring is =
      let (less, same) = ring_is plan its variable size ring in
      subst (λ m. n < m) same (reach_less variable less n is)
