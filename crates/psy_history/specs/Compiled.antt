-- What is asked of a program's code, of the points that follow each point, of its graphs and of its inputs.
use Rattle.std.specs.Prelude.{◌≡◌, ℕ, List, [], map, length, Some, slice_get, ℤ}
use Rattle.std.specs.List.{All}
use Rattle.psy_base.specs.declared.edge.Edge.{Edge}
use Rattle.psy_budget.specs.declared.charge.Stall.{Stall}
use Rattle.psy_tree.specs.declared.unit.Unit.{Unit as Whole}
use Rattle.psy_code.specs.declared.code.Code.{Code}
use Rattle.psy_history.specs.Actions.{Opening, System, from_start, timing}
use Rattle.psy_meaning.specs.Alike.{ActsAlike, AllFit}
use Rattle.psy_history.specs.Executors.{by_code, by_statements}
use Rattle.psy_meaning.specs.Flow.{AreAllNexts}
use Rattle.psy_meaning.specs.Graph.{Spot, IsGraph}
use Rattle.psy_meaning.specs.Units.{IsOfText}

-- The code acts as the statements of a program of a text, and these points follow each of its points.
pub record IsCompiled (unit : Whole) (code : Code) (nexts : List (List (List ℕ))) : Type 0 where
  pub text : IsOfText unit
  pub alike : ActsAlike unit code
  pub followed : AreAllNexts unit nexts

-- By variable, its list of values: numbers of 32 bits, and none for a variable that has an owner
pub record AreInputs (unit : Whole) (inputs : List (List ℤ)) : Type 0 where
  pub count : length inputs ≡ length unit.variables
  pub values : All AllFit inputs
  pub owned : (variable owner : ℕ) (list : List ℤ) → slice_get (map (λ v. v.owner) unit.variables) variable ≡ Some (Some owner)
      → slice_get inputs variable ≡ Some list → list ≡ []

-- The code of a program from date 0 on
abbrev pub coded : Whole → Code → List (List (List ℕ)) → (ℕ → List Stall) → List (List ℤ) → System
coded unit code nexts stalls inputs = from_start unit nexts (by_code code) stalls inputs

-- Its statements from date 0 on
abbrev pub stated : Whole → List (List (List ℕ)) → (ℕ → List Stall) → List (List ℤ) → System
stated unit nexts stalls inputs = from_start unit nexts (by_statements unit) stalls inputs

-- The code of a program behind an opening
abbrev pub coded_behind : Whole → Code → List (List (List ℕ)) → (ℕ → List Stall) → List (List ℤ) → Opening → System
coded_behind unit code nexts stalls inputs opening = record (coded unit code nexts stalls inputs) { opening = opening }

-- Its statements behind the same one
abbrev pub stated_behind : Whole → List (List (List ℕ)) → (ℕ → List Stall) → List (List ℤ) → Opening → System
stated_behind unit nexts stalls inputs opening = record (stated unit nexts stalls inputs) { opening = opening }

-- By agent, the edges of its action graph
pub record AreEdgesOf (s : System) (graphs : List (List Edge)) : Type 0 where
  pub count : length graphs ≡ length s.unit.agents
  pub each : (agent : ℕ) (edges : List Edge) → slice_get graphs agent ≡ Some edges → (spots : List Spot) × IsGraph (timing s agent) spots edges
