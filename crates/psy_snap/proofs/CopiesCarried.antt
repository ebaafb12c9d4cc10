-- What an agent carries behind a state: copies with the state's values, and what its code begins with.
use Rattle.std.proofs.Common.{◌≡◌, ◌∙◌, ℕ, List, [], ◌∷◌, map, length, Bool, true, false, cond, eqb, Option, Some, refl, ap, arith}
use Rattle.std.specs.Prelude.{ℤ, FitsSigned, pos}
use Rattle.std.specs.Int.{w32}
use Rattle.std.specs.List.{All}
use Rattle.std.proofs.lemmas.List.Elements.{All-cons, All-head, All-map, All-nil, All-tail}
use Rattle.psy_code.specs.declared.code.Code.{Code}
use Rattle.psy_code.specs.declared.code.CopyInit.{CopyInit}
use Rattle.psy_code.specs.Execution.{Copy, copy_from, copy_of}
use Rattle.psy_dates.specs.Beginnings.{with_values}
use Rattle.psy_history.specs.Executors.{by_code}
use Rattle.psy_history.specs.Fitting.{IsAgentCodeFor}
use Rattle.psy_history.specs.Openings.{MayCarry}
use Rattle.psy_meaning.specs.CodeWays.{agent_code_at}
use Rattle.psy_meaning.specs.States.{value_or_zero}
use Rattle.psy_tree.specs.declared.unit.Unit.{Unit as Whole}

abbrev pub CopyFits : Copy → Type 0
CopyFits c = FitsSigned w32 c.value

pub zero_fits : FitsSigned w32 (pos 0)
zero_fits = record { sfits = omega arith }

-- They are of the same variables.
pub same_variables : (copies : List Copy) (values : List ℤ) → length values ≡ length copies → map (λ (c : Copy). c.variable) (with_values copies values) ≡ map (λ (c : Copy). c.variable) copies
same_variables [] values same = refl
same_variables (c ∷ copies) [] same = absurd (omega (arith, same))
same_variables (c ∷ copies) (value ∷ values) same = ap (λ vs. c.variable ∷ vs) (same_variables copies values (omega (arith, same)))

pub values_fit : (copies : List Copy) (values : List ℤ) → All (FitsSigned w32) values → All CopyFits (with_values copies values)
values_fit [] values fits = All-nil CopyFits
values_fit (c ∷ copies) [] fits = All-nil CopyFits
values_fit (c ∷ copies) (value ∷ values) fits =
    All-cons CopyFits (record c { value = value }) (with_values copies values) (All-head (FitsSigned w32) value values fits) (values_fit copies values (All-tail (FitsSigned w32) value values fits))

found_fits : (b : Bool) (value : ℤ) (other : Option ℤ) → FitsSigned w32 value → FitsSigned w32 (value_or_zero other) → FitsSigned w32 (value_or_zero (cond b (Some value) other))
found_fits true value other first second = first
found_fits false value other first second = second

-- The copy of a variable, or 0 where there is none
pub copy_fits : (copies : List Copy) (variable : ℕ) → All CopyFits copies → FitsSigned w32 (value_or_zero (copy_of variable copies))
copy_fits [] variable fits = zero_fits
copy_fits (c ∷ copies) variable fits =
    found_fits (eqb c.variable variable) c.value (copy_of variable copies) (All-head CopyFits c copies fits) (copy_fits copies variable (All-tail CopyFits c copies fits))

from_variables : (inits : List CopyInit) → map (λ (c : Copy). c.variable) (map copy_from inits) ≡ map (λ (c : CopyInit). c.variable) inits
from_variables [] = refl
from_variables (c ∷ inits) = ap (λ vs. c.variable ∷ vs) (from_variables inits)

-- What its code begins with may be carried.
pub first_carried : (unit : Whole) (code : Code) (agent : ℕ) → IsAgentCodeFor unit agent (agent_code_at code agent) → MayCarry unit code agent ((by_code code).first agent)
first_carried unit code agent its = record {
  cells = refl;
  values = its.cells;
  variables = from_variables (agent_code_at code agent).copies ∙ its.copies;
  copies = All-map CopyFits copy_from (agent_code_at code agent).copies its.inits;
}
