-- What an agent without cells may carry, which owns one variable or none.
use Rattle.std.proofs.Common.{◌≡◌, ℕ, zero, suc, All, List, [], ◌∷◌, map, length, take, Some, slice_get, refl, sym, ap, ap₂, subst, ◌∙◌, arith}
use Rattle.std.specs.Prelude.{FitsSigned, ℤ}
use Rattle.std.specs.Int.{w32}
use Rattle.std.proofs.lemmas.List.Elements.{All-cons, All-nil}
use Rattle.std.proofs.lemmas.Option.{none-some, same_Some}
use Rattle.std.proofs.Math.Seq.{take-nil, drop-nil}
use Rattle.psy_arith.specs.declared.width.Width.{Width}
use Rattle.psy_arith.specs.Widths.{of_type}
use Rattle.psy_code.specs.declared.code.Code.{Code}
use Rattle.psy_code.specs.Execution.{Copy}
use Rattle.psy_tree.specs.declared.unit.AgentDecl.{AgentDecl}
use Rattle.psy_tree.specs.declared.unit.Unit.{Unit as Whole}
use Rattle.psy_tree.specs.Parts.{agent_at}
use Rattle.psy_meaning.specs.CodeWays.{agent_code_at}
use Rattle.psy_history.specs.Executors.{Carried, cut}
use Rattle.psy_history.specs.Openings.{FitCells, MayCarry}
use Rattle.psy_meaning.specs.Alike.{FitSlots, first_copies}

-- A copy of the first variable
abbrev pub holding : ℤ → Carried
holding value = record { cells = []; copies = record { variable = 0; value = value } ∷ [] }

-- Nothing
abbrev pub empty : Carried
empty = record { cells = []; copies = [] }

abbrev with_parts : List ℤ → List Copy → Carried
with_parts cells copies = record { cells = cells; copies = copies }

none_of : {X : Type 0} (xs : List X) → length xs ≡ 0 → xs ≡ []
none_of [] e = refl
none_of (x ∷ xs) e = absurd (omega (arith, e))

no_copy : (copies : List Copy) → map (λ c. c.variable) copies ≡ [] → copies ≡ []
no_copy [] e = refl
no_copy (c ∷ copies) e = absurd cc

one_copy : (copies : List Copy) → map (λ c. c.variable) copies ≡ 0 ∷ [] → (value : ℤ) × (copies ≡ record { variable = 0; value = value } ∷ [])
one_copy [] e = absurd cc
one_copy (c ∷ []) e =
    let first : c.variable ≡ 0 = cc in
    (c.value, ap (λ (n : ℕ). record { variable = n; value = c.value } ∷ []) first)
one_copy (c ∷ d ∷ copies) e = absurd cc

-- Where there is no cell, each fits its slot.
cut_none : (widths : List Width) (lengths : List ℕ) → FitSlots widths (cut lengths [])
cut_none widths [] slot width cells known found = absurd (none-some cells found)
cut_none [] (n ∷ lengths) slot width cells known found = absurd (none-some width known)
cut_none (w ∷ widths) (n ∷ lengths) zero width cells known found =
    subst (All (FitsSigned (of_type width))) (sym (take-nil n) ∙ same_Some (take n []) cells found) (All-nil (FitsSigned (of_type width)))
cut_none (w ∷ widths) (n ∷ lengths) (suc slot) width cells known found =
    cut_none widths lengths slot width cells known (subst (λ left. slice_get (cut lengths left) slot ≡ Some cells) (drop-nil n) found)

pub none_fit : (agent : AgentDecl) → FitCells agent []
none_fit agent = cut_none (map (λ s. s.width) agent.slots) (map (λ s. s.cells) agent.slots)

module _ (unit : Whole) (code : Code) (agent : ℕ) (cells : length (agent_code_at code agent).cells ≡ 0) where
  pub holds : map (λ c. c.variable) (first_copies unit agent) ≡ 0 ∷ [] → (carried : Carried) → MayCarry unit code agent carried → (value : ℤ) × (carried ≡ holding value)
  holds own carried may =
      let (value, one) = one_copy carried.copies (may.variables ∙ own) in
      let none = none_of carried.cells (may.cells ∙ cells) in
      (value, ap₂ with_parts none one)

  pub may_hold : map (λ c. c.variable) (first_copies unit agent) ≡ 0 ∷ [] → (value : ℤ) → FitsSigned w32 value → MayCarry unit code agent (holding value)
  may_hold own value fits = record {
    cells = sym cells;
    values = none_fit (agent_at unit agent);
    variables = sym own;
    copies = All-cons (λ c. FitsSigned w32 c.value) (record { variable = 0; value = value }) [] fits (All-nil (λ c. FitsSigned w32 c.value));
  }

  pub is_empty : map (λ c. c.variable) (first_copies unit agent) ≡ [] → (carried : Carried) → MayCarry unit code agent carried → carried ≡ empty
  is_empty own carried may =
      let none = none_of carried.cells (may.cells ∙ cells) in
      let copies = no_copy carried.copies (may.variables ∙ own) in
      ap₂ with_parts none copies

  pub may_be_empty : map (λ c. c.variable) (first_copies unit agent) ≡ [] → MayCarry unit code agent empty
  may_be_empty own = record {
    cells = sym cells;
    values = none_fit (agent_at unit agent);
    variables = sym own;
    copies = All-nil (λ c. FitsSigned w32 c.value);
  }
