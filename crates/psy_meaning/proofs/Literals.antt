-- The numbers that a program's literals stand for have 32 bits, and first values the ranges of their types.
use Rattle.std.specs.Prelude.{ℕ, zero, suc, ◌≤◌, ℤ, pos, neg_ℤ, Bool, true, false, List, [], ◌∷◌, map, FitsSigned}
use Rattle.std.proofs.Common.{◌≡◌, sym, ap, subst, ◌∙◌, arith}
use Rattle.std.specs.Int.{w8, w16, w32, int_wrap, int_wrapping_neg}
use Rattle.std.specs.List.{All, flat_map}
use Rattle.std.proofs.lemmas.Int.{SFits-int_wrap, int_wrap_fits, wrapping_neg_is}
use Rattle.std.proofs.lemmas.List.Elements.{All-nil, All-cons, All-append}
use Rattle.std.proofs.Math.Facts.{sfits_widen, to_z_pos}
use Rattle.psy_arith.specs.declared.width.Width.{Width}
use Rattle.psy_arith.specs.declared.width.Width.TheVariants.{W8, W16, W32, W64}
use Rattle.psy_tree.specs.declared.raw.Init.{Init}
use Rattle.psy_tree.specs.declared.raw.Item.{Item}
use Rattle.psy_tree.specs.declared.raw.Item.TheVariants as item
use Rattle.psy_tree.specs.declared.raw.Lit.{Lit}
use Rattle.psy_tree.specs.declared.raw.Local.{Local}
use Rattle.psy_tree.specs.declared.raw.Local.TheVariants as local
use Rattle.psy_tree.specs.declared.unit.LocalDecl.{LocalDecl}
use Rattle.psy_tree.specs.declared.unit.Slots.{Slots}
use Rattle.psy_tree.specs.declared.unit.VarDecl.{VarDecl}
use Rattle.psy_tree.specs.Places.{greatest_first, local_place}
use Rattle.psy_tree.specs.Scope.{Site}
use Rattle.psy_tree.specs.Stands.{signed, first_value, local_of, slot_of, variables}
use Rattle.psy_meaning.specs.Sound.{Each}
use Rattle.psy_meaning.proofs.KeptValues.{Has, cast_fits, zero_has}
use Rattle.psy_tree.proofs.lemmas.Faultless.{Fine, in_range}

pub signed_fits : (literal : Lit) → FitsSigned w32 (signed literal)
signed_fits literal = cast_fits literal.value

negated_fits : (z : ℤ) → FitsSigned w32 z → FitsSigned w32 (int_wrapping_neg w32 z)
negated_fits z h = subst (FitsSigned w32) (sym (wrapping_neg_is w32 z h)) (SFits-int_wrap w32 (neg_ℤ z))

pub first_value_fits : (init : Init) → FitsSigned w32 (first_value init)
first_value_fits init = by init.minus init.value
  where
    by : (minus : Bool) (literal : Lit) → FitsSigned w32 (first_value (record { minus = minus; value = literal }))
    by true literal = negated_fits (signed literal) (signed_fits literal)
    by false literal = signed_fits literal

-- ---- first values of locals

-- A literal of few bits stands for itself.
small_is : (literal : Lit) → literal.value ≤ 32768 → signed literal ≡ pos literal.value
small_is literal h = to_z_pos w32 (omega (arith, h))

-- Behind a minus it stands for what is as far below 0.
below_8 : (n : ℕ) → n ≤ 128 → FitsSigned w8 (neg_ℤ (pos n))
below_8 zero h = zero_has W8
below_8 (suc n) h = record { sfits = omega (arith, h) }

below_16 : (n : ℕ) → n ≤ 32768 → FitsSigned w16 (neg_ℤ (pos n))
below_16 zero h = zero_has W16
below_16 (suc n) h = record { sfits = omega (arith, h) }

negated_is : (literal : Lit) → literal.value ≤ 32768 → int_wrapping_neg w32 (signed literal) ≡ neg_ℤ (pos literal.value)
negated_is literal h =
    wrapping_neg_is w32 (signed literal) (signed_fits literal) ∙ ap (λ z. int_wrap w32 (neg_ℤ z)) (small_is literal h)
    ∙ int_wrap_fits w32 (neg_ℤ (pos literal.value)) (sfits_widen tt (below_16 literal.value h))

scalar_fits : (width : Width) (minus : Bool) (literal : Lit) → literal.value ≤ greatest_first width minus → Has width (first_value (record { minus = minus; value = literal }))
scalar_fits W8 true literal h = subst (FitsSigned w8) (sym (negated_is literal (omega (arith, h)))) (below_8 literal.value h)
scalar_fits W8 false literal h = subst (FitsSigned w8) (sym (small_is literal (omega (arith, h)))) (record { sfits = omega (arith, h) })
scalar_fits W16 true literal h = subst (FitsSigned w16) (sym (negated_is literal h)) (below_16 literal.value h)
scalar_fits W16 false literal h = subst (FitsSigned w16) (sym (small_is literal (omega (arith, h)))) (record { sfits = omega (arith, h) })
scalar_fits W32 minus literal h = first_value_fits (record { minus = minus; value = literal })
scalar_fits W64 minus literal h = sfits_widen tt (first_value_fits (record { minus = minus; value = literal }))

module _ (site : Site) where
  local_fits : (x : Local) → Fine site (local_place x) → Has (local_of x).width (local_of x).init
  local_fits (local.Scalar width name init) h = scalar_fits width init.minus init.value (in_range site init.value 0 (greatest_first width init.minus) h).1
  local_fits (local.Array width name cells) h = zero_has width

  slot_fits : (x : Local) → Fine site (local_place x) → Has (slot_of x).width (slot_of x).init
  slot_fits (local.Scalar width name init) h = local_fits (local.Scalar width name init) h
  slot_fits (local.Array width name cells) h = zero_has width

  pub locals_fit : (locals : List Local) → Each (Fine site) (map local_place locals) → All (λ l. Has l.width l.init) (map local_of locals)
  locals_fit [] h = All-nil (λ (l : LocalDecl). Has l.width l.init)
  locals_fit (x ∷ xs) h = All-cons (λ (l : LocalDecl). Has l.width l.init) (local_of x) (map local_of xs) (local_fits x h.0) (locals_fit xs h.1)

  pub slots_fit : (locals : List Local) → Each (Fine site) (map local_place locals) → All (λ s. Has s.width s.init) (map slot_of locals)
  slots_fit [] h = All-nil (λ (s : Slots). Has s.width s.init)
  slots_fit (x ∷ xs) h = All-cons (λ (s : Slots). Has s.width s.init) (slot_of x) (map slot_of xs) (slot_fits x h.0) (slots_fit xs h.1)

-- ---- first values of variables

abbrev VariableFits : VarDecl → Type 0
VariableFits v = FitsSigned w32 v.init

variable_fits : (items : List Item) (i : Item) → All VariableFits (variables items i)
variable_fits items (item.Temporal name owner clock init depth) = All-cons VariableFits _ [] (first_value_fits init) (All-nil VariableFits)
variable_fits items (item.Input name clock init depth) = All-cons VariableFits _ [] (first_value_fits init) (All-nil VariableFits)
variable_fits items _ = All-nil VariableFits

pub variables_fit : (items xs : List Item) → All VariableFits (flat_map (variables items) xs)
variables_fit items [] = All-nil VariableFits
variables_fit items (x ∷ xs) = All-append VariableFits (variables items x) (flat_map (variables items) xs) (variable_fits items x) (variables_fit items xs)
