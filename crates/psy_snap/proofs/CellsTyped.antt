-- Cells that fit the slots that they are of are in the ranges of their types.
use Rattle.std.proofs.Common.{◌≡◌, ◌∙◌, ℕ, zero, suc, ◌+◌, ◌-◌, ◌^◌, ◌<◌, inl, inr, true, ◌&&◌, cond, List, [], ◌∷◌, get_or, map, length, take, drop, negsuc, Option, Some, None, refl, sym, ap, subst, arith}
use Rattle.std.specs.Prelude.{ℤ, FitsSigned, int_le, int_lt, neg_ℤ, pos}
use Rattle.std.specs.List.{All}
use Rattle.std.proofs.lemmas.Bool.{and_from, cases_lt, le-leb, le-ltb, lt-ltb}
use Rattle.std.proofs.lemmas.List.{get_or-drop, get_or-take, length-drop, length-take}
use Rattle.std.proofs.lemmas.Option.{none-some, same_Some}
use mir.Val.{bits, hbits}
use lib.Signed.{mag}
use Rattle.psy_arith.specs.declared.width.Width.{Width}
use Rattle.psy_arith.specs.declared.width.Width.TheVariants as width
use Rattle.psy_arith.specs.Widths.{of_type}
use Rattle.psy_history.specs.Executors.{cut}
use Rattle.psy_history.specs.Openings.{FitCells}
use Rattle.psy_meaning.specs.Alike.{FitSlots}
use Rattle.psy_snap.specs.Forms.{cell_types, fits_type}
use Rattle.psy_snap.specs.Plans.{slot_of}
use Rattle.psy_snap.proofs.SlotTypes.{is_type, types_count}
use Rattle.psy_snap.proofs.Spelled.{Pairs}
use Rattle.psy_tree.specs.declared.unit.AgentDecl.{AgentDecl}
use Rattle.psy_tree.specs.declared.unit.Slots.{Slots}

range_of : (half : ℕ) (z : ℤ) → mag z < half → (int_le (neg_ℤ (pos half)) z && int_lt z (pos half)) ≡ true
range_of zero z less = absurd (omega (arith, less))
range_of (suc half) (pos n) less = lt-ltb n (suc half) less
range_of (suc half) (negsuc n) less = and_from (int_le (neg_ℤ (pos (suc half))) (negsuc n)) true (le-leb n half (omega (arith, less))) refl

half_is : (type : Width) → 2 ^ (bits (of_type type) - 1) ≡ 2 ^ hbits (of_type type)
half_is width.W8 = refl
half_is width.W16 = refl
half_is width.W32 = refl
half_is width.W64 = refl

type_fits : (type : Width) (z : ℤ) → FitsSigned (of_type type) z → fits_type (Some type) z ≡ true
type_fits type z fits = range_of (2 ^ (bits (of_type type) - 1)) z (subst (λ h. mag z < h) (sym (half_is type)) fits.sfits)

cell_in : (slots : List Slots) (cells : List ℤ) → FitSlots (map (λ s. s.width) slots) (cut (map (λ s. s.cells) slots) cells) → (i : ℕ) → i < length cells
    → (type : Width) → slot_of slots i ≡ Some type → FitsSigned (of_type type) (get_or cells i (pos 0))
cell_in [] cells fits i less type is = absurd (none-some type is)
cell_in (s ∷ slots) cells fits i less type is = elim (cases_lt i s.cells) [
  | inl within ↦ (
      let wide : s.width ≡ type = same_Some s.width type (sym (ap (λ b. cond b (Some s.width) (slot_of slots (i - s.cells))) (lt-ltb i s.cells within)) ∙ is) in
      let own : All (FitsSigned (of_type s.width)) (take s.cells cells) = fits 0 s.width (take s.cells cells) refl refl in
      subst (λ w. FitsSigned (of_type w) (get_or cells i (pos 0))) wide
      (subst (FitsSigned (of_type s.width)) (get_or-take s.cells cells i (pos 0) within) (own i (pos 0) (omega (arith, less, within, length-take s.cells cells)))))
  | inr beyond ↦ (
      let there : slot_of slots (i - s.cells) ≡ Some type = sym (ap (λ b. cond b (Some s.width) (slot_of slots (i - s.cells))) (le-ltb i s.cells beyond)) ∙ is in
      let place : s.cells + (i - s.cells) ≡ i = omega (arith, beyond) in
      subst (FitsSigned (of_type type)) (get_or-drop s.cells cells (i - s.cells) (pos 0) ∙ ap (λ n. get_or cells n (pos 0)) place)
      (cell_in slots (drop s.cells cells) (λ slot w those wide there. fits (suc slot) w those wide there) (i - s.cells) (omega (arith, less, beyond, length-drop s.cells cells)) type there))
]

-- One for each of a list that has what belongs to it, by their places
pairs_at : {F X : Type 0} (Has : F → X → Type 0) (forms : List F) (xs : List X) (d : F) (e : X) → length xs ≡ length forms → ((i : ℕ) → i < length xs → Has (get_or forms i d) (get_or xs i e))
    → Pairs Has forms xs
pairs_at Has [] [] d e same has = tt
pairs_at Has [] (x ∷ xs) d e same has = absurd (omega (arith, same))
pairs_at Has (form ∷ forms) [] d e same has = absurd (omega (arith, same))
pairs_at Has (form ∷ forms) (x ∷ xs) d e same has = (has 0 (omega arith), pairs_at Has forms xs d e (omega (arith, same)) (λ i less. has (suc i) (omega (arith, less))))

module _ (agent : AgentDecl) (cells : List ℤ) (fits : FitCells agent cells) where
  cell_typed : (i : ℕ) → i < length cells → (type : Option Width) → slot_of agent.slots i ≡ type → fits_type type (get_or cells i (pos 0)) ≡ true
  cell_typed i less None is = refl
  cell_typed i less (Some type) is = type_fits type (get_or cells i (pos 0)) (cell_in agent.slots cells fits i less type is)

  pub cells_typed : Pairs (λ type z. fits_type type z ≡ true) (cell_types agent (length cells)) cells
  cells_typed = pairs_at (λ type z. fits_type type z ≡ true) (cell_types agent (length cells)) cells None (pos 0) (sym (types_count agent (length cells)))
      (λ i less. cell_typed i less (get_or (cell_types agent (length cells)) i None) (sym (is_type agent (length cells) i less)))
