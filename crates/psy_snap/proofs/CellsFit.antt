-- Cells that are in the ranges of their types fit the slots that they are of.
use Rattle.std.proofs.Common.{◌≡◌, ◌∙◌, ℕ, zero, suc, ◌+◌, ◌-◌, ◌^◌, ◌<◌, true, cond, List, [], ◌∷◌, get_or, map, length, take, drop, negsuc, ltb-true, leb-true, Some, None, refl, sym, ap, subst, arith}
use Rattle.std.specs.Prelude.{ℤ, FitsSigned, int_le, int_lt, neg_ℤ, pos, slice_get}
use Rattle.std.specs.List.{All}
use Rattle.std.proofs.lemmas.Bool.{le-ltb, lt-ltb}
use Rattle.std.proofs.lemmas.List.{get_or-drop, get_or-take, get_or_default, length-drop, length-take}
use Rattle.std.proofs.lemmas.Option.{slice_get-get_or}
use mir.Val.{bits, hbits}
use lib.Signed.{mag}
use Rattle.psy_arith.specs.declared.width.Width.{Width}
use Rattle.psy_arith.specs.declared.width.Width.TheVariants as width
use Rattle.psy_arith.specs.Widths.{of_type}
use Rattle.psy_history.specs.Executors.{cut}
use Rattle.psy_history.specs.Openings.{FitCells}
use Rattle.psy_lists.proofs.lemmas.Tests.{each_of_both}
use Rattle.psy_meaning.specs.Alike.{FitSlots}
use Rattle.psy_snap.specs.Forms.{cell_types, fits_type}
use Rattle.psy_snap.specs.Plans.{slot_of}
use Rattle.psy_snap.proofs.SlotTypes.{is_type, types_count}
use Rattle.psy_snap.proofs.Spelled.{Pairs, are_of}
use Rattle.psy_tree.specs.declared.unit.AgentDecl.{AgentDecl}
use Rattle.psy_tree.specs.declared.unit.Slots.{Slots}

in_range : (half : ℕ) (z : ℤ) → int_le (neg_ℤ (pos half)) z ≡ true → int_lt z (pos half) ≡ true → mag z < half
in_range half (pos n) least most = ltb-true n half most
in_range zero (negsuc n) least most = absurd cc
in_range (suc half) (negsuc n) least most = omega (arith, leb-true _ _ least)

half_is : (type : Width) → 2 ^ (bits (of_type type) - 1) ≡ 2 ^ hbits (of_type type)
half_is width.W8 = refl
half_is width.W16 = refl
half_is width.W32 = refl
half_is width.W64 = refl

fits_signed : (type : Width) (z : ℤ) → fits_type (Some type) z ≡ true → FitsSigned (of_type type) z
fits_signed type z fits =
    let half : ℕ = 2 ^ (bits (of_type type) - 1) in
    let (least, most) = each_of_both (int_le (neg_ℤ (pos half)) z) (int_lt z (pos half)) fits in
    record { sfits = subst (λ h. mag z < h) (half_is type) (in_range half z least most) }

-- The cell has the range of the type of its slot, where it is of one.
abbrev CellFits : List Slots → List ℤ → ℕ → Type 0
CellFits slots cells i = (type : Width) → slot_of slots i ≡ Some type → FitsSigned (of_type type) (get_or cells i (pos 0))

slots_fit : (slots : List Slots) (cells : List ℤ) → ((i : ℕ) → i < length cells → CellFits slots cells i) → FitSlots (map (λ s. s.width) slots) (cut (map (λ s. s.cells) slots) cells)
slots_fit [] cells fits slot type those wide there = absurd cc
slots_fit (s ∷ slots) cells fits zero type those wide there =
    let type_is : s.width ≡ type = cc in
    let those_are : take s.cells cells ≡ those = cc in
    subst (All (FitsSigned (of_type type))) those_are (λ i d less.
    let within : i < s.cells = omega (arith, less, length-take s.cells cells) in
    let in_cells : i < length cells = omega (arith, less, length-take s.cells cells) in
    let is : get_or (take s.cells cells) i d ≡ get_or cells i (pos 0) = get_or-take s.cells cells i d within ∙ get_or_default cells i d (pos 0) in_cells in
    subst (FitsSigned (of_type type)) (sym is)
    (fits i in_cells type (ap (λ b. cond b (Some s.width) (slot_of slots (i - s.cells))) (lt-ltb i s.cells within) ∙ ap Some type_is)))
slots_fit (s ∷ slots) cells fits (suc slot) type those wide there =
    slots_fit slots (drop s.cells cells) (λ i less type is.
    let in_cells : s.cells + i < length cells = omega (arith, less, length-drop s.cells cells) in
    let left : s.cells + i - s.cells ≡ i = omega arith in
    subst (FitsSigned (of_type type)) (sym (get_or-drop s.cells cells i (pos 0)))
    (fits (s.cells + i) in_cells type
    (ap (λ b. cond b (Some s.width) (slot_of slots (s.cells + i - s.cells))) (le-ltb (s.cells + i) s.cells (omega arith)) ∙ ap (slot_of slots) left ∙ is)))
    slot type those wide there

pub cells_fit : (agent : AgentDecl) (cells : List ℤ) → Pairs (λ type z. fits_type type z ≡ true) (cell_types agent (length cells)) cells → FitCells agent cells
cells_fit agent cells right =
    slots_fit agent.slots cells (λ i less type is.
    let count : length (cell_types agent (length cells)) ≡ length cells = types_count agent (length cells) in
    let there : slice_get (cell_types agent (length cells)) i ≡ Some (Some type) =
    slice_get-get_or (cell_types agent (length cells)) i None (omega (arith, less, count)) ∙ ap Some (is_type agent (length cells) i less ∙ is) in
    fits_signed type (get_or cells i (pos 0))
    ((are_of (λ type z. fits_type type z ≡ true) (cell_types agent (length cells)) cells right).each i (Some type) (get_or cells i (pos 0)) there (slice_get-get_or cells i (pos 0) less)))
