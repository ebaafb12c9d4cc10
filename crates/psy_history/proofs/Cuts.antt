-- A store is what its agent's cells give when they are cut by its slots.
use Rattle.std.proofs.Common.{◌≡◌, ℕ, zero, suc, List, [], ◌∷◌, map, length, refl, sym, ap, ap₂, subst, ◌∙◌}
use Rattle.std.proofs.lemmas.List.{drop_at, take_at}
use Rattle.std.proofs.lemmas.List.Elements.{All-drop, All-map, All-take}
use Rattle.std.proofs.lemmas.Option.{none-some, same_Some}
use Rattle.std.proofs.Math.Facts.{sfits_lit}
use Rattle.std.specs.List.{All, flat_map}
use Rattle.std.specs.Prelude.{ℤ, pos, drop, take, FitsSigned}
use Rattle.psy_meaning.proofs.lemmas.SlotCells.{lengths_of}
use Rattle.psy_arith.specs.declared.width.Width.{Width}
use Rattle.psy_arith.specs.declared.width.Width.TheVariants.{W8, W16, W32, W64}
use Rattle.psy_arith.specs.Widths.{of_type}
use Rattle.psy_tree.specs.declared.unit.AgentDecl.{AgentDecl}
use Rattle.psy_tree.specs.declared.unit.Unit.{Unit as Whole}
use Rattle.psy_meaning.specs.Alike.{FitSlots, IsStoreOf}
use Rattle.psy_history.specs.Executors.{carried_in, cut, store_of}
use Rattle.psy_history.specs.Openings.{FitCells}
use Rattle.psy_meaning.specs.States.{Store}

cut_joined : (slots : List (List ℤ)) → cut (map length slots) (flat_map (λ cells. cells) slots) ≡ slots
cut_joined [] = refl
cut_joined (cells ∷ slots) =
    let rest = flat_map (λ (cells : List ℤ). cells) slots in
    ap₂ (λ head tail. head ∷ tail) (take_at cells rest (length cells) refl)
    (ap (cut (map length slots)) (drop_at cells rest (length cells) refl) ∙ cut_joined slots)

pub store_back : (unit : Whole) (number : ℕ) (agent : AgentDecl) (store : Store) → IsStoreOf unit number agent store → store_of agent (carried_in store) ≡ store
store_back unit number agent store h =
    let cells = flat_map (λ (cells : List ℤ). cells) store.slots in
    ap (λ slots. record { slots = slots; copies = store.copies })
    (ap (λ lengths. cut lengths cells) (sym (lengths_of agent.slots)) ∙ ap (λ lengths. cut lengths cells) (sym h.slots) ∙ cut_joined store.slots)

-- Cells that have the range of each type have those of their slots' types.
cut_fit : (widths : List Width) (lengths : List ℕ) (cells : List ℤ) → ((width : Width) → All (FitsSigned (of_type width)) cells) → FitSlots widths (cut lengths cells)
cut_fit widths [] cells all k width cs w e = absurd (none-some cs e)
cut_fit widths (n ∷ ns) cells all zero width cs w e = subst (All (FitsSigned (of_type width))) (same_Some (take n cells) cs e) (All-take (FitsSigned (of_type width)) n cells (all width))
cut_fit [] (n ∷ ns) cells all (suc k) width cs w e = absurd (none-some width w)
cut_fit (x ∷ xs) (n ∷ ns) cells all (suc k) width cs w e = cut_fit xs ns (drop n cells) (λ v. All-drop (FitsSigned (of_type v)) n cells (all v)) k width cs w e

zero_has : (width : Width) → FitsSigned (of_type width) (pos 0)
zero_has W8 = sfits_lit tt
zero_has W16 = sfits_lit tt
zero_has W32 = sfits_lit tt
zero_has W64 = sfits_lit tt

-- Zeros do.
pub zeros_fit : (agent : AgentDecl) (ks : List ℕ) → FitCells agent (map (λ k. pos 0) ks)
zeros_fit agent ks =
    cut_fit (map (λ s. s.width) agent.slots) (map (λ s. s.cells) agent.slots) (map (λ k. pos 0) ks)
    (λ width. All-map (FitsSigned (of_type width)) (λ (k : ℕ). pos 0) ks (λ i d less. zero_has width))
