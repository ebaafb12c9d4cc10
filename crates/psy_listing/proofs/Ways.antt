-- The straight way from a place where an instruction stands.
use Rattle.std.proofs.Common.{◌≡◌, ◌∙◌, ℕ, suc, List, [], ◌∷◌, ◌++◌, None, Some, sym, ap, append_assoc}
use Rattle.std.specs.Prelude.{slice_get}
use Rattle.psy_code.specs.declared.instr.Instr.{Instr}
use Rattle.psy_listing.specs.Straight.{found_at, only_next, straight, then_from}

module _ (instrs : List Instr) (place n more : ℕ) (i : Instr) (left : n ≡ suc more) (at : slice_get instrs place ≡ Some i) where
  from_here : straight n instrs place ≡ place ∷ then_from (straight more instrs) (only_next i place)
  from_here = ap (λ k. straight k instrs place) left ∙ ap (found_at (straight more instrs) place) at

  -- What was found and the place go on to the rest of the way,
  pub on_to : (found new way : List ℕ) (next : ℕ) → only_next i place ≡ Some next → new ≡ found ++ place ∷ [] → found ++ straight n instrs place ≡ way
      → new ++ straight more instrs next ≡ way
  on_to found new way next is push whole =
      ap (λ l. l ++ straight more instrs next) push ∙ append_assoc found (place ∷ []) (straight more instrs next)
      ∙ ap (λ l. found ++ l) (sym (from_here ∙ ap (λ o. place ∷ then_from (straight more instrs) o) is)) ∙ whole

  -- or they are all of it.
  pub all_of : (found new way : List ℕ) → only_next i place ≡ None → new ≡ found ++ place ∷ [] → found ++ straight n instrs place ≡ way → new ≡ way
  all_of found new way is push whole =
      push ∙ ap (λ l. found ++ l) (sym (from_here ∙ ap (λ o. place ∷ then_from (straight more instrs) o) is)) ∙ whole
