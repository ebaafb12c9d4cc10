-- The cells of slots.
use Rattle.std.proofs.Common.{◌≡◌, List, [], ◌∷◌, map, length, replicate, refl, ap₂}
use Rattle.std.proofs.lemmas.List.{length-replicate}
use Rattle.psy_tree.specs.declared.unit.Slots.{Slots}

pub lengths_of : (slots : List Slots) → map length (map (λ (s : Slots). replicate s.cells s.init) slots) ≡ map (λ (s : Slots). s.cells) slots
lengths_of [] = refl
lengths_of (s ∷ slots) = ap₂ (λ head tail. head ∷ tail) (length-replicate s.cells s.init) (lengths_of slots)
