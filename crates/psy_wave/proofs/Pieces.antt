-- Texts that grow by pieces.
use Rattle.std.proofs.Common.{◌≡◌, ℕ, ◌+◌, ◌-◌, ◌<◌, suc, List, ◌++◌, ap, ◌∙◌, append_assoc, arith}
use Rattle.psy_wave.specs.Codes.{valued}
use Rattle.psy_wave.specs.Heads.{all_valued}

-- One piece behind another
pub two : (a b c p q : List ℕ) → b ≡ a ++ p → c ≡ b ++ q → c ≡ a ++ (p ++ q)
two a b c p q first second = second ∙ ap (λ t. t ++ q) first ∙ append_assoc a p q

-- A text that goes on to a whole still does with the next piece.
pub goes_on : (out new piece rest whole : List ℕ) → new ≡ out ++ piece → out ++ (piece ++ rest) ≡ whole → new ++ rest ≡ whole
goes_on out new piece rest whole is so_far = ap (λ t. t ++ rest) is ∙ append_assoc out piece rest ∙ so_far

-- The next of so many that have a value
pub next_valued : (value : List ℕ) (kind place count : ℕ) → place < count
    → valued value kind place ++ all_valued value kind (place + 1) (count - (place + 1)) ≡ all_valued value kind place (count - place)
next_valued value kind place count within =
    let next : suc (count - (place + 1)) ≡ count - place = omega (arith, within) in
    ap (all_valued value kind place) next
