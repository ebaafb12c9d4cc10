-- Digits that are found one by one, the lowest first.
use Rattle.std.proofs.Common.{◌≡◌, ℕ, ◌+◌, ◌<◌, ◌/◌, ◌%◌, suc, List, [], ◌∷◌, ◌++◌, drop, length, set, sym, ap, ◌∙◌, append_assoc, refl, arith}
use Rattle.std.proofs.lemmas.List.{drop-set}
use Rattle.psy_wave.specs.Codes.{binary}

-- One more is found.
pub digits_more : (k m x digit : ℕ) (digits : List ℕ) → m ≡ suc k → k < length digits → digit ≡ 48 + x % 2
    → binary m x ++ drop m digits ≡ binary k (x / 2) ++ drop k (set digits k digit)
unfolding binary
digits_more k m x digit digits next within is =
    let plus : suc k ≡ k + 1 = omega arith in
    ap (λ n. binary n x ++ drop n digits) next ∙ append_assoc (binary k (x / 2)) ((48 + x % 2) ∷ []) (drop (suc k) digits)
    ∙ ap (λ d. binary k (x / 2) ++ d ∷ drop (suc k) digits) (sym is)
    ∙ ap (λ n. binary k (x / 2) ++ digit ∷ drop n digits) plus
    ∙ ap (λ rest. binary k (x / 2) ++ rest) (sym (drop-set digits k digit within))

-- At last all were found.
pub digits_end : (x : ℕ) (digits : List ℕ) → binary 0 x ++ drop 0 digits ≡ digits
unfolding binary
digits_end x digits = refl
