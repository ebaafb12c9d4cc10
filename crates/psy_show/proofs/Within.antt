-- Fronts and backs that fit into columns, one character more, and their columns.
use Rattle.std.proofs.Common.{◌≡◌, ℕ, ◌+◌, ◌-◌, ◌<◌, ◌≤◌, true, false, List, [], ◌∷◌, ◌++◌, length, take, drop, get_or, reverse, inl, inr, refl, sym, ap, ◌∙◌, append_assoc, append-nil, leb-true, arith}
use Rattle.std.specs.Prelude.{nat_le}
use Rattle.std.proofs.lemmas.Bool.{cases_Bool, cond-true, cond-false}
use Rattle.std.proofs.lemmas.Bool.Decides.{nat_tests}
use Rattle.std.proofs.lemmas.List.{drop_more, take_more, reverse-append}
use Rattle.std.proofs.lemmas.List.Sorted.{IsPermutation-reverse, sum_by-IsPermutation}
use Rattle.std.proofs.lemmas.List.Sums.{sum_by-append, sum_by-cons}
use Rattle.unicode_width.specs.Width.{char_width}
use Rattle.psy_show.specs.Columns.{columns, width}
use Rattle.psy_show.specs.Cutting.{back_within, dots, front_within}

fits : (c room : ℕ) → width c ≤ room → nat_le (width c) room ≡ true
fits c room is = grind (arith, nat_tests)

fits_not : (c room : ℕ) → room < width c → nat_le (width c) room ≡ false
fits_not c room is = grind (arith, nat_tests)

-- ---- from the front

-- The next character fits.
pub front_within-more : (room : ℕ) (cs : List ℕ) (i : ℕ) → i < length cs → width (get_or cs i 0) ≤ room
    → take i cs ++ front_within room (drop i cs) ≡ take (i + 1) cs ++ front_within (room - width (get_or cs i 0)) (drop (i + 1) cs)
front_within-more room cs i within is =
    let c = get_or cs i 0 in
    let rest = front_within (room - width c) (drop (i + 1) cs) in
    ap (λ b. take i cs ++ front_within room b) (drop_more cs i 0 within)
    ∙ ap (λ b. take i cs ++ b) (cond-true (nat_le (width c) room) _ _ (fits c room is))
    ∙ sym (append_assoc (take i cs) (c ∷ []) rest)
    ∙ ap (λ b. b ++ rest) (sym (take_more cs i 0 within))

-- It doesn't.
pub front_within-stops : (room : ℕ) (cs : List ℕ) (i : ℕ) → i < length cs → room < width (get_or cs i 0)
    → take i cs ++ front_within room (drop i cs) ≡ take i cs
front_within-stops room cs i within is =
    let c = get_or cs i 0 in
    ap (λ b. take i cs ++ front_within room b) (drop_more cs i 0 within)
    ∙ ap (λ b. take i cs ++ b) (cond-false (nat_le (width c) room) _ _ (fits_not c room is))
    ∙ append-nil (take i cs)

-- ---- from the back

-- What is taken from the back, where all from one place on was taken
abbrev pub back_from : ℕ → List ℕ → ℕ → List ℕ
back_from room cs n = reverse (front_within room (reverse (take n cs))) ++ drop n cs

-- The last of some characters
back_more : (cs : List ℕ) (i : ℕ) → i < length cs → reverse (take (i + 1) cs) ≡ get_or cs i 0 ∷ reverse (take i cs)
back_more cs i within = ap reverse (take_more cs i 0 within) ∙ reverse-append (take i cs) (get_or cs i 0 ∷ [])

-- The next character before them fits.
pub back_from-more : (room : ℕ) (cs : List ℕ) (i : ℕ) → i < length cs → width (get_or cs i 0) ≤ room
    → back_from room cs (i + 1) ≡ back_from (room - width (get_or cs i 0)) cs i
back_from-more room cs i within is =
    let c = get_or cs i 0 in
    let rest = reverse (front_within (room - width c) (reverse (take i cs))) in
    ap (λ b. reverse (front_within room b) ++ drop (i + 1) cs) (back_more cs i within)
    ∙ ap (λ b. reverse b ++ drop (i + 1) cs) (cond-true (nat_le (width c) room) _ _ (fits c room is))
    ∙ ap (λ b. b ++ drop (i + 1) cs) (reverse-append (c ∷ []) (front_within (room - width c) (reverse (take i cs))))
    ∙ append_assoc rest (c ∷ []) (drop (i + 1) cs)
    ∙ ap (λ b. rest ++ b) (sym (drop_more cs i 0 within))

-- It doesn't.
pub back_from-stops : (room : ℕ) (cs : List ℕ) (i : ℕ) → i < length cs → room < width (get_or cs i 0)
    → back_from room cs (i + 1) ≡ drop (i + 1) cs
back_from-stops room cs i within is =
    let c = get_or cs i 0 in
    ap (λ b. reverse (front_within room b) ++ drop (i + 1) cs) (back_more cs i within)
    ∙ ap (λ b. reverse b ++ drop (i + 1) cs) (cond-false (nat_le (width c) room) _ _ (fits_not c room is))

-- ---- columns

columns-front_within : (most : ℕ) (cs : List ℕ) → columns (front_within most cs) ≤ most
columns-front_within most [] = omega arith
columns-front_within most (c ∷ cs) = elim (cases_Bool (nat_le (width c) most)) [
  | inl is ↦
      let rest = front_within (most - width c) cs in
      omega (
        arith,
        leb-true (width c) most is,
        ap columns (cond-true (nat_le (width c) most) (c ∷ rest) [] is),
        sum_by-cons width c rest,
        columns-front_within (most - width c) cs,
      )
  | inr not ↦ omega (arith, ap columns (cond-false (nat_le (width c) most) (c ∷ front_within (most - width c) cs) [] not))
]

columns-back_within : (most : ℕ) (cs : List ℕ) → columns (back_within most cs) ≤ most
columns-back_within most cs =
    let front = front_within most (reverse cs) in
    omega (arith, sum_by-IsPermutation width front (reverse front) (IsPermutation-reverse front), columns-front_within most (reverse cs))

columns-dots : columns dots ≡ 2
unfolding width char_width
columns-dots = refl

-- `..` and a back, or a front and `..`
pub columns-dots_back : (most : ℕ) (cs : List ℕ) → columns (dots ++ back_within most cs) ≤ 2 + most
columns-dots_back most cs = omega (arith, sum_by-append width dots (back_within most cs), columns-dots, columns-back_within most cs)

pub columns-front_dots : (most : ℕ) (cs : List ℕ) → columns (front_within most cs ++ dots) ≤ most + 2
columns-front_dots most cs = omega (arith, sum_by-append width (front_within most cs) dots, columns-dots, columns-front_within most cs)
