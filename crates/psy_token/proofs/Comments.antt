-- The end of a block comment.
use Rattle.std.proofs.Common.{◌≡◌, ℕ, suc, ◌+◌, ◌<◌, ◌==◌, List, [], ◌∷◌, ◌++◌, length, drop, get_or, refl, ap, sym, ◌∙◌, Bool, true, false, cond, ◌&&◌, ◌⊎◌, inl, inr, Option, Some, None, arith, codes}
use Rattle.std.specs.Prelude.{option_map}
use Rattle.std.proofs.lemmas.List.{at_drop_more}
use Rattle.std.proofs.lemmas.Bool.{eqb-true}
use Rattle.psy_tree.specs.Lexemes.{HasClose}
use Rattle.psy_token.specs.Reading.{close_len, next_is}
use Rattle.psy_token.proofs.Booleans.{and_left, and_right}

shift_more : (at : ℕ) (found : Option ℕ) → option_map (λ n. n + at) (option_map (λ n. n + 1) found) ≡ option_map (λ n. n + (at + 1)) found
shift_more at None = refl
shift_more at (Some n) = let e : n + 1 + at ≡ n + (at + 1) = omega arith in ap Some e

-- A place that begins no `*/` is passed
pub close_len-passed : (bytes : List ℕ) (at : ℕ) → at < length bytes → (get_or bytes at 0 == 42) && next_is 47 (drop (at + 1) bytes) ≡ false → close_len bytes ≡ option_map (λ n. n + at) (close_len (drop at bytes)) → close_len bytes ≡ option_map (λ n. n + (at + 1)) (close_len (drop (at + 1) bytes))
close_len-passed bytes at within none so_far =
    let e : close_len (drop at bytes) ≡ option_map (λ n. n + 1) (close_len (drop (at + 1) bytes)) =
    at_drop_more close_len bytes at 0 within ∙ ap (λ t. cond t (Some 2) (option_map (λ n. n + 1) (close_len (drop (at + 1) bytes)))) none
    in so_far ∙ ap (option_map (λ n. n + at)) e ∙ shift_more at (close_len (drop (at + 1) bytes))

-- `*/` begins here
abbrev closes : ℕ → List ℕ → Bool
closes b rest = (b == 42) && next_is 47 rest

next_is-true : (c : ℕ) (rest : List ℕ) → next_is c rest ≡ true → (more : List ℕ) × (rest ≡ c ∷ more)
next_is-true c [] is = cc
next_is-true c (b ∷ more) is = (more, ap (λ x. x ∷ more) (eqb-true b c is))

here : (b : ℕ) (rest : List ℕ) → closes b rest ≡ true → (more : List ℕ) × (b ∷ rest ≡ 42 ∷ 47 ∷ more)
here b rest is =
    let first : b ≡ 42 = eqb-true b 42 (and_left (b == 42) (next_is 47 rest) is) in
    let second = next_is-true 47 rest (and_right (b == 42) (next_is 47 rest) is) in
    (second.0, λ i. first i ∷ second.1 i)

HasClose-here : (b : ℕ) (rest : List ℕ) → closes b rest ≡ true → HasClose (b ∷ rest)
HasClose-here b rest is = ([], (here b rest is).0, (here b rest is).1)

HasClose-nil : HasClose [] → ⊥
HasClose-nil ([], after, e) = cc
HasClose-nil (x ∷ before, after, e) = cc

HasClose-cons : (b : ℕ) (rest : List ℕ) → HasClose (b ∷ rest) → (closes b rest ≡ true) ⊎ HasClose rest
HasClose-cons b rest ([], after, e) =
    let first : b ≡ 42 = cc in
    let second : rest ≡ 47 ∷ after = cc in
    inl (λ i. closes (first i) (second i))
HasClose-cons b rest (x ∷ before, after, e) = let rest_is : rest ≡ before ++ codes "*/" ++ after = cc in inr (before, after, rest_is)

HasClose-one : HasClose (codes "*") → ⊥
HasClose-one h = elim (HasClose-cons 42 [] h) [ inl is ↦ cc | inr later ↦ HasClose-nil later ]

none_by : (b : ℕ) (rest : List ℕ) → (close_len rest ≡ None → HasClose rest → ⊥) → (t : Bool) → closes b rest ≡ t → cond t (Some 2) (option_map (λ n. n + 1) (close_len rest)) ≡ None → HasClose (b ∷ rest) → ⊥
none_by b rest later true test none h = cc
none_by b rest later false test none h = none_rest (close_len rest) refl none
  where
    none_rest : (found : Option ℕ) → close_len rest ≡ found → option_map (λ n. n + 1) found ≡ None → ⊥
    none_rest None is e = elim (HasClose-cons b rest h) [ inl t ↦ cc | inr there ↦ later is there ]
    none_rest (Some n) is e = cc

-- What has no end of a comment by the code has none
pub close_len-none : (bytes : List ℕ) → close_len bytes ≡ None → HasClose bytes → ⊥
close_len-none [] none h = HasClose-nil h
close_len-none (b ∷ rest) none h = none_by b rest (close_len-none rest) (closes b rest) refl none h

open_by : (b : ℕ) (rest : List ℕ) → (HasClose (b ∷ rest) → ⊥) → close_len rest ≡ None → (t : Bool) → closes b rest ≡ t → cond t (Some 2) (option_map (λ n. n + 1) (close_len rest)) ≡ None
open_by b rest never later true test = absurd (never (HasClose-here b rest test))
open_by b rest never later false test = ap (option_map (λ n. n + 1)) later

-- And the other way round
pub close_len-open : (bytes : List ℕ) → (HasClose bytes → ⊥) → close_len bytes ≡ None
close_len-open [] never = refl
close_len-open (b ∷ rest) never = open_by b rest never (close_len-open rest (λ (before, after, e). never (b ∷ before, after, ap (λ l. b ∷ l) e))) (closes b rest) refl

-- The bytes up to the first `*/`, with it, are so many
pub record Closes (bytes : List ℕ) (len : ℕ) : Type 0 where
  pub inside : List ℕ
  pub rest : List ℕ
  pub whole : bytes ≡ inside ++ codes "*/" ++ rest
  pub len_is : len ≡ length inside + 2
  pub first : HasClose (inside ++ codes "*") → ⊥

-- Whether `*/` begins before the inside is told by the inside and its end's first byte
next_is-front : (c : ℕ) (inside rest : List ℕ) → next_is c (inside ++ codes "*/" ++ rest) ≡ next_is c (inside ++ codes "*")
next_is-front c [] rest = refl
next_is-front c (b ∷ inside) rest = refl

some_by : (b : ℕ) (bytes : List ℕ) (len : ℕ) → ((n : ℕ) → close_len bytes ≡ Some n → Closes bytes n) → (t : Bool) → closes b bytes ≡ t → cond t (Some 2) (option_map (λ n. n + 1) (close_len bytes)) ≡ Some len → Closes (b ∷ bytes) len
some_by b bytes len later true test found = record {
  inside = [];
  rest = (here b bytes test).0;
  whole = (here b bytes test).1;
  len_is = let e : 2 ≡ len = cc in sym e;
  first = HasClose-one;
}
some_by b bytes len later false test found = some_rest (close_len bytes) refl found
  where
    some_rest : (f : Option ℕ) → close_len bytes ≡ f → option_map (λ n. n + 1) f ≡ Some len → Closes (b ∷ bytes) len
    some_rest None is e = cc
    some_rest (Some n) is e =
        let r = later n is in
        record {
          inside = b ∷ r.inside;
          rest = r.rest;
          whole = ap (λ l. b ∷ l) r.whole;
          len_is = let f : n + 1 ≡ len = cc in omega (arith, r.len_is);
          first = λ h. elim (HasClose-cons b (r.inside ++ codes "*") h) [
            | inl t ↦ let same : closes b bytes ≡ true = ap (λ x. (b == 42) && x) (ap (next_is 47) r.whole ∙ next_is-front 47 r.inside r.rest) ∙ t in cc
            | inr there ↦ r.first there
          ];
        }

pub close_len-some : (bytes : List ℕ) (len : ℕ) → close_len bytes ≡ Some len → Closes bytes len
close_len-some [] len found = cc
close_len-some (b ∷ bytes) len found = some_by b bytes len (λ n. close_len-some bytes n) (closes b bytes) refl found

closes_by : (b : ℕ) (inside rest : List ℕ) → (HasClose (b ∷ (inside ++ codes "*")) → ⊥) → close_len (inside ++ codes "*/" ++ rest) ≡ Some (length inside + 2) → (t : Bool) → closes b (inside ++ codes "*/" ++ rest) ≡ t → cond t (Some 2) (option_map (λ n. n + 1) (close_len (inside ++ codes "*/" ++ rest))) ≡ Some (suc (length inside) + 2)
closes_by b inside rest first later true test = absurd (first (HasClose-here b (inside ++ codes "*") (ap (λ x. (b == 42) && x) (sym (next_is-front 47 inside rest)) ∙ test)))
closes_by b inside rest first later false test = let e : length inside + 2 + 1 ≡ suc (length inside) + 2 = omega arith in ap (option_map (λ n. n + 1)) later ∙ ap Some e

pub close_len-closes : (inside rest : List ℕ) → (HasClose (inside ++ codes "*") → ⊥) → close_len (inside ++ codes "*/" ++ rest) ≡ Some (length inside + 2)
close_len-closes [] rest first = refl
close_len-closes (b ∷ inside) rest first = closes_by b inside rest first (close_len-closes inside rest (λ (before, after, e). first (b ∷ before, after, ap (λ l. b ∷ l) e))) (closes b (inside ++ codes "*/" ++ rest)) refl
