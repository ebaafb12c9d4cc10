-- Codes that stand one after the other: where each begins, and whose each place is.
use Rattle.std.proofs.Common.{◌≡◌, ℕ, zero, suc, ◌+◌, ◌<◌, ◌≤◌, List, [], ◌∷◌, ◌++◌, map, length, Some, refl, sym, ap, subst, ◌∙◌, inl, inr, arith}
use Rattle.std.specs.Prelude.{◌-◌, replicate, slice_get}
use Rattle.std.proofs.lemmas.Bool.{cases_lt}
use Rattle.psy_code.specs.declared.instr.Instr.{Instr}
use Rattle.psy_tree.specs.Paths.{total}
use Rattle.psy_flow.specs.Owners.{Owner}
use Rattle.psy_gen.specs.Emission.{Emit, codes_from}
use Rattle.psy_gen.proofs.Basics.{no_some, some_is}
use Rattle.psy_gen.proofs.Contexts.{HasAt, has-first, has-second}
use Rattle.psy_gen.proofs.verified.Marking.{owners_from}

-- ---- lists

-- An element in front of others, and behind them
pub got_front : {A : Type 0} (xs ys : List A) (j : ℕ) → j < length xs → slice_get (xs ++ ys) j ≡ slice_get xs j
got_front [] ys j less = absurd (omega (arith, less))
got_front (x ∷ xs) ys zero less = refl
got_front (x ∷ xs) ys (suc j) less = got_front xs ys j (omega (arith, less))

pub got_behind : {A : Type 0} (xs ys : List A) (j k : ℕ) → j ≡ length xs + k → slice_get (xs ++ ys) j ≡ slice_get ys k
got_behind [] ys j k e = let same : j ≡ k = omega (arith, e) in ap (slice_get ys) same
got_behind (x ∷ xs) ys zero k e = absurd (omega (arith, e))
got_behind (x ∷ xs) ys (suc j) k e = got_behind xs ys j k (omega (arith, e))

-- What stands at a place within
module _ {A : Type 0} where
  pub record Got (xs : List A) (j : ℕ) : Type 0 where
    pub one : A
    pub at : slice_get xs j ≡ Some one

  pub got_at : (xs : List A) (j : ℕ) → j < length xs → Got xs j
  got_at [] j less = absurd (omega (arith, less))
  got_at (x ∷ xs) zero less = record { one = x; at = refl }
  got_at (x ∷ xs) (suc j) less = let g = got_at xs j (omega (arith, less)) in record { one = g.one; at = g.at }

module _ {A B : Type 0} (f : A → B) where
  -- Of what an element was made
  pub record From (xs : List A) (j : ℕ) (y : B) : Type 0 where
    pub one : A
    pub at : slice_get xs j ≡ Some one
    pub is : f one ≡ y

  pub from_at : (xs : List A) (j : ℕ) (y : B) → slice_get (map f xs) j ≡ Some y → From xs j y
  from_at [] j y got = no_some y got
  from_at (x ∷ xs) zero y got = record { one = x; at = refl; is = some_is (f x) y got }
  from_at (x ∷ xs) (suc j) y got = let g = from_at xs j y got in record { one = g.one; at = g.at; is = g.is }

front_same : {A : Type 0} (n j : ℕ) (x : A) (ys : List A) → j < n → slice_get (replicate n x ++ ys) j ≡ Some x
front_same zero j x ys less = absurd (omega (arith, less))
front_same (suc n) zero x ys less = refl
front_same (suc n) (suc j) x ys less = front_same n j x ys (omega (arith, less))

behind_same : {A : Type 0} (n j k : ℕ) (x : A) (ys : List A) → j ≡ n + k → slice_get (replicate n x ++ ys) j ≡ slice_get ys k
behind_same zero j k x ys e = let same : j ≡ k = omega (arith, e) in ap (slice_get ys) same
behind_same (suc n) zero k x ys e = absurd (omega (arith, e))
behind_same (suc n) (suc j) k x ys e = behind_same n j k x ys (omega (arith, e))

-- ---- where each begins

module _ {X : Type 0} (size : X → ℕ) where
  -- Where the one of this number begins, counted from a place on
  abbrev pub start_of : ℕ → List X → ℕ → ℕ
  start_of p [] n = p
  start_of p (x ∷ xs) zero = p
  start_of p (x ∷ xs) (suc n) = start_of (p + size x) xs n

  pub start_first : (p : ℕ) (xs : List X) → start_of p xs 0 ≡ p
  start_first p [] = refl
  start_first p (x ∷ xs) = refl

  pub start_low : (p : ℕ) (xs : List X) (n : ℕ) → p ≤ start_of p xs n
  start_low p [] n = omega arith
  start_low p (x ∷ xs) zero = omega arith
  start_low p (x ∷ xs) (suc n) = omega (arith, start_low (p + size x) xs n)

  pub start_next : (p : ℕ) (xs : List X) (n : ℕ) (x : X) → slice_get xs n ≡ Some x → start_of p xs (suc n) ≡ start_of p xs n + size x
  start_next p [] n x got = no_some x got
  start_next p (y ∷ xs) zero x got = start_first (p + size y) xs ∙ ap (λ z. p + size z) (some_is y x got)
  start_next p (y ∷ xs) (suc n) x got = start_next (p + size y) xs n x got

  pub start_end : (p : ℕ) (xs : List X) → start_of p xs (length xs) ≡ p + total (map size xs)
  start_end p [] = omega arith
  start_end p (x ∷ xs) = omega (arith, start_end (p + size x) xs)

  pub start_high : (p : ℕ) (xs : List X) (n : ℕ) (x : X) → slice_get xs n ≡ Some x → start_of p xs n + size x ≤ p + total (map size xs)
  start_high p [] n x got = no_some x got
  start_high p (y ∷ xs) zero x got = omega (arith, ap size (some_is y x got))
  start_high p (y ∷ xs) (suc n) x got = omega (arith, start_high (p + size y) xs n x got)

  -- The code of one stands there.
  pub code_at : (code : X → Emit) → ((x : X) (p : ℕ) → length (code x p) ≡ size x) → (instrs : List Instr) (p : ℕ) (xs : List X) (n : ℕ) (x : X)
      → HasAt instrs p (codes_from code size xs p) → slice_get xs n ≡ Some x → HasAt instrs (start_of p xs n) (code x (start_of p xs n))
  code_at code measured instrs p [] n x has got = no_some x got
  code_at code measured instrs p (y ∷ xs) zero x has got =
      subst (λ z. HasAt instrs p (code z p)) (some_is y x got) (has-first instrs p (code y p) (codes_from code size xs (p + size y)) has)
  code_at code measured instrs p (y ∷ xs) (suc n) x has got =
      let rest = codes_from code size xs (p + size y) in
      code_at code measured instrs (p + size y) xs n x
      (subst (λ m. HasAt instrs (p + m) rest) (measured y p) (has-second instrs p (code y p) rest has)) got

  -- ---- whose each place is

  module _ (owner : ℕ → Owner) where
    pub owners_length : (xs : List X) (first : ℕ) → length (owners_from size owner first xs) ≡ total (map size xs)
    owners_length [] first = refl
    owners_length (x ∷ xs) first = many (size x) (owner first) (owners_from size owner (first + 1) xs) ∙ ap (λ n. size x + n) (owners_length xs (first + 1))
      where
        many : (n : ℕ) (o : Owner) (rest : List Owner) → length (replicate n o ++ rest) ≡ n + length rest
        many zero o rest = omega arith
        many (suc n) o rest = omega (arith, many n o rest)

    -- The place is its own, counted from where the first begins.
    pub owner_at : (xs : List X) (first p n : ℕ) (x : X) (place : ℕ) → slice_get xs n ≡ Some x → start_of p xs n ≤ p + place
        → p + place < start_of p xs n + size x → slice_get (owners_from size owner first xs) place ≡ Some (owner (first + n))
    owner_at [] first p n x place got above below = no_some x got
    owner_at (y ∷ xs) first p zero x place got above below =
        let z : first ≡ first + 0 = omega arith in
        front_same (size y) place (owner first) (owners_from size owner (first + 1) xs) (omega (arith, below, ap size (some_is y x got)))
        ∙ ap (λ n. Some (owner n)) z
    owner_at (y ∷ xs) first p (suc n) x place got above below =
        let past : size y ≤ place = omega (arith, start_low (p + size y) xs n, above) in
        let rest = place - size y in
        let whole : place ≡ size y + rest = omega (arith, past) in
        let there : p + place ≡ p + size y + rest = omega (arith, whole) in
        let next : first + 1 + n ≡ first + suc n = omega arith in
        behind_same (size y) place rest (owner first) (owners_from size owner (first + 1) xs) whole
        ∙ owner_at xs (first + 1) (p + size y) n x rest got (omega (arith, above, there)) (omega (arith, below, there))
        ∙ ap (λ m. Some (owner m)) next

    -- Whose the place is, by its number
    pub record Whose (xs : List X) (first p place : ℕ) (its : Owner) : Type 0 where
      pub number : ℕ
      pub one : X
      pub at : slice_get xs number ≡ Some one
      pub is : its ≡ owner (first + number)
      pub above : start_of p xs number ≤ p + place
      pub below : p + place < start_of p xs number + size one

    pub whose : (xs : List X) (first p place : ℕ) (its : Owner) → slice_get (owners_from size owner first xs) place ≡ Some its
        → Whose xs first p place its
    whose [] first p place its got = no_some its got
    whose (x ∷ xs) first p place its got = elim (cases_lt place (size x)) [
      | inl less ↦ (
          let z : first ≡ first + 0 = omega arith in
          let own = some_is (owner first) its (sym (front_same (size x) place (owner first) (owners_from size owner (first + 1) xs) less) ∙ got) in
          record { number = 0; one = x; at = refl; is = sym own ∙ ap owner z; above = omega arith; below = omega (arith, less) }
          )
      | inr more ↦ (
          let rest = place - size x in
          let whole : place ≡ size x + rest = omega (arith, more) in
          let there : p + place ≡ p + size x + rest = omega (arith, whole) in
          let w = whose xs (first + 1) (p + size x) rest its
          (sym (behind_same (size x) place rest (owner first) (owners_from size owner (first + 1) xs) whole) ∙ got) in
          let next : first + 1 + w.number ≡ first + suc w.number = omega arith in
          record {
            number = suc w.number;
            one = w.one;
            at = w.at;
            is = w.is ∙ ap owner next;
            above = omega (arith, w.above, there);
            below = omega (arith, w.below, there);
          }
          )
    ]
