-- The newest note that passes a test.
use Rattle.std.proofs.Common.{◌≡◌, ◌⊎◌, inl, inr, ◌∙◌, refl, sym, ap, subst, ℕ, zero, suc, ◌<◌, Bool, true, false, ◌||◌, ltb, List, [], ◌∷◌, ◌++◌, length, fold, Option, None, Some, arith, ltb-true}
use Rattle.std.specs.Prelude.{slice_get, if◌then◌else◌}
use Rattle.std.proofs.lemmas.Bool.{ltb-false}
use Rattle.std.proofs.lemmas.Option.{same_Some, slice_get_within, none-some}
use Rattle.psy_log.specs.declared.note.Note.{Note}
use Rattle.psy_assert.specs.declared.sum.Newest.{Newest}
use Rattle.psy_assert.specs.Sums.{IsNewest, later, value_of}

-- ---- one note more

get_kept : (notes : List Note) (n m : Note) (i : ℕ) → slice_get notes i ≡ Some m → slice_get (notes ++ n ∷ []) i ≡ Some m
get_kept [] n m i is = absurd (none-some m is)
get_kept (x ∷ notes) n m zero is = is
get_kept (x ∷ notes) n m (suc i) is = get_kept notes n m i is

get_last : (notes : List Note) (n : Note) → slice_get (notes ++ n ∷ []) (length notes) ≡ Some n
get_last [] n = refl
get_last (x ∷ notes) n = get_last notes n

get_either : (notes : List Note) (n m : Note) (i : ℕ) → slice_get (notes ++ n ∷ []) i ≡ Some m → (slice_get notes i ≡ Some m) ⊎ ((i ≡ length notes) × (n ≡ m))
get_either [] n m zero is = inr (refl, same_Some n m is)
get_either [] n m (suc i) is = absurd (none-some m is)
get_either (x ∷ notes) n m zero is = inl is
get_either (x ∷ notes) n m (suc i) is = elim (get_either notes n m i is) [ inl h ↦ inl h | inr h ↦ inr (ap suc h.0, h.1) ]

-- A note that doesn't pass changes nothing.
pub newest_kept : (test : Note → Bool) (notes : List Note) (n : Note) (o : Option Newest) → test n ≡ false → IsNewest test notes o → IsNewest test (notes ++ n ∷ []) o
newest_kept test notes n None fails none = λ i m at. elim (get_either notes n m i at) [ inl h ↦ none i m h | inr h ↦ sym (ap test h.1) ∙ fails ]
newest_kept test notes n (Some found) fails is =
    ((is.0.0, get_kept notes n is.0.0 found.place is.0.1, is.0.2, is.0.3), λ i m more at. elim (get_either notes n m i at) [ inl h ↦ is.1 i m more h | inr h ↦ sym (ap test h.1) ∙ fails ])

-- One that passes is the newest.
pub newest_here : (test : Note → Bool) (notes : List Note) (n : Note) (found : Newest) → found.place ≡ length notes → found.value ≡ value_of n → test n ≡ true
    → IsNewest test (notes ++ n ∷ []) (Some found)
newest_here test notes n found place value passes = (
  (n, subst (λ k. slice_get (notes ++ n ∷ []) k ≡ Some n) (sym place) (get_last notes n), passes, sym value),
  λ i m more at.
      elim (get_either notes n m i at) [
        | inl h ↦ absurd (omega (arith, slice_get_within notes i m h, more, place))
        | inr h ↦ absurd (omega (arith, h.0, more, place))
      ],
)

-- ---- of two tests

-- A test that agrees
pub newest_same : (p q : Note → Bool) → ((n : Note) → p n ≡ q n) → (notes : List Note) (o : Option Newest) → IsNewest p notes o → IsNewest q notes o
newest_same p q same notes o is = subst (λ (r : Note → Bool). IsNewest r notes o) (λ i n. same n i) is

-- What passes neither
neither : (a b : Bool) → a ≡ false → b ≡ false → (a || b) ≡ false
neither a b f g = rw (f, g) refl

-- The later of two is the newest that passes one of two tests.
pub newest_later : (p q : Note → Bool) (notes : List Note) (one other : Option Newest) → IsNewest p notes one → IsNewest q notes other
    → IsNewest (λ n. p n || q n) notes (later one other)
newest_later p q notes None None is also = λ i n at. neither (p n) (q n) (is i n at) (also i n at)
newest_later p q notes None (Some second) is also = (
  (also.0.0, also.0.1, rw (is second.place also.0.0 also.0.1) also.0.2, also.0.3),
  λ i n more at. neither (p n) (q n) (is i n at) (also.1 i n more at),
)
newest_later p q notes (Some first) None is also = (
  (is.0.0, is.0.1, rw is.0.2 refl, is.0.3),
  λ i n more at. neither (p n) (q n) (is.1 i n more at) (also i n at),
)
newest_later p q notes (Some first) (Some second) is also = by (ltb first.place second.place) refl
  where
    either : (a b : Bool) → b ≡ true → (a || b) ≡ true
    either true b e = refl
    either false b e = e

    by : (t : Bool) → ltb first.place second.place ≡ t → IsNewest (λ n. p n || q n) notes (if t then Some second else Some first)
    by true e = (
      (also.0.0, also.0.1, either (p also.0.0) (q also.0.0) also.0.2, also.0.3),
      λ i n more at. neither (p n) (q n) (is.1 i n (omega (arith, ltb-true first.place second.place e, more)) at) (also.1 i n more at),
    )
    by false e = (
      (is.0.0, is.0.1, rw is.0.2 refl, is.0.3),
      λ i n more at. neither (p n) (q n) (is.1 i n more at) (also.1 i n (omega (arith, ltb-false first.place second.place e, more)) at),
    )

-- ---- by a fold

module _ (test : Note → Bool) where
  pub none_later : (found : Option Note) (notes : List Note) → ((i : ℕ) (n : Note) → slice_get notes i ≡ Some n → test n ≡ false)
      → fold (λ f n. if test n then Some n else f) found notes ≡ found
  none_later found [] none = refl
  none_later found (n ∷ notes) none = rw (none 0 n refl) (none_later found notes (λ i m is. none (suc i) m is))

  pub one_latest : (found : Option Note) (notes : List Note) (place : ℕ) (n : Note) → slice_get notes place ≡ Some n → test n ≡ true
      → ((i : ℕ) (m : Note) → place < i → slice_get notes i ≡ Some m → test m ≡ false) → fold (λ f n. if test n then Some n else f) found notes ≡ Some n
  one_latest found [] place n is passes none = absurd (none-some n is)
  one_latest found (m ∷ notes) zero n is passes none =
      let same : m ≡ n = same_Some m n is in
      let here : test m ≡ true = ap test same ∙ passes in
      rw here (none_later (Some m) notes (λ i o at. none (suc i) o (omega arith) at) ∙ ap Some same)
  one_latest found (m ∷ notes) (suc place) n is passes none =
      one_latest (if test m then Some m else found) notes place n is passes (λ i o more at. none (suc i) o (omega (arith, more)) at)
