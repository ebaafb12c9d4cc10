-- The values of a list by number, its last one beyond its end.
use Rattle.std.proofs.Common.{◌≡◌, ℕ, suc, zero, ◌-◌, ◌<◌, ◌≤◌, min, List, [], ◌∷◌, length, get_or, refl, ap, ◌∙◌, inl, inr, arith}
use Rattle.std.specs.Prelude.{ℤ}
use Rattle.std.proofs.lemmas.Bool.{cases_lt}
use Rattle.psy_history.specs.Visible.{nth_or_last}

pub nth_within : (empty : ℤ) (list : List ℤ) (n : ℕ) (d : ℤ) → n < length list → get_or list n d ≡ nth_or_last empty list n
nth_within empty [] n d l = absurd (omega (arith, l))
nth_within empty (value ∷ values) zero d l = refl
nth_within empty (value ∷ values) (suc n) d l = nth_within value values n d (omega (arith, l))

pub nth_beyond : (empty : ℤ) (list : List ℤ) (n i : ℕ) (d : ℤ) → i < length list → length list ≤ suc i → i ≤ n → get_or list i d ≡ nth_or_last empty list n
nth_beyond empty [] n i d l last le = absurd (omega (arith, l))
nth_beyond empty (value ∷ []) n (suc i) d l last le = absurd (omega (arith, l))
nth_beyond empty (value ∷ []) zero zero d l last le = refl
nth_beyond empty (value ∷ []) (suc n) zero d l last le = refl
nth_beyond empty (value ∷ other ∷ values) n zero d l last le = absurd (omega (arith, last))
nth_beyond empty (value ∷ other ∷ values) zero (suc i) d l last le = absurd (omega (arith, le))
nth_beyond empty (value ∷ other ∷ values) (suc n) (suc i) d l last le = nth_beyond value (other ∷ values) n i d (omega (arith, l)) (omega (arith, last)) (omega (arith, le))

pub nth_is : (empty : ℤ) (list : List ℤ) (n i : ℕ) (d : ℤ) → 1 ≤ length list → i ≡ min n (length list - 1) → get_or list i d ≡ nth_or_last empty list n
nth_is empty list n i d some is = elim (cases_lt n (length list)) [
  | inl within ↦ (let same : i ≡ n = omega (arith, is, within, some) in ap (λ k. get_or list k d) same ∙ nth_within empty list n d within)
  | inr beyond ↦ nth_beyond empty list n i d (omega (arith, is, beyond, some)) (omega (arith, is, beyond, some)) (omega (arith, is, beyond, some))
]
