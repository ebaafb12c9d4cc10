-- Tests: Bools and what they say.
use Rattle.std.proofs.Common.{◌≡◌, ◌∙◌, ◌&&◌, ◌||◌, Bool, true, false, not, T, refl, sym, ap, subst}
use Rattle.std.proofs.lemmas.Bool.{false≢true}

pub differ : {A : Type 0} → true ≡ false → A
differ h = elim (subst T h (tt {0})) [ ]

pub not_true : (b : Bool) → (b ≡ true → ⊥) → b ≡ false
not_true true h = absurd (h refl)
not_true false h = refl

-- ---- the other way

pub is_off : (b : Bool) → not b ≡ true → b ≡ false
is_off true e = sym e
is_off false e = refl

pub is_on : (b : Bool) → not b ≡ false → b ≡ true
is_on true e = refl
is_on false e = sym e

-- ---- both

pub both : (a b : Bool) → a ≡ true → b ≡ true → (a && b) ≡ true
both a b p q = ap (λ t. t && b) p ∙ q

pub each_of_both : (a b : Bool) → (a && b) ≡ true → (a ≡ true) × (b ≡ true)
each_of_both true b h = (refl, h)
each_of_both false b h = absurd (false≢true h)

-- ---- one of both

pub or_false : (b : Bool) → (b || false) ≡ b
or_false true = refl
or_false false = refl

pub or_true : (b : Bool) → (b || true) ≡ true
or_true true = refl
or_true false = refl

pub or_or : (a b c : Bool) → ((a || b) || c) ≡ (a || (b || c))
or_or true b c = refl
or_or false b c = refl

pub or_right : (a b : Bool) → (a || b) ≡ false → b ≡ false
or_right true b h = absurd (false≢true (sym h))
or_right false b h = h
