-- Tests that tell whether something holds.
use Rattle.std.proofs.Common.{◌≡◌, ◌⊎◌, ℕ, ◌<◌, ◌≤◌, Bool, true, false, not, ◌&&◌, ◌||◌, refl, sym, subst, inl, inr, arith}
use Rattle.std.specs.Prelude.{nat_eq, nat_le, nat_lt}
use Rattle.psy_judge.specs.Judged.{Judges}

pub judge_eq : (a b : ℕ) → Judges (nat_eq a b) (a ≡ b)
judge_eq a b = split (nat_eq a b) refl
  where
    split : (t : Bool) → nat_eq a b ≡ t → Judges t (a ≡ b)
    split true e = grind (arith, e)
    split false e = λ s. grind (arith, e, s)

pub judge_lt : (a b : ℕ) → Judges (nat_lt a b) (a < b)
judge_lt a b = split (nat_lt a b) refl
  where
    split : (t : Bool) → nat_lt a b ≡ t → Judges t (a < b)
    split true e = grind (arith, e)
    split false e = λ s. grind (arith, e, s)

pub judge_le : (a b : ℕ) → Judges (nat_le a b) (a ≤ b)
judge_le a b = split (nat_le a b) refl
  where
    split : (t : Bool) → nat_le a b ≡ t → Judges t (a ≤ b)
    split true e = grind (arith, e)
    split false e = λ s. grind (arith, e, s)

pub judge_and : (P Q : Type 0) (a b : Bool) → Judges a P → Judges b Q → Judges (a && b) (P × Q)
judge_and P Q true true p q = (p, q)
judge_and P Q true false p q = λ h. q h.1
judge_and P Q false b p q = λ h. p h.0

pub judge_or : (P Q : Type 0) (a b : Bool) → Judges a P → Judges b Q → Judges (a || b) (P ⊎ Q)
judge_or P Q true b p q = inl p
judge_or P Q false true p q = inr q
judge_or P Q false false p q = λ h. elim h [ inl x ↦ p x | inr y ↦ q y ]

pub holds : {P : Type 0} (b : Bool) → Judges b P → b ≡ true → P
holds {P} b j e = subst (λ (t : Bool). Judges t P) e j

pub fails : {P : Type 0} (b : Bool) → Judges b P → b ≡ false → P → ⊥
fails {P} b j e = subst (λ (t : Bool). Judges t P) e j

-- What is judged, by another that holds in the same cases
pub judge_if : {P Q : Type 0} (b : Bool) → Judges b P → (P → Q) → (Q → P) → Judges b Q
judge_if true j to from = to j
judge_if false j to from = λ q. j (from q)

pub known : {P : Type 0} (b : Bool) → Judges b P → P ⊎ (P → ⊥)
known true j = inl j
known false j = inr j

pub not_true : (b : Bool) → not b ≡ true → b ≡ false
not_true true e = sym e
not_true false e = refl

pub not_false : (b : Bool) → not b ≡ false → b ≡ true
not_false true e = refl
not_false false e = sym e

pub or_left : (a b : Bool) → (a || b) ≡ false → a ≡ false
or_left true b h = h
or_left false b h = refl
