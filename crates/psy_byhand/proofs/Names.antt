-- Names of one letter, of which no two are the same.
use Rattle.std.proofs.Common.{◌≡◌, ℕ, zero, suc, Bool, true, List, [], ◌∷◌, map, Some, refl, sym, ap, subst, ◌∙◌}
use Rattle.std.specs.Prelude.{◌==◌, ◌&&◌, not, slice_get}
use Rattle.std.proofs.lemmas.Bool.{and_parts, eq-eqb}
use Rattle.std.proofs.lemmas.Option.{none-some, same_Some}
use Rattle.psy_meaning.specs.Units.{AllDiffer}

abbrev pub letter : ℕ → List ℕ
letter byte = byte ∷ []

abbrev first_byte : List ℕ → ℕ
first_byte [] = 0
first_byte (byte ∷ bytes) = byte

-- ---- letters

abbrev pub is_other : ℕ → List ℕ → Bool
is_other byte [] = true
is_other byte (other ∷ bytes) = not (other == byte) && is_other byte bytes

abbrev pub are_distinct : List ℕ → Bool
are_distinct [] = true
are_distinct (byte ∷ bytes) = is_other byte bytes && are_distinct bytes

-- ---- their names

new_name : (byte : ℕ) (bytes : List ℕ) → is_other byte bytes ≡ true → (k : ℕ) → slice_get (map letter bytes) k ≡ Some (letter byte) → ⊥
new_name byte [] new k e = none-some (letter byte) e
new_name byte (other ∷ bytes) new zero e =
    let same = ap first_byte (same_Some (letter other) (letter byte) e) in
    let no : not true ≡ true = subst (λ b. not b ≡ true) (eq-eqb other byte same) (and_parts (not (other == byte)) (is_other byte bytes) new).0 in
    absurd cc
new_name byte (other ∷ bytes) new (suc k) e = new_name byte bytes (and_parts (not (other == byte)) (is_other byte bytes) new).1 k e

pub all_differ : (bytes : List ℕ) → are_distinct bytes ≡ true → AllDiffer (map letter bytes)
all_differ [] distinct i j name a b = absurd (none-some name a)
all_differ (byte ∷ bytes) distinct zero zero name a b = refl
all_differ (byte ∷ bytes) distinct zero (suc j) name a b = absurd (new_name byte bytes (and_parts (is_other byte bytes) (are_distinct bytes) distinct).0 j (b ∙ sym a))
all_differ (byte ∷ bytes) distinct (suc i) zero name a b = absurd (new_name byte bytes (and_parts (is_other byte bytes) (are_distinct bytes) distinct).0 i (a ∙ sym b))
all_differ (byte ∷ bytes) distinct (suc i) (suc j) name a b = ap suc (all_differ bytes (and_parts (is_other byte bytes) (are_distinct bytes) distinct).1 i j name a b)
