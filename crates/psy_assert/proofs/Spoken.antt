-- What is found among notes, and an assertion that is kept.
use Rattle.std.proofs.Common.{◌≡◌, ◌∙◌, refl, ap, ℕ, ℤ, Bool, true, false, ◌&&◌, ◌||◌, cond, not, List, [], ◌∷◌, find, Option, None, Some, is_some}
use Rattle.std.specs.Prelude.{if◌then◌else◌}
use Rattle.std.specs.List.{list_any}
use Rattle.psy_log.specs.declared.note.Note.{Note}
use Rattle.psy_log.specs.declared.note.Note.TheVariants as note
use Rattle.psy_assert.specs.declared.terms.Relation.{Relation}
use Rattle.psy_assert.specs.declared.sum.Newest.{Newest}
use Rattle.psy_assert.specs.Sums.{IsNewest, stands_so, value_of}
use Rattle.psy_assert.proofs.Newest.{none_later, one_latest}
use Rattle.psy_assert.specs.Verdicts.{broken_by, failing, is_kept, kept_by, meets, newest, of_values, tells}

-- Tests that agree find the same.
pub any_same : {X : Type 0} (p q : X → Bool) → ((x : X) → p x ≡ q x) → (xs : List X) → list_any p xs ≡ list_any q xs
any_same {X} p q same xs = ap (λ (r : X → Bool). list_any r xs) (λ i x. same x i)

pub find_any : {X : Type 0} (p : X → Bool) (xs : List X) → is_some (find p xs) ≡ list_any p xs
find_any p [] = refl
find_any p (x ∷ xs) = by (p x) (find_any p xs)
  where
    by : (t : Bool) → is_some (find p xs) ≡ list_any p xs → is_some (cond t (Some x) (find p xs)) ≡ (t || list_any p xs)
    by true more = refl
    by false more = more

-- ---- the newest

-- Whether there is a newest value, and whether it fails
pub newest_some : (variable : List ℕ) (by : ℕ) (notes : List Note) (o : Option Newest) → IsNewest (tells variable by) notes o → is_some (newest variable by notes) ≡ is_some o
newest_some variable by notes None none = ap is_some (none_later (tells variable by) None notes none)
newest_some variable by notes (Some found) is = ap is_some (one_latest (tells variable by) None notes found.place is.0.0 is.0.1 is.0.2 is.1)

fails_so : (relation : Relation) (value : ℤ) (variable : List ℕ) (by : ℕ) (n : Note) → tells variable by n ≡ true → not (is_some (failing relation value (Some n))) ≡ meets relation (value_of n) value
fails_so relation value variable by (note.Value date name told) is = at (meets relation told value)
  where
    at : (t : Bool) → not (is_some (if t then None else Some (note.Value date name told))) ≡ t
    at true = refl
    at false = refl
fails_so relation value variable by _ is = absurd cc

pub newest_stands : (relation : Relation) (value : ℤ) (variable : List ℕ) (by : ℕ) (notes : List Note) (o : Option Newest) → IsNewest (tells variable by) notes o
    → not (is_some (failing relation value (newest variable by notes))) ≡ stands_so relation value o
newest_stands relation value variable by notes None none = ap (λ n. not (is_some (failing relation value n))) (none_later (tells variable by) None notes none)
newest_stands relation value variable by notes (Some found) is =
    ap (λ n. not (is_some (failing relation value n))) (one_latest (tells variable by) None notes found.place is.0.0 is.0.1 is.0.2 is.1)
    ∙ fails_so relation value variable by is.0.0 is.0.2 ∙ ap (λ v. meets relation v value) is.0.3

-- ---- verdicts

pub values_kept : (first later last : Option Note) → is_kept (of_values first later last) ≡ ((not (is_some first) && not (is_some later)) && is_some last)
values_kept None None None = refl
values_kept None None (Some n) = refl
values_kept None (Some n) last = refl
values_kept (Some n) later last = refl

pub broken_kept : (found : Option Note) → is_kept (broken_by found) ≡ not (is_some found)
broken_kept None = refl
broken_kept (Some n) = refl

pub missing_kept : (found : Option Note) → is_kept (kept_by found) ≡ is_some found
missing_kept None = refl
missing_kept (Some n) = refl
