-- The numbers of marks that are set.
use Rattle.std.proofs.Common.{◌≡◌, ℕ, zero, suc, ◌+◌, ◌<◌, ◌≤◌, Bool, true, false, List, [], ◌∷◌, length, Some, refl, ap, subst, ◌∙◌, arith}
use Rattle.std.specs.Prelude.{slice_get, replicate}
use Rattle.std.specs.List.{Contains}
use Rattle.std.proofs.lemmas.Bool.{false≢true}
use Rattle.std.proofs.lemmas.Option.{none-some, same_Some}
use Rattle.psy_meaning.specs.Flow.{Rises}
use Rattle.psy_flow.specs.Reach.{marked, marked_from, numbers_from, numbers_of}

-- ---- which are there

-- The number is that of a mark that is set.
abbrev IsSet : ℕ → List Bool → ℕ → Type 0
IsSet n marks to = (k : ℕ) × (to ≡ n + k) × (slice_get marks k ≡ Some true)

further : (x y : ℕ) (xs : List ℕ) → Contains xs y → Contains (x ∷ xs) y
further x y xs c = (suc c.0, omega (arith, c.1), c.2)

numbers_set : (n : ℕ) (marks : List Bool) (to : ℕ) → Contains (numbers_from n marks) to → IsSet n marks to
numbers_set n [] to (i, less, is) = absurd (omega (arith, less))
numbers_set n (true ∷ marks) to (zero, less, is) = (0, omega (arith, is), refl)
numbers_set n (true ∷ marks) to (suc i, less, is) =
    let (k, e, s) = numbers_set (n + 1) marks to (i, omega (arith, less), is) in
    (suc k, omega (arith, e), s)
numbers_set n (false ∷ marks) to c =
    let (k, e, s) = numbers_set (n + 1) marks to c in
    (suc k, omega (arith, e), s)

set_numbers : (n : ℕ) (marks : List Bool) (k : ℕ) → slice_get marks k ≡ Some true → Contains (numbers_from n marks) (n + k)
set_numbers n [] k s = absurd (none-some true s)
set_numbers n (true ∷ marks) zero s = let here : n ≡ n + 0 = omega arith in (0, omega arith, here)
set_numbers n (false ∷ marks) zero s = absurd (false≢true (same_Some false true s))
set_numbers n (true ∷ marks) (suc k) s =
    let next : n + 1 + k ≡ n + suc k = omega arith in
    further n (n + suc k) (numbers_from (n + 1) marks) (subst (Contains (numbers_from (n + 1) marks)) next (set_numbers (n + 1) marks k s))
set_numbers n (false ∷ marks) (suc k) s =
    let next : n + 1 + k ≡ n + suc k = omega arith in
    subst (Contains (numbers_from (n + 1) marks)) next (set_numbers (n + 1) marks k s)

-- ---- their order

least : (n : ℕ) (marks : List Bool) (i m : ℕ) → slice_get (numbers_from n marks) i ≡ Some m → n ≤ m
least n [] i m e = absurd (none-some m e)
least n (true ∷ marks) zero m e = omega (arith, same_Some n m e)
least n (true ∷ marks) (suc i) m e = omega (arith, least (n + 1) marks i m e)
least n (false ∷ marks) i m e = omega (arith, least (n + 1) marks i m e)

rises : (n : ℕ) (marks : List Bool) → Rises (numbers_from n marks)
rises n [] i j m k l e f = absurd (none-some m e)
rises n (true ∷ marks) zero zero m k l e f = absurd (omega (arith, l))
rises n (true ∷ marks) zero (suc j) m k l e f = omega (arith, same_Some n m e, least (n + 1) marks j k f)
rises n (true ∷ marks) (suc i) zero m k l e f = absurd (omega (arith, l))
rises n (true ∷ marks) (suc i) (suc j) m k l e f = rises (n + 1) marks i j m k (omega (arith, l)) e f
rises n (false ∷ marks) i j m k l e f = rises (n + 1) marks i j m k l e f

pub numbers_rise : (marks : List Bool) → Rises (numbers_of marks)
numbers_rise marks = rises 0 marks

-- ---- marks where there were none

pub length-marked : (n : ℕ) (marks : List Bool) (also : ℕ → Bool) → length (marked_from n marks also) ≡ length marks
length-marked n [] also = refl
length-marked n (m ∷ marks) also = omega (arith, length-marked (n + 1) marks also)

marked_set : (n count k : ℕ) (also : ℕ → Bool) → slice_get (marked_from n (replicate count false) also) k ≡ Some true → (k < count) × (also (n + k) ≡ true)
marked_set n zero k also s = absurd (none-some true s)
marked_set n (suc count) zero also s = let here : n + 0 ≡ n = omega arith in (omega arith, ap also here ∙ same_Some (also n) true s)
marked_set n (suc count) (suc k) also s =
    let next : n + suc k ≡ n + 1 + k = omega arith in
    let (less, held) = marked_set (n + 1) count k also s in
    (omega (arith, less), ap also next ∙ held)

pub set_marked : (n count k : ℕ) (also : ℕ → Bool) → k < count → also (n + k) ≡ true → slice_get (marked_from n (replicate count false) also) k ≡ Some true
set_marked n zero k also l e = absurd (omega (arith, l))
set_marked n (suc count) zero also l e = let here : n ≡ n + 0 = omega arith in ap Some (ap also here ∙ e)
set_marked n (suc count) (suc k) also l e =
    let next : n + 1 + k ≡ n + suc k = omega arith in
    set_marked (n + 1) count k also (omega (arith, l)) (ap also next ∙ e)

pub numbered : (count to : ℕ) (also : ℕ → Bool) → Contains (numbers_of (marked (replicate count false) also)) to → also to ≡ true
numbered count to also c =
    let (k, e, s) = numbers_set 0 (marked (replicate count false) also) to c in
    ap also e ∙ (marked_set 0 count k also s).1

pub numbers : (count to : ℕ) (also : ℕ → Bool) → to < count → also to ≡ true → Contains (numbers_of (marked (replicate count false) also)) to
numbers count to also l e =
    let zeroed : 0 + to ≡ to = omega arith in
    subst (Contains (numbers_of (marked (replicate count false) also))) zeroed (set_numbers 0 (marked (replicate count false) also) to (set_marked 0 count to also l (ap also zeroed ∙ e)))
