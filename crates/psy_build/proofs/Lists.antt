-- Two lists side by side, and names that differ.
use Rattle.std.proofs.Common.{◌≡◌, ◌∙◌, ℕ, zero, suc, ◌+◌, Bool, true, false, ◌||◌, List, [], ◌∷◌, ◌++◌, map, length, append_assoc, Some, refl, sym, ap, subst, arith}
use Rattle.std.specs.Prelude.{bytes_eq, slice_get}
use Rattle.std.specs.List.{All, flat_map, list_any}
use Rattle.std.proofs.lemmas.List.{map-append}
use Rattle.std.proofs.lemmas.Option.{none-some, same_Some, slice_get_within}
use Rattle.std.proofs.lemmas.List.Elements.{All-head, All-tail}
use Rattle.std.proofs.lemmas.Slice.Eq.{bytes_eq-Decides}
use Rattle.psy_image.specs.Bytes.{paired_bytes}
use Rattle.psy_lists.proofs.lemmas.Places.{in_front}
use Rattle.psy_lists.proofs.lemmas.Tests.{not_true}
use Rattle.psy_meaning.proofs.lemmas.Eaches.{each-second}
use Rattle.psy_meaning.specs.Sound.{Each}
use Rattle.psy_meaning.specs.Units.{AllDiffer}
use Rattle.psy_tree.proofs.lemmas.Lists.{slice_get-behind}

-- ---- two lists

-- The members of two lists, side by side
abbrev pub pairs : {X Y : Type 0} → List X → List Y → List (X × Y)
pairs [] ys = []
pairs (x ∷ xs) [] = []
pairs (x ∷ xs) (y ∷ ys) = (x, y) ∷ pairs xs ys

pub paired_is : {X Y : Type 0} (bytes : X → Y → List ℕ) (xs : List X) (ys : List Y) → paired_bytes bytes xs ys ≡ flat_map (λ (p : X × Y). bytes p.0 p.1) (pairs xs ys)
paired_is bytes [] [] = refl
paired_is bytes [] (y ∷ ys) = refl
paired_is bytes (x ∷ xs) [] = refl
paired_is bytes (x ∷ xs) (y ∷ ys) = ap (λ t. bytes x y ++ t) (paired_is bytes xs ys)

pub firsts : {X Y : Type 0} (xs : List X) (ys : List Y) → length xs ≡ length ys → map (λ (p : X × Y). p.0) (pairs xs ys) ≡ xs
firsts [] ys e = refl
firsts (x ∷ xs) [] e = absurd (omega (arith, e))
firsts (x ∷ xs) (y ∷ ys) e = ap (λ t. x ∷ t) (firsts xs ys (omega (arith, e)))

pub seconds : {X Y : Type 0} (xs : List X) (ys : List Y) → length xs ≡ length ys → map (λ (p : X × Y). p.1) (pairs xs ys) ≡ ys
seconds [] [] e = refl
seconds [] (y ∷ ys) e = absurd (omega (arith, e))
seconds (x ∷ xs) [] e = absurd (omega (arith, e))
seconds (x ∷ xs) (y ∷ ys) e = ap (λ t. y ∷ t) (seconds xs ys (omega (arith, e)))

pub as_many : {X Y : Type 0} (xs : List X) (ys : List Y) → length xs ≡ length ys → length (pairs xs ys) ≡ length ys
as_many [] [] e = refl
as_many [] (y ∷ ys) e = absurd (omega (arith, e))
as_many (x ∷ xs) [] e = absurd (omega (arith, e))
as_many (x ∷ xs) (y ∷ ys) e = ap suc (as_many xs ys (omega (arith, e)))

both_of : {X Y : Type 0} (p q : X × Y) → Some p ≡ Some q → (Some p.0 ≡ Some q.0) × (Some p.1 ≡ Some q.1)
both_of {X} {Y} p q e = let same : p ≡ q = same_Some p q e in (ap (λ (r : X × Y). Some r.0) same, ap (λ (r : X × Y). Some r.1) same)

-- Both stand at the place at which they stand side by side.
pub sides : {X Y : Type 0} (xs : List X) (ys : List Y) (i : ℕ) (p : X × Y) → slice_get (pairs xs ys) i ≡ Some p → (slice_get xs i ≡ Some p.0) × (slice_get ys i ≡ Some p.1)
sides [] ys i p e = absurd (none-some p e)
sides (a ∷ xs) [] i p e = absurd (none-some p e)
sides (a ∷ xs) (b ∷ ys) zero p e = both_of (a, b) p e
sides (a ∷ xs) (b ∷ ys) (suc i) p e = sides xs ys i p e

-- ---- one of a list

-- What stands behind some of a list
pub place_of : {X : Type 0} (whole before : List X) (x : X) (later : List X) → whole ≡ before ++ x ∷ later → slice_get whole (length before) ≡ Some x
place_of whole before x later is = let zero_more : length before ≡ length before + 0 = omega arith in
    ap (λ xs. slice_get xs (length before)) is ∙ ap (slice_get (before ++ x ∷ later)) zero_more ∙ slice_get-behind before (x ∷ later) 0

pub each_at : {X : Type 0} (P : X → Type 0) (whole before : List X) (x : X) (later : List X) → whole ≡ before ++ x ∷ later → Each P whole → P x
each_at P whole before x later is h = (each-second P before (x ∷ later) (subst (Each P) is h)).0

pub each_of : {X : Type 0} (P : X → Type 0) (xs : List X) → All P xs → Each P xs
each_of P [] h = tt
each_of P (x ∷ xs) h = (All-head P x xs h, each_of P xs (All-tail P x xs h))

-- ---- names

among_by : (name x : List ℕ) (xs : List (List ℕ)) → (list_any (bytes_eq name) xs ≡ true → (i : ℕ) × (slice_get xs i ≡ Some name)) → (b : Bool) → bytes_eq name x ≡ b → (b || list_any (bytes_eq name) xs) ≡ true
    → (i : ℕ) × (slice_get (x ∷ xs) i ≡ Some name)
among_by name x xs later true is e = (0, ap Some (sym ((bytes_eq-Decides name x).0 is)))
among_by name x xs later false is e = let (i, at) = later e in (suc i, at)

among : (name : List ℕ) (xs : List (List ℕ)) → list_any (bytes_eq name) xs ≡ true → (i : ℕ) × (slice_get xs i ≡ Some name)
among name [] e = absurd cc
among name (x ∷ xs) e = among_by name x xs (among name xs) (bytes_eq name x) refl e

-- It is none of those before it.
pub is_new : (before : List (List ℕ)) (name : List ℕ) (later : List (List ℕ)) → AllDiffer (before ++ name ∷ later) → list_any (bytes_eq name) before ≡ false
is_new before name later differ = not_true (list_any (bytes_eq name) before) (λ e. never (among name before e))
  where
    never : (i : ℕ) × (slice_get before i ≡ Some name) → ⊥
    never (i, at) =
        let same : i ≡ length before = differ i (length before) name (in_front before (name ∷ later) i name at) (place_of (before ++ name ∷ later) before name later refl) in
        absurd (omega (arith, slice_get_within before i name at, same))

-- The names of a list's members between others
pub name_at : {X : Type 0} (name_of : X → List ℕ) (prior : List (List ℕ)) (whole before : List X) (x : X) (later : List X) (tail : List (List ℕ)) → whole ≡ before ++ x ∷ later
    → prior ++ (map name_of whole ++ tail) ≡ (prior ++ map name_of before) ++ (name_of x ∷ (map name_of later ++ tail))
name_at name_of prior whole before x later tail is =
    ap (λ xs. prior ++ (map name_of xs ++ tail)) is ∙ ap (λ l. prior ++ (l ++ tail)) (map-append name_of before (x ∷ later))
    ∙ ap (λ l. prior ++ l) (append_assoc (map name_of before) (name_of x ∷ map name_of later) tail) ∙ sym (append_assoc prior (map name_of before) (name_of x ∷ (map name_of later ++ tail)))

-- So one of them is none of those before it.
pub new_at : {X : Type 0} (name_of : X → List ℕ) (prior : List (List ℕ)) (whole before : List X) (x : X) (later : List X) (tail : List (List ℕ)) → whole ≡ before ++ x ∷ later
    → AllDiffer (prior ++ (map name_of whole ++ tail)) → list_any (bytes_eq (name_of x)) (prior ++ map name_of before) ≡ false
new_at name_of prior whole before x later tail is differ =
    is_new (prior ++ map name_of before) (name_of x) (map name_of later ++ tail) (subst AllDiffer (name_at name_of prior whole before x later tail is) differ)
