-- Items put in their order one after the other.
use Rattle.std.proofs.Common.{◌≡◌, ◌∙◌, refl, ap, Bool, true, false, cond, ◌||◌, List, [], ◌∷◌, ◌++◌}
use Rattle.std.specs.List.{All, list_any}
use Rattle.std.proofs.lemmas.List.Elements.{All-cons, All-nil, All-head, All-tail}
use Rattle.psy_lists.proofs.lemmas.Tests.{or_false}
use Rattle.psy_script.specs.Rising.{put, put_all, rising}

-- Items are put one after the other.
put_all-append : {X : Type 0} (before : X → X → Bool) (xs ys placed : List X) → put_all before (xs ++ ys) placed ≡ put_all before ys (put_all before xs placed)
put_all-append before [] ys placed = refl
put_all-append before (x ∷ xs) ys placed = put_all-append before xs ys (put before x placed)

-- One more is put last.
pub rising-append : {X : Type 0} (before : X → X → Bool) (xs ys : List X) → rising before (xs ++ ys) ≡ put_all before ys (rising before xs)
rising-append before xs ys = put_all-append before xs ys []

-- Tests in another order
or_swap : (a b c : Bool) → (a || (b || c)) ≡ (b || (a || c))
or_swap true true c = refl
or_swap true false c = refl
or_swap false true c = refl
or_swap false false c = refl

-- Tests in other brackets
or_assoc : (a b c : Bool) → (a || (b || c)) ≡ ((a || b) || c)
or_assoc true b c = refl
or_assoc false b c = refl

-- Among items, one is found at the head or behind it.
any_put_at : {X : Type 0} (test : X → Bool) (b : Bool) (x y : X) (ys placed : List X) → list_any test placed ≡ (test x || list_any test ys) → list_any test (cond b (x ∷ y ∷ ys) (y ∷ placed)) ≡ (test x || list_any test (y ∷ ys))
any_put_at test true x y ys placed e = refl
any_put_at test false x y ys placed e = ap (λ r. test y || r) e ∙ or_swap (test y) (test x) (list_any test ys)

-- An item that is put is found among the others.
any_put : {X : Type 0} (test : X → Bool) (before : X → X → Bool) (x : X) (ys : List X) → list_any test (put before x ys) ≡ (test x || list_any test ys)
any_put test before x [] = refl
any_put test before x (y ∷ ys) = any_put_at test (before x y) x y ys (put before x ys) (any_put test before x ys)

-- So are many.
any_put_all : {X : Type 0} (test : X → Bool) (before : X → X → Bool) (xs placed : List X) → list_any test (put_all before xs placed) ≡ (list_any test xs || list_any test placed)
any_put_all test before [] placed = refl
any_put_all test before (x ∷ xs) placed =
    any_put_all test before xs (put before x placed) ∙ ap (λ r. list_any test xs || r) (any_put test before x placed) ∙ or_swap (list_any test xs) (test x) (list_any test placed) ∙ or_assoc (test x) (list_any test xs) (list_any test placed)

-- One of the items is found among them in their order.
pub any_rising : {X : Type 0} (test : X → Bool) (before : X → X → Bool) (xs : List X) → list_any test (rising before xs) ≡ list_any test xs
any_rising test before xs = any_put_all test before xs [] ∙ or_false (list_any test xs)

-- What holds of an item and of others holds where it is put before or behind one of them.
All_put_at : {X : Type 0} (P : X → Type 0) (b : Bool) (x y : X) (ys placed : List X) → P x → All P (y ∷ ys) → All P placed → All P (cond b (x ∷ y ∷ ys) (y ∷ placed))
All_put_at P true x y ys placed one all more = All-cons P x (y ∷ ys) one all
All_put_at P false x y ys placed one all more = All-cons P y placed (All-head P y ys all) more

-- It holds where the item is put,
pub All_put : {X : Type 0} (P : X → Type 0) (before : X → X → Bool) (x : X) (ys : List X) → P x → All P ys → All P (put before x ys)
All_put P before x [] one all = All-cons P x [] one (All-nil P)
All_put P before x (y ∷ ys) one all = All_put_at P (before x y) x y ys (put before x ys) one all (All_put P before x ys one (All-tail P y ys all))

-- And where many are.
All_put_all : {X : Type 0} (P : X → Type 0) (before : X → X → Bool) (xs placed : List X) → All P xs → All P placed → All P (put_all before xs placed)
All_put_all P before [] placed all others = others
All_put_all P before (x ∷ xs) placed all others = All_put_all P before xs (put before x placed) (All-tail P x xs all) (All_put P before x placed (All-head P x xs all) others)

-- What holds of each item holds of each in their order.
pub All_rising : {X : Type 0} (P : X → Type 0) (before : X → X → Bool) (xs : List X) → All P xs → All P (rising before xs)
All_rising P before xs all = All_put_all P before xs [] all (All-nil P)
