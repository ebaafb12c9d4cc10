-- Tops of statements one after the other, the last one last.
use Rattle.std.proofs.Common.{◌≡◌, ℕ, ◌+◌, ◌<◌, List, [], ◌∷◌, ◌++◌, map, take, length, get_or, Option, Some, None, refl, sym, ap, ◌∙◌, arith}
use Rattle.psy_flow.specs.declared.tops.Tops.{Tops}
use Rattle.psy_flow.specs.Tops.{falling, plus, greater, and_on, tops_through}
use Rattle.psy_flow.proofs.Limits.{tops, same_tops}
use Rattle.psy_flow.proofs.Lists.{map_more}

-- The greatest of three ways, the first of them behind both counts
ends_same : (n m : ℕ) (c b a : Option ℕ) → greater (plus (n + m) c) (greater (plus n b) a) ≡ greater (plus n (greater (plus m c) b)) a
ends_same n m None b a = refl
ends_same n m (Some c) None None = ap Some (omega arith)
ends_same n m (Some c) None (Some a) = ap Some (omega arith)
ends_same n m (Some c) (Some b) None = ap Some (omega arith)
ends_same n m (Some c) (Some b) (Some a) = ap Some (omega arith)

and_on_assoc_of : (af ab at bf bb bt : Option ℕ) (c : Tops) → and_on (and_on (tops af ab at) (tops bf bb bt)) c ≡ and_on (tops af ab at) (and_on (tops bf bb bt) c)
and_on_assoc_of None ab at bf bb bt c = refl
and_on_assoc_of (Some n) ab at None bb bt c = refl
and_on_assoc_of (Some n) ab at (Some m) bb bt c =
    same_tops (and_on (and_on (tops (Some n) ab at) (tops (Some m) bb bt)) c) (and_on (tops (Some n) ab at) (and_on (tops (Some m) bb bt) c))
    (ends_same n m c.fell None None) (ends_same n m c.back bb ab) (ends_same n m c.to bt at)

pub and_on-assoc : (a b c : Tops) → and_on (and_on a b) c ≡ and_on a (and_on b c)
and_on-assoc a b c = and_on_assoc_of a.fell a.back a.to b.fell b.back b.to c

first_nothing : (a : Option ℕ) → greater (plus 0 a) None ≡ a
first_nothing None = refl
first_nothing (Some a) = ap Some (omega arith)

pub and_on-first : (t : Tops) → and_on (falling 0) t ≡ t
and_on-first t = same_tops (and_on (falling 0) t) t (first_nothing t.fell) (first_nothing t.back) (first_nothing t.to)

and_on_last_of : (f b t : Option ℕ) → and_on (tops f b t) (falling 0) ≡ tops f b t
and_on_last_of None b t = refl
and_on_last_of (Some n) b t = ap (λ m. tops (Some m) b t) (omega arith)

pub and_on-last : (t : Tops) → and_on t (falling 0) ≡ t
and_on-last t = and_on_last_of t.fell t.back t.to

pub through-append : (ts us : List Tops) → tops_through (ts ++ us) ≡ and_on (tops_through ts) (tops_through us)
through-append [] us = sym (and_on-first (tops_through us))
through-append (t ∷ ts) us = ap (and_on t) (through-append ts us) ∙ sym (and_on-assoc t (tops_through ts) (tops_through us))

pub through_more : {X : Type 0} (f : X → Tops) (xs : List X) (i : ℕ) (x : X) → i < length xs → get_or xs i x ≡ x → tops_through (map f (take (i + 1) xs)) ≡ and_on (tops_through (map f (take i xs))) (f x)
through_more f xs i x h e =
    ap tops_through (map_more f xs i x h e) ∙ through-append (map f (take i xs)) (f x ∷ []) ∙ ap (and_on (tops_through (map f (take i xs)))) (and_on-last (f x))
