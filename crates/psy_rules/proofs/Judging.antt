-- Faults noted one by one, and the judgement that they make.
use Rattle.std.proofs.Common.{◌≡◌, ℕ, ◌+◌, ◌<◌, Bool, true, false, ◌&&◌, List, [], ◌∷◌, ◌++◌, map, take, length, get_or, Option, refl, sym, ap, ◌∙◌, arith, append-nil, append_assoc}
use Rattle.std.proofs.lemmas.List.{take_more, map-append}
use Rattle.psy_tree.specs.declared.raw.RawStmt.{RawStmt}
use Rattle.psy_tree.specs.Scope.{Site}
use Rattle.psy_tree.specs.Places.{Place, joined}
use Rattle.psy_tree.specs.Paths.{all, total, quiet, quiet_list, advances, advances_list}
use Rattle.psy_rules.specs.declared.least.RuleAt.{RuleAt}
use Rattle.psy_rules.specs.Judged.{judged, judged_all}

pub judged_all_append : (site : Site) (ps qs : List Place) (l : Option RuleAt) → judged_all site (ps ++ qs) l ≡ judged_all site qs (judged_all site ps l)
judged_all_append site [] qs l = refl
judged_all_append site (p ∷ ps) qs l = judged_all_append site ps qs (judged site p l)

joined-append : {A : Type 0} (xs ys : List (List A)) → joined (xs ++ ys) ≡ joined xs ++ joined ys
joined-append [] ys = refl
joined-append (x ∷ xs) ys = ap (λ r. x ++ r) (joined-append xs ys) ∙ sym (append_assoc x (joined xs) (joined ys))

pub joined_more : {X A : Type 0} (f : X → List A) (xs : List X) (i : ℕ) (x : X) → i < length xs → get_or xs i x ≡ x → joined (map f (take (i + 1) xs)) ≡ joined (map f (take i xs)) ++ f x
joined_more f xs i x h e =
    ap (λ ys. joined (map f ys)) (take_more xs i x h ∙ ap (λ y. take i xs ++ y ∷ []) e)
    ∙ ap joined (map-append f (take i xs) (x ∷ []))
    ∙ joined-append (map f (take i xs)) (f x ∷ [])
    ∙ ap (λ r. joined (map f (take i xs)) ++ r) (append-nil (f x))

-- One more of the things whose places are judged
pub judged_more : {X : Type 0} (f : X → List Place) (site : Site) (xs : List X) (i : ℕ) (x : X) (l m n : Option RuleAt) → i < length xs → get_or xs i x ≡ x → m ≡ judged_all site (joined (map f (take i xs))) l → n ≡ judged_all site (f x) m → n ≡ judged_all site (joined (map f (take (i + 1) xs))) l
judged_more f site xs i x l m n h e before here =
    here ∙ ap (judged_all site (f x)) before ∙ sym (judged_all_append site (joined (map f (take i xs))) (f x) l)
    ∙ sym (ap (λ ps. judged_all site ps l) (joined_more f xs i x h e))

-- One more of the things whose places are judged, each of which has one
pub judged_next : {X : Type 0} (f : X → Place) (site : Site) (xs : List X) (i : ℕ) (x : X) (l m n : Option RuleAt) → i < length xs → get_or xs i x ≡ x →
    m ≡ judged_all site (map f (take i xs)) l → n ≡ judged site (f x) m → n ≡ judged_all site (map f (take (i + 1) xs)) l
judged_next f site xs i x l m n h e before here =
    here ∙ ap (judged site (f x)) before ∙ sym (judged_all_append site (map f (take i xs)) (f x ∷ []) l)
    ∙ sym (ap (λ ys. judged_all site (map f ys) l) (take_more xs i x h ∙ ap (λ y. take i xs ++ y ∷ []) e)
    ∙ ap (λ ps. judged_all site ps l) (map-append f (take i xs) (x ∷ [])))

all-append : (bs : List Bool) (b : Bool) → all (bs ++ b ∷ []) ≡ (all bs && b)
all-append [] true = refl
all-append [] false = refl
all-append (true ∷ bs) b = all-append bs b
all-append (false ∷ bs) b = refl

total-append : (ns : List ℕ) (n : ℕ) → total (ns ++ n ∷ []) ≡ total ns + n
total-append [] n = omega arith
total-append (m ∷ ns) n = omega (arith, total-append ns n)

pub quiet_more : (xs : List RawStmt) (i : ℕ) (x : RawStmt) → i < length xs → get_or xs i x ≡ x → quiet_list (take (i + 1) xs) ≡ (quiet_list (take i xs) && quiet x)
quiet_more xs i x h e =
    ap quiet_list (take_more xs i x h ∙ ap (λ y. take i xs ++ y ∷ []) e)
    ∙ ap all (map-append quiet (take i xs) (x ∷ [])) ∙ all-append (map quiet (take i xs)) (quiet x)

pub advances_more : (xs : List RawStmt) (i : ℕ) (x : RawStmt) → i < length xs → get_or xs i x ≡ x → advances_list (take (i + 1) xs) ≡ advances_list (take i xs) + advances x
advances_more xs i x h e =
    ap advances_list (take_more xs i x h ∙ ap (λ y. take i xs ++ y ∷ []) e)
    ∙ ap total (map-append advances (take i xs) (x ∷ [])) ∙ total-append (map advances (take i xs)) (advances x)
