-- One item more to pick from.
use Rattle.std.proofs.Common.{◌≡◌, ℕ, ◌+◌, ◌<◌, Bool, true, false, MatchBool, List, [], ◌∷◌, ◌++◌, length, take, get_or, sym, subst}
use Rattle.std.proofs.lemmas.List.{take_more}
use Rattle.psy_expect.specs.Terminals.{Picks, none, picked, passed}

picks_more : {A : Type 0} (P : A → Type 0) (xs ys : List A) (x : A) → P x → Picks P xs ys → Picks P (xs ++ x ∷ []) (ys ++ x ∷ [])
picks_more P _ _ x is none = picked is none
picks_more P _ _ x is (picked {xs = xs} {ys = ys} h more) = picked h (picks_more P xs ys x is more)
picks_more P _ ys x is (passed {xs = xs} h more) = passed h (picks_more P xs ys x is more)

picks_no_more : {A : Type 0} (P : A → Type 0) (xs ys : List A) (x : A) → (P x → ⊥) → Picks P xs ys → Picks P (xs ++ x ∷ []) ys
picks_no_more P _ _ x not none = passed not none
picks_no_more P _ _ x not (picked {xs = xs} {ys = ys} h more) = picked h (picks_no_more P xs ys x not more)
picks_no_more P _ ys x not (passed {xs = xs} h more) = passed h (picks_no_more P xs ys x not more)

-- The next item of a list is picked where the test says so, and passed where it doesn't
pub picks_yes : {A : Type 0} (P : A → Type 0) (xs ys : List A) (i : ℕ) (d : A) (b : Bool) → i < length xs → b ≡ true
    → MatchBool b (P (get_or xs i d)) (P (get_or xs i d) → ⊥) → Picks P (take i xs) ys → Picks P (take (i + 1) xs) (ys ++ get_or xs i d ∷ [])
picks_yes P xs ys i d true within is holds picks =
    subst (λ zs. Picks P zs (ys ++ get_or xs i d ∷ [])) (sym (take_more xs i d within)) (picks_more P (take i xs) ys (get_or xs i d) holds picks)
picks_yes P xs ys i d false within is holds picks = absurd cc

pub picks_no : {A : Type 0} (P : A → Type 0) (xs ys : List A) (i : ℕ) (d : A) (b : Bool) → i < length xs → b ≡ false
    → MatchBool b (P (get_or xs i d)) (P (get_or xs i d) → ⊥) → Picks P (take i xs) ys → Picks P (take (i + 1) xs) ys
picks_no P xs ys i d false within is fails picks =
    subst (λ zs. Picks P zs ys) (sym (take_more xs i d within)) (picks_no_more P (take i xs) ys (get_or xs i d) fails picks)
picks_no P xs ys i d true within is fails picks = absurd cc
