-- Tables of names.
use Rattle.std.proofs.Common.{◌≡◌, ℕ, Bool, true, false, ◌||◌, List, [], ◌∷◌, ◌++◌, map, bytes_eq, if◌then◌else◌, refl, sym, ap, ◌∙◌}
use Rattle.std.specs.List.{list_any}
use Rattle.std.proofs.lemmas.List.{map-append}
use Rattle.std.proofs.lemmas.List.Folds.{list_any-append}
use Rattle.std.proofs.lemmas.Slice.Eq.{bytes_eq-Decides}
use Rattle.indexmap.specs.IndexSet.{insert_key}
use Rattle.psy_lists.proofs.lemmas.Searches.{list_any-map}
use Rattle.psy_lists.proofs.lemmas.Tests.{or_false}

-- A name that is there needn't be added.
there : (names : List (List ℕ)) (name other : List ℕ) → list_any (bytes_eq name) names ≡ true → list_any (bytes_eq other) names ≡ (list_any (bytes_eq other) names || bytes_eq other name)
there names name other h = by (bytes_eq other name) refl
  where
    by : (b : Bool) → bytes_eq other name ≡ b → list_any (bytes_eq other) names ≡ (list_any (bytes_eq other) names || b)
    by false e = sym (or_false (list_any (bytes_eq other) names))
    by true e =
        let same : list_any (bytes_eq other) names ≡ true = ap (λ n. list_any (bytes_eq n) names) ((bytes_eq-Decides other name).0 e) ∙ h in
        same ∙ sym (ap (λ b. b || true) same)

-- A table after a name is inserted
pub names_inserted : {K : Type 0} (now : K → List ℕ) (eq : K → K → Bool) → ((x y : K) → eq x y ≡ bytes_eq (now x) (now y)) → (ks new : List K) (k : K) (other : List ℕ) → new ≡ insert_key eq ks k → list_any (bytes_eq other) (map now new) ≡ (list_any (bytes_eq other) (map now ks) || bytes_eq other (now k))
names_inserted {K} now eq same ks new k other e = by (list_any (eq k) ks) refl
  where
    found : list_any (eq k) ks ≡ list_any (bytes_eq (now k)) (map now ks)
    found = ap (λ (q : K → Bool). list_any q ks) (λ i x. same k x i) ∙ sym (list_any-map (bytes_eq (now k)) now ks)

    by : (b : Bool) → list_any (eq k) ks ≡ b → list_any (bytes_eq other) (map now new) ≡ (list_any (bytes_eq other) (map now ks) || bytes_eq other (now k))
    by true t =
        ap (λ xs. list_any (bytes_eq other) (map now xs)) (e ∙ ap (λ b. if b then ks else ks ++ k ∷ []) t) ∙ there (map now ks) (now k) other (sym found ∙ t)
    by false f =
        ap (λ xs. list_any (bytes_eq other) (map now xs)) (e ∙ ap (λ b. if b then ks else ks ++ k ∷ []) f)
        ∙ ap (list_any (bytes_eq other)) (map-append now ks (k ∷ [])) ∙ list_any-append (bytes_eq other) (map now ks) (now k ∷ []) ∙ ap (λ b. list_any (bytes_eq other) (map now ks) || b) (or_false (bytes_eq other (now k)))
