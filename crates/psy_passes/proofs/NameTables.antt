-- Tables of names.
use Rattle.std.proofs.Common.{◌≡◌, ℕ, Bool, true, false, List, [], ◌∷◌, ◌++◌, map, bytes_eq, if◌then◌else◌, refl, sym, ap, ◌∙◌}
use Rattle.std.specs.List.{list_any}
use Rattle.std.proofs.lemmas.List.{map-append}
use Rattle.indexmap.specs.IndexSet.{insert_key}
use Rattle.psy_lists.proofs.lemmas.Searches.{list_any-map}
use Rattle.psy_passes.specs.Names.{with_name}

-- A table after a name is inserted
pub names_inserted : {K : Type 0} (now : K → List ℕ) (eq : K → K → Bool) → ((x y : K) → eq x y ≡ bytes_eq (now x) (now y)) → (ks : List K) (k : K)
    → map now (insert_key eq ks k) ≡ with_name (map now ks) (now k)
names_inserted {K} now eq same ks k = by (list_any (eq k) ks) refl
  where
    found : list_any (eq k) ks ≡ list_any (bytes_eq (now k)) (map now ks)
    found = ap (λ (q : K → Bool). list_any q ks) (λ i x. same k x i) ∙ sym (list_any-map (bytes_eq (now k)) now ks)

    by : (b : Bool) → list_any (eq k) ks ≡ b → map now (insert_key eq ks k) ≡ with_name (map now ks) (now k)
    by true t = ap (λ b. map now (if b then ks else ks ++ k ∷ [])) t ∙ ap (λ b. if b then map now ks else map now ks ++ now k ∷ []) (sym t ∙ found)
    by false f =
        ap (λ b. map now (if b then ks else ks ++ k ∷ [])) f ∙ map-append now ks (k ∷ [])
        ∙ ap (λ b. if b then map now ks else map now ks ++ now k ∷ []) (sym f ∙ found)
