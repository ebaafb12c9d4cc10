-- Lists of different names.
use Rattle.std.proofs.Common.{◌≡◌, ℕ, Bool, true, false, ◌||◌, List, [], ◌∷◌, ◌++◌, length, map, get_or, set, bytes_eq, Some, suc, ◌<◌, if◌then◌else◌, refl, sym, ap, subst, ◌∙◌, arith}
use Rattle.std.specs.List.{list_any, position, position_or_len}
use Rattle.std.proofs.lemmas.Bool.{false≢true, or_parts, or_from}
use Rattle.std.proofs.lemmas.List.Folds.{list_any-append}
use Rattle.std.proofs.lemmas.List.Quantifiers.{position-Some}
use Rattle.std.proofs.lemmas.List.Sums.{position_or_len_is}
use Rattle.std.proofs.lemmas.Slice.Eq.{bytes_eq-Decides}
use Rattle.psy_passes.specs.Names.{AreDistinct, changed, with_name}

-- Names that differ one way differ the other way.
pub differ : (a b : List ℕ) → bytes_eq a b ≡ false → bytes_eq b a ≡ false
differ a b h = by (bytes_eq b a) refl
  where
    by : (t : Bool) → bytes_eq b a ≡ t → t ≡ false
    by false e = refl
    by true e = absurd (false≢true (sym h ∙ (bytes_eq-Decides a b).1 (sym ((bytes_eq-Decides b a).0 e))))

-- A name that isn't there goes behind.
behind : (names : List (List ℕ)) (name : List ℕ) → list_any (bytes_eq name) names ≡ false → AreDistinct names → AreDistinct (names ++ name ∷ [])
behind [] name absent distinct = (refl, tt)
behind (first ∷ names) name absent distinct =
    let parts = or_parts (bytes_eq name first) (list_any (bytes_eq name) names) absent in (
      list_any-append (bytes_eq first) names (name ∷ []) ∙ or_from (list_any (bytes_eq first) names) (bytes_eq first name || false) distinct.0
          (or_from (bytes_eq first name) false (differ name first parts.0) refl),
      behind names name parts.1 distinct.1,
    )

-- Names stay different where one is added.
pub distinct_added : (names : List (List ℕ)) (name : List ℕ) → AreDistinct names → AreDistinct (with_name names name)
distinct_added names name distinct = by (list_any (bytes_eq name) names) refl
  where
    by : (t : Bool) → list_any (bytes_eq name) names ≡ t → AreDistinct (if t then names else names ++ name ∷ [])
    by true e = distinct
    by false e = behind names name e distinct

-- Where the name isn't there, nothing changes.
pub unchanged : {X : Type 0} (f : List ℕ → X) (name : List ℕ) (g : X → X) (names : List (List ℕ)) → list_any (bytes_eq name) names ≡ false
    → map (changed f name g) names ≡ map f names
unchanged f name g [] absent = refl
unchanged f name g (first ∷ names) absent =
    let parts = or_parts (bytes_eq name first) (list_any (bytes_eq name) names) absent in
    ap (λ t. (if t then g (f first) else f first) ∷ map (changed f name g) names) parts.0 ∙ ap (λ rest. f first ∷ rest) (unchanged f name g names parts.1)

-- What belongs to a name is changed at its place.
pub changed_at : {X : Type 0} (f : List ℕ → X) (name : List ℕ) (g : X → X) (names : List (List ℕ)) → AreDistinct names
    → set (map f names) (position_or_len (bytes_eq name) names) (g (f name)) ≡ map (changed f name g) names
changed_at f name g [] distinct = refl
changed_at {X} f name g (first ∷ names) distinct = by (changed_at f name g names distinct.1) (bytes_eq name first) refl
  where
    by : set (map f names) (position_or_len (bytes_eq name) names) (g (f name)) ≡ map (changed f name g) names
        → (t : Bool) → bytes_eq name first ≡ t → set (map f (first ∷ names)) (position_or_len (bytes_eq name) (first ∷ names)) (g (f name)) ≡ map (changed f name g) (first ∷ names)
    by more true e =
        let same : name ≡ first = (bytes_eq-Decides name first).0 e in
        let absent : list_any (bytes_eq name) names ≡ false = subst (λ n. list_any (bytes_eq n) names ≡ false) (sym same) distinct.0 in
        rw (e, unchanged f name g names absent) (ap (λ n. g (f n) ∷ map f names) same)
    by more false e =
        let next : position_or_len (bytes_eq name) (first ∷ names) ≡ suc (position_or_len (bytes_eq name) names) = rw e (omega arith) in
        let here : set (map f (first ∷ names)) (position_or_len (bytes_eq name) (first ∷ names)) (g (f name)) ≡ f first ∷ set (map f names) (position_or_len (bytes_eq name) names) (g (f name)) =
        ap (λ k. set (map f (first ∷ names)) k (g (f name))) next in
        let there : f first ∷ map (changed f name g) names ≡ map (changed f name g) (first ∷ names) =
        ap (λ t. (if t then g (f first) else f first) ∷ map (changed f name g) names) (sym e) in
        here ∙ ap (λ rest. f first ∷ rest) more ∙ there

-- The place that was found
pub place_is : (name : List ℕ) (names : List (List ℕ)) (place : ℕ) → position (bytes_eq name) names ≡ Some place
    → (place < length names) × (position_or_len (bytes_eq name) names ≡ place) × (name ≡ get_or names place [])
place_is name names place found =
    let at = position-Some (bytes_eq name) names place [] found in
    (at.0, position_or_len_is (bytes_eq name) names place [] (omega (arith, at.0)) (λ k under. at.2 k under) (λ _. at.1), (bytes_eq-Decides name (get_or names place [])).0 at.1)
