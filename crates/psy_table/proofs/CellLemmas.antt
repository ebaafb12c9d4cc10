-- Cells whose texts are made of their names.
use Rattle.std.proofs.Common.{◌≡◌, ℕ, ◌<◌, List, [], length, ◌+◌, ◌∷◌, ◌++◌, take, replicate, refl, map, set, get_or, bytes_eq, false, Some, sym, ap, ◌∙◌}
use Rattle.std.specs.List.{list_any, position}
use Rattle.std.proofs.lemmas.List.{get_or-map, map-append, map-set, take_more_set}
use Rattle.std.proofs.lemmas.Grind.{replicate_next}
use Rattle.psy_passes.specs.Names.{AreDistinct, changed}
use Rattle.psy_passes.proofs.lemmas.Distinct.{changed_at, place_is, unchanged}
use Rattle.psy_table.specs.CellsState.{CellsState, cells_of}

-- Cells of the same names and texts are the same.
pub same_cells : (a b : CellsState) → a.names ≡ b.names → a.texts ≡ b.texts → a ≡ b
same_cells a b names texts = λ i. record { names = names i; texts = texts i }

-- The text at a place that was found is changed.
texts_changed : (f : List ℕ → List ℕ) (name : List ℕ) (g : List ℕ → List ℕ) (names texts new : List (List ℕ)) (place : ℕ) → AreDistinct names
    → position (bytes_eq name) names ≡ Some place → texts ≡ map f names → new ≡ set texts place (g (get_or texts place [])) → new ≡ map (changed f name g) names
texts_changed f name g names texts new place distinct found are is =
    let at = place_is name names place found in
    let there : get_or texts place [] ≡ f name =
    ap (λ ts. get_or ts place []) are ∙ get_or-map f names place [] [] at.0 ∙ ap f (sym at.2) in
    is ∙ ap (λ t. set texts place (g t)) there ∙ ap (λ ts. set ts place (g (f name))) are
    ∙ ap (λ k. set (map f names) k (g (f name))) (sym at.1) ∙ changed_at f name g names distinct

-- Cells of which one was changed
pub cells_changed : (f : List ℕ → List ℕ) (name : List ℕ) (g : List ℕ → List ℕ) (names : List (List ℕ)) (old new : CellsState) (place : ℕ) → AreDistinct old.names
    → position (bytes_eq name) old.names ≡ Some place → old ≡ cells_of f names → new.names ≡ old.names
    → new.texts ≡ set old.texts place (g (get_or old.texts place [])) → new ≡ cells_of (changed f name g) names
cells_changed f name g names old new place distinct found are same is =
    let named : old.names ≡ names = ap (λ c. c.names) are in
    same_cells new (cells_of (changed f name g) names) (same ∙ named)
    (texts_changed f name g old.names old.texts new.texts place distinct found (ap (λ c. c.texts) are ∙ ap (map f) (sym named)) is ∙ ap (map (changed f name g)) named)

-- Cells of other names
pub cells_unchanged : (f : List ℕ → List ℕ) (name : List ℕ) (g : List ℕ → List ℕ) (names : List (List ℕ)) (old : CellsState)
    → list_any (bytes_eq name) old.names ≡ false → old ≡ cells_of f names → old ≡ cells_of (changed f name g) names
cells_unchanged f name g names old absent are =
    let named : old.names ≡ names = ap (λ c. c.names) are in
    are ∙ ap (λ ts. record { names = names; texts = ts })
    (ap (map f) (sym named) ∙ sym (unchanged f name g old.names absent) ∙ ap (map (changed f name g)) named)

-- A write to one of things that have items
pub items_set : {X : Type 0} (items : X → List ℕ) (xs : List X) (i : ℕ) (x : X) (text : List ℕ) → items x ≡ text → map items (set xs i x) ≡ set (map items xs) i text
items_set items xs i x text is = map-set items xs i x ∙ ap (set (map items xs) i) is

-- The same, where the text is made of the one that was there
pub items_made : {X : Type 0} (items : X → List ℕ) (xs : List X) (i : ℕ) (d x : X) (g : List ℕ → List ℕ) → i < length xs → items x ≡ g (items (get_or xs i d))
    → map items (set xs i x) ≡ set (map items xs) i (g (get_or (map items xs) i []))
items_made items xs i d x g within is = items_set items xs i x (g (get_or (map items xs) i [])) (is ∙ ap g (sym (get_or-map items xs i d [] within)))

-- One more is empty.
pub emptied_more : {X : Type 0} (items : X → List ℕ) (xs : List X) (i : ℕ) (x : X) → i < length xs → items x ≡ [] → map items (take i xs) ≡ replicate i []
    → map items (take (i + 1) (set xs i x)) ≡ replicate (i + 1) []
emptied_more items xs i x within is so_far =
    ap (map items) (take_more_set xs i x within) ∙ map-append items (take i xs) (x ∷ []) ∙ ap (λ ts. ts ++ items x ∷ []) so_far
    ∙ ap (λ t. replicate i [] ++ t ∷ []) is ∙ sym (replicate_next i [])

-- An empty text for each name
pub empty_each : (names : List (List ℕ)) → ◌≡◌ {A = List (List ℕ)} (replicate (length names) []) (map (λ _. []) names)
empty_each [] = refl
empty_each (name ∷ names) = ap (λ ts. [] ∷ ts) (empty_each names)
