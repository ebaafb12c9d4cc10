-- Lists with one more of the things that are measured.
use Rattle.std.proofs.Common.{◌≡◌, ℕ, suc, ◌+◌, ◌<◌, List, [], ◌∷◌, ◌++◌, map, take, length, get_or, ap, ◌∙◌, arith}
use Rattle.std.proofs.lemmas.List.{take_more, map-append, length-map, length-take-le}
use Rattle.psy_meaning.specs.Depths.{Depth, shallow, deeper, on_top_of, deepest, stacked}
use Rattle.psy_tree.specs.Paths.{total}
use Rattle.psy_flow.proofs.Capped.{same}

pub map_more : {X Y : Type 0} (f : X → Y) (xs : List X) (i : ℕ) (x : X) → i < length xs → get_or xs i x ≡ x → map f (take (i + 1) xs) ≡ map f (take i xs) ++ f x ∷ []
map_more f xs i x h e = ap (map f) (take_more xs i x h ∙ ap (λ y. take i xs ++ y ∷ []) e) ∙ map-append f (take i xs) (x ∷ [])

-- ---- the greatest of depths

pub deepest-append : (ds : List Depth) (d : Depth) → deepest (ds ++ d ∷ []) ≡ deeper (deepest ds) d
deepest-append [] d = same (deeper d shallow) (deeper shallow d) (omega arith) (omega arith)
deepest-append (e ∷ ds) d =
    let before = deepest ds in
    ap (deeper e) (deepest-append ds d) ∙ same (deeper e (deeper before d)) (deeper (deeper e before) d) (omega arith) (omega arith)

pub deepest_more : {X : Type 0} (f : X → Depth) (xs : List X) (i : ℕ) (x : X) → i < length xs → get_or xs i x ≡ x → deepest (map f (take (i + 1) xs)) ≡ deeper (deepest (map f (take i xs))) (f x)
deepest_more f xs i x h e = ap deepest (map_more f xs i x h e) ∙ deepest-append (map f (take i xs)) (f x)

-- ---- each on top of those before it

stacked-append : (n : ℕ) (ds : List Depth) (d : Depth) → stacked n (ds ++ d ∷ []) ≡ deeper (stacked n ds) (on_top_of (n + length ds) d)
stacked-append n [] d = same (deeper (on_top_of n d) shallow) (deeper shallow (on_top_of (n + 0) d)) (omega arith) (omega arith)
stacked-append n (e ∷ ds) d =
    let before = stacked (n + 1) ds in
    ap (deeper (on_top_of n e)) (stacked-append (n + 1) ds d)
    ∙ same (deeper (on_top_of n e) (deeper before (on_top_of (n + 1 + length ds) d))) (deeper (deeper (on_top_of n e) before) (on_top_of (n + suc (length ds)) d)) (omega arith) (omega arith)

pub stacked_more : {X : Type 0} (f : X → Depth) (xs : List X) (i : ℕ) (x : X) → i < length xs → get_or xs i x ≡ x → stacked 0 (map f (take (i + 1) xs)) ≡ deeper (stacked 0 (map f (take i xs))) (on_top_of i (f x))
stacked_more f xs i x h e =
    let before : 0 + length (map f (take i xs)) ≡ i = omega (arith, length-map (take i xs) f, length-take-le i xs) in
    ap (stacked 0) (map_more f xs i x h e) ∙ stacked-append 0 (map f (take i xs)) (f x)
    ∙ ap (λ n. deeper (stacked 0 (map f (take i xs))) (on_top_of n (f x))) before

-- ---- sums

total-append : (ns : List ℕ) (n : ℕ) → total (ns ++ n ∷ []) ≡ total ns + n
total-append [] n = omega arith
total-append (m ∷ ns) n = omega (arith, total-append ns n)

pub total_more : {X : Type 0} (f : X → ℕ) (xs : List X) (i : ℕ) (x : X) → i < length xs → get_or xs i x ≡ x → total (map f (take (i + 1) xs)) ≡ total (map f (take i xs)) + f x
total_more f xs i x h e = ap total (map_more f xs i x h e) ∙ total-append (map f (take i xs)) (f x)
