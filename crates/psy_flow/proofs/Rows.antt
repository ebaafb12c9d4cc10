-- The row of the functions' depths.
use Rattle.std.proofs.Common.{◌≡◌, ℕ, zero, suc, ◌+◌, ◌<◌, List, [], ◌∷◌, ◌++◌, map, take, length, set, get_or, refl, sym, ap, ◌∙◌, arith}
use Rattle.std.proofs.lemmas.List.{take_more, take_more_set, map-set, length-map}
use Rattle.psy_tree.specs.declared.unit.FunctionDecl.{FunctionDecl}
use Rattle.psy_meaning.specs.Depths.{Depth, call_depth}
use Rattle.psy_flow.specs.declared.depths.Depths.{Depths}
use Rattle.psy_flow.specs.Counted.{held, capped_depth, counted_calls_from, counted_calls}

pub map-take : {X Y : Type 0} (f : X → Y) (i : ℕ) (xs : List X) → map f (take i xs) ≡ take i (map f xs)
map-take f zero xs = refl
map-take f (suc i) [] = refl
map-take f (suc i) (x ∷ xs) = ap (λ ys. f x ∷ ys) (map-take f i xs)

-- One more function
pub calls-append : (above : List Depth) (fs : List FunctionDecl) (f : FunctionDecl) → counted_calls_from above (fs ++ f ∷ []) ≡ counted_calls_from above fs ++ capped_depth (call_depth (counted_calls_from above fs) f) ∷ []
calls-append above [] f = refl
calls-append above (g ∷ fs) f = calls-append (above ++ capped_depth (call_depth above g) ∷ []) fs f

-- One more entry of the row
pub row_more : (fs : List FunctionDecl) (row : List Depths) (i : ℕ) (f : FunctionDecl) (d : Depths) → i < length fs → i < length row → get_or fs i f ≡ f → take i (map held row) ≡ counted_calls (take i fs) → held d ≡ capped_depth (call_depth (map held (take i row)) f) → take (i + 1) (map held (set row i d)) ≡ counted_calls (take (i + 1) fs)
row_more fs row i f d h k e before here =
    let in_row : i < length (map held row) = omega (arith, length-map row held) in
    let above : map held (take i row) ≡ counted_calls (take i fs) = map-take held i row ∙ before in
    ap (take (i + 1)) (map-set held row i d) ∙ take_more_set (map held row) i (held d) in_row
    ∙ ap (λ ds. ds ++ held d ∷ []) before
    ∙ ap (λ x. counted_calls (take i fs) ++ x ∷ []) (here ∙ ap (λ ds. capped_depth (call_depth ds f)) above)
    ∙ sym (calls-append [] (take i fs) f)
    ∙ sym (ap counted_calls (take_more fs i f h ∙ ap (λ y. take i fs ++ y ∷ []) e))
