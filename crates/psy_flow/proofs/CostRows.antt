-- The row of the functions' costs.
use Rattle.std.proofs.Common.{◌≡◌, ℕ, ◌+◌, ◌<◌, min, List, [], ◌∷◌, ◌++◌, None, take, length, set, get_or, refl, sym, ap, ◌∙◌}
use Rattle.std.proofs.lemmas.List.{take_more, take_more_set}
use Rattle.psy_tree.specs.declared.unit.FunctionDecl.{FunctionDecl}
use Rattle.psy_flow.specs.declared.gauge.Gauge.{Gauge}
use Rattle.psy_flow.specs.Tops.{limit_of, stmts_tops, call_most, called, capped_from}

-- The greatest count of a call, as far as is counted, behind the functions above it
abbrev pub capped_call : Gauge → List ℕ → FunctionDecl → ℕ
capped_call g above f = min (call_most g (stmts_tops g None (called above) f.stmts)) (limit_of g)

-- One more function
pub capped_from-append : (g : Gauge) (above : List ℕ) (fs : List FunctionDecl) (f : FunctionDecl) → capped_from g above (fs ++ f ∷ []) ≡ capped_from g above fs ++ capped_call g (capped_from g above fs) f ∷ []
capped_from-append g above [] f = refl
capped_from-append g above (h ∷ fs) f = capped_from-append g (above ++ capped_call g above h ∷ []) fs f

-- One more entry of the row
pub cost_more : (g : Gauge) (fs : List FunctionDecl) (row : List ℕ) (i : ℕ) (f : FunctionDecl) (n : ℕ) → i < length fs → i < length row → get_or fs i f ≡ f →
    take i row ≡ capped_from g [] (take i fs) → n ≡ capped_call g (take i row) f → take (i + 1) (set row i n) ≡ capped_from g [] (take (i + 1) fs)
cost_more g fs row i f n h k e before here =
    take_more_set row i n k
    ∙ ap (λ ns. ns ++ n ∷ []) before
    ∙ ap (λ m. capped_from g [] (take i fs) ++ m ∷ []) (here ∙ ap (λ ns. capped_call g ns f) before)
    ∙ sym (capped_from-append g [] (take i fs) f)
    ∙ sym (ap (capped_from g []) (take_more fs i f h ∙ ap (λ y. take i fs ++ y ∷ []) e))
