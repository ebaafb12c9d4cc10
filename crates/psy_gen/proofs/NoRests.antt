-- Statements that hold no `advance` have no rests and no places behind one.
use Rattle.std.proofs.Common.{◌≡◌, refl, sym, ap, subst, ◌∙◌, arith}
use Rattle.std.specs.Prelude.{ℕ, Bool, true, false, List, [], ◌∷◌, ◌++◌, map, length, Some, None}
use Rattle.std.specs.List.{list_any}
use Rattle.psy_lists.proofs.lemmas.Tests.{differ}
use Rattle.psy_tree.specs.declared.unit.Stmt.{Stmt, roll-Stmt, fold-roll-Stmt, map-Stmt, ind-Stmt}
use Rattle.psy_tree.specs.declared.unit.Stmt.TheOpen.{Stmt-F}
use Rattle.psy_meaning.specs.Paths.{one_of, holds_step, holds, holds_advance, advances_step, advances_of, advances_in}
use Rattle.psy_meaning.specs.Rest.{rests_in, with_rests}
use Rattle.psy_meaning.proofs.lemmas.RestsOf.{rests_count}
use Rattle.psy_gen.specs.Emission.{places_in}
use Rattle.psy_meaning.proofs.lemmas.NoWays.{or_false}
use Rattle.psy_gen.proofs.Equations.{placed}
use Rattle.psy_gen.proofs.PlaceCounts.{places_count}

abbrev Q : Stmt → Type 0
Q stmt = holds true false stmt ≡ false → advances_of stmt ≡ []

abbrev Known : Type 0
Known = (stmt : Stmt) × Q stmt

abbrev tree : Known → Stmt
tree x = x.0

none_in : (ks : List Known) → one_of (map (holds true false) (map tree ks)) ≡ false → advances_in (map tree ks) ≡ []
none_in [] h = refl
none_in (x ∷ xs) h =
    let both = or_false (holds true false x.0) (one_of (map (holds true false) (map tree xs))) h in
    ap (λ l. l ++ advances_in (map tree xs)) (x.1 both.0) ∙ none_in xs both.1

step_none : (y : Stmt-F Known) → let x = map-Stmt Known Stmt tree y in holds_step true false (map-Stmt Stmt Bool (holds true false) x) ≡ false → advances_step (map-Stmt Stmt (List ℕ) advances_of x) ≡ []
step_none (Stmt-F.Set slot value) h = refl
step_none (Stmt-F.SetCopy variable value) h = refl
step_none (Stmt-F.SetCell slot index value) h = refl
step_none (Stmt-F.If test branch None) h = none_in branch h
step_none (Stmt-F.If test branch (Some other)) h =
    let both = or_false (one_of (map (holds true false) (map tree branch))) (one_of (map (holds true false) (map tree other))) h in
    ap (λ l. l ++ advances_in (map tree other)) (none_in branch both.0) ∙ none_in other both.1
step_none (Stmt-F.Bounded test most body) h = none_in body h
step_none (Stmt-F.Timed test body) h = none_in body h
step_none (Stmt-F.Send value stream after clock) h = refl
step_none (Stmt-F.Advance point) h = differ h
step_none (Stmt-F.Return value) h = refl

layer : (y : Stmt-F Known) → Q (roll-Stmt (map-Stmt Known Stmt tree y))
layer y h =
    let x : Stmt-F Stmt = map-Stmt Known Stmt tree y in
    fold-roll-Stmt (List ℕ) advances_step x ∙ step_none y (sym (fold-roll-Stmt Bool (holds_step true false) x) ∙ h)

none : (stmt : Stmt) → Q stmt
none = ind-Stmt Q (λ x y is. subst (λ z. Q (roll-Stmt z)) is (layer y))

no_advances : (stmts : List Stmt) → holds_advance stmts ≡ false → advances_in stmts ≡ []
no_advances [] h = refl
no_advances (x ∷ xs) h =
    let both = or_false (holds true false x) (list_any (holds true false) xs) h in
    ap (λ l. l ++ advances_in xs) (none x both.0) ∙ no_advances xs both.1

is_empty : {A : Type 0} (xs : List A) → length xs ≡ 0 → xs ≡ []
is_empty [] e = refl
is_empty (x ∷ xs) e = absurd (omega (arith, e))

pub all_none : (stmts : List Stmt) → holds_advance stmts ≡ false → (rests_in (map with_rests stmts) ≡ []) × ((p : ℕ) → places_in (map placed stmts) p ≡ [])
all_none stmts h =
    let none = ap length (no_advances stmts h) in
    (is_empty (rests_in (map with_rests stmts)) (rests_count stmts ∙ none), λ p. is_empty (places_in (map placed stmts) p) (places_count stmts p ∙ none))
