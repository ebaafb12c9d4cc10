-- There are as many places behind an `advance` as `advance` statements.
use Rattle.std.proofs.Common.{◌≡◌, refl, sym, ap, subst, ◌∙◌, arith}
use Rattle.std.specs.Prelude.{ℕ, ◌+◌, List, [], ◌∷◌, map, length, Some, None}
use Rattle.std.proofs.lemmas.List.{length-append}
use Rattle.psy_tree.specs.declared.unit.Stmt.{Stmt, roll-Stmt, fold-roll-Stmt, para-roll-Stmt, map-Stmt, ind-Stmt}
use Rattle.psy_tree.specs.declared.unit.Stmt.TheOpen.{Stmt-F}
use Rattle.psy_meaning.specs.Sizes.{expr_size, stmt_size}
use Rattle.psy_meaning.specs.Paths.{advances_step, advances_of, advances_in}
use Rattle.psy_gen.specs.Emission.{Places, Placed, places_in, placed_size, places_step, places_of}
use Rattle.psy_gen.proofs.Equations.{placed}

abbrev Q : Stmt → Type 0
Q stmt = (p : ℕ) → length (places_of stmt p) ≡ length (advances_of stmt)

abbrev Known : Type 0
Known = (stmt : Stmt) × Q stmt

abbrev tree : Known → Stmt
tree x = x.0

in_list : (ks : List Known) (p : ℕ) → length (places_in (map placed (map tree ks)) p) ≡ length (advances_in (map tree ks))
in_list [] p = refl
in_list (x ∷ xs) p =
    omega (
      arith,
      length-append (places_of x.0 p) (places_in (map placed (map tree xs)) (p + stmt_size x.0)),
      length-append (advances_of x.0) (advances_in (map tree xs)),
      x.1 p,
      in_list xs (p + stmt_size x.0),
    )

step_count : (y : Stmt-F Known) (p : ℕ) → let x = map-Stmt Known Stmt tree y in length (places_step (map-Stmt Stmt Placed placed x) p) ≡ length (advances_step (map-Stmt Stmt (List ℕ) advances_of x))
step_count (Stmt-F.Set slot value) p = refl
step_count (Stmt-F.SetCopy variable value) p = refl
step_count (Stmt-F.SetCell slot index value) p = refl
step_count (Stmt-F.If test branch None) p = in_list branch (p + expr_size test + 1)
step_count (Stmt-F.If test branch (Some other)) p =
    let first = p + expr_size test + 1 in
    let second = first + placed_size (map placed (map tree branch)) + 1 in
    omega (
      arith,
      length-append (places_in (map placed (map tree branch)) first) (places_in (map placed (map tree other)) second),
      length-append (advances_in (map tree branch)) (advances_in (map tree other)),
      in_list branch first,
      in_list other second,
    )
step_count (Stmt-F.Bounded test most body) p = in_list body (p + 1 + expr_size test + 2)
step_count (Stmt-F.Timed test body) p = in_list body (p + expr_size test + 1)
step_count (Stmt-F.Send value stream after clock) p = refl
step_count (Stmt-F.Advance point) p = refl
step_count (Stmt-F.Return value) p = refl

layer : (y : Stmt-F Known) → Q (roll-Stmt (map-Stmt Known Stmt tree y))
layer y p =
    let x : Stmt-F Stmt = map-Stmt Known Stmt tree y in
    ap (λ (f : Places). length (f p)) (para-roll-Stmt Places places_step x) ∙ step_count y p ∙ ap length (sym (fold-roll-Stmt (List ℕ) advances_step x))

pub count : (stmt : Stmt) → Q stmt
count = ind-Stmt Q (λ x y is. subst (λ z. Q (roll-Stmt z)) is (layer y))

abbrev known_of : Stmt → Known
known_of s = (s, count s)

trees : (stmts : List Stmt) → map tree (map known_of stmts) ≡ stmts
trees [] = refl
trees (x ∷ xs) = ap (λ l. x ∷ l) (trees xs)

pub places_count : (stmts : List Stmt) (p : ℕ) → length (places_in (map placed stmts) p) ≡ length (advances_in stmts)
places_count stmts p = subst (λ l. length (places_in (map placed l) p) ≡ length (advances_in l)) (trees stmts) (in_list (map known_of stmts) p)
