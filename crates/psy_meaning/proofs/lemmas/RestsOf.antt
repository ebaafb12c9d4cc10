-- There are as many rests as `advance` statements.
use Rattle.std.proofs.Common.{◌≡◌, refl, sym, ap, subst, ◌∙◌, arith}
use Rattle.std.specs.Prelude.{ℕ, suc, List, [], ◌∷◌, map, length, Some, None}
use Rattle.std.proofs.lemmas.List.{length-append}
use Rattle.psy_tree.specs.declared.unit.Stmt.{Stmt, roll-Stmt, fold-roll-Stmt, para-roll-Stmt, map-Stmt, ind-Stmt}
use Rattle.psy_tree.specs.declared.unit.Stmt.TheOpen.{Stmt-F}
use Rattle.psy_meaning.specs.Statements.{Piece, Do, Hop}
use Rattle.psy_meaning.specs.Paths.{advances_step, advances_of, advances_in}
use Rattle.psy_meaning.specs.Rest.{Rests, Part, each_then, pieces_of, stmts_in, rests_in, rests_step, rests_of, with_rests}

pub each-length : (rs : Rests) (pieces : List Piece) → length (each_then rs pieces) ≡ length rs
each-length [] pieces = refl
each-length (r ∷ rs) pieces = ap suc (each-length rs pieces)

abbrev Q : Stmt → Type 0
Q stmt = length (rests_of stmt) ≡ length (advances_of stmt)

abbrev Known : Type 0
Known = (stmt : Stmt) × Q stmt

abbrev tree : Known → Stmt
tree k = k.0

in_list : (ks : List Known) → length (rests_in (map with_rests (map tree ks))) ≡ length (advances_in (map tree ks))
in_list [] = refl
in_list (k ∷ ks) =
    omega (
      arith,
      length-append (each_then (rests_of k.0) (pieces_of (stmts_in (map with_rests (map tree ks))))) (rests_in (map with_rests (map tree ks))),
      each-length (rests_of k.0) (pieces_of (stmts_in (map with_rests (map tree ks)))),
      length-append (advances_of k.0) (advances_in (map tree ks)),
      k.1,
      in_list ks,
    )

step_count : (y : Stmt-F Known) → let x = map-Stmt Known Stmt tree y in length (rests_step (map-Stmt Stmt Part with_rests x)) ≡ length (advances_step (map-Stmt Stmt (List ℕ) advances_of x))
step_count (Stmt-F.Set slot value) = refl
step_count (Stmt-F.SetCopy variable value) = refl
step_count (Stmt-F.SetCell slot index value) = refl
step_count (Stmt-F.If test branch None) = in_list branch
step_count (Stmt-F.If test branch (Some other)) =
    omega (
      arith,
      length-append (each_then (rests_in (map with_rests (map tree branch))) (Hop ∷ [])) (rests_in (map with_rests (map tree other))),
      each-length (rests_in (map with_rests (map tree branch))) (Hop ∷ []),
      length-append (advances_in (map tree branch)) (advances_in (map tree other)),
      in_list branch,
      in_list other,
    )
step_count (Stmt-F.Bounded test most body) = in_list body
step_count (Stmt-F.Timed test body) = each-length (rests_in (map with_rests (map tree body))) (Hop ∷ Do (roll-Stmt (Stmt-F.Timed test (stmts_in (map with_rests (map tree body))))) ∷ []) ∙ in_list body
step_count (Stmt-F.Send value stream after clock) = refl
step_count (Stmt-F.Advance point) = refl
step_count (Stmt-F.Return value) = refl

layer : (y : Stmt-F Known) → Q (roll-Stmt (map-Stmt Known Stmt tree y))
layer y =
    let x : Stmt-F Stmt = map-Stmt Known Stmt tree y in
    ap length (para-roll-Stmt Rests rests_step x) ∙ step_count y ∙ ap length (sym (fold-roll-Stmt (List ℕ) advances_step x))

count : (stmt : Stmt) → Q stmt
count = ind-Stmt Q (λ x y is. subst (λ z. Q (roll-Stmt z)) is (layer y))

pub rests_count : (stmts : List Stmt) → length (rests_in (map with_rests stmts)) ≡ length (advances_in stmts)
rests_count [] = refl
rests_count (x ∷ xs) =
    omega (
      arith,
      length-append (each_then (rests_of x) (pieces_of (stmts_in (map with_rests xs)))) (rests_in (map with_rests xs)),
      each-length (rests_of x) (pieces_of (stmts_in (map with_rests xs))),
      length-append (advances_of x) (advances_in xs),
      count x,
      rests_count xs,
    )
