-- The rests of statements, by number.
use Rattle.std.proofs.Common.{◌≡◌, ℕ, zero, suc, ◌+◌, ◌-◌, ◌<◌, List, [], ◌∷◌, ◌++◌, take, drop, length, get_or, Some, None, refl, sym, ap, ◌∙◌, arith}
use Rattle.std.proofs.lemmas.List.{length-drop, take_all, get_or-append-add}
use Rattle.psy_meaning.proofs.lemmas.RestPieces.{stmts_are}
use Rattle.psy_lists.proofs.lemmas.Places.{drop_read}
use Rattle.psy_tree.specs.declared.unit.Expr.{Expr}
use Rattle.psy_tree.specs.declared.unit.Stmt.{Stmt, para-roll-Stmt, roll-Stmt}
use Rattle.psy_tree.specs.declared.unit.Stmt.TheVariants as stmt
use Rattle.psy_tree.specs.declared.unit.Stmt.TheOpen.{Stmt-F}
use Rattle.psy_meaning.specs.Statements.{Piece, Do, Hop}
use Rattle.psy_meaning.specs.Rest.{Rests, each_then, pieces_of, rests_step, rests_of, rests_of_list}

-- ---- the rests of each statement

pub rests_advance : (point : ℕ) → rests_of (stmt.Advance point) ≡ [] ∷ []
rests_advance point = ap rests_of (sym (stmt.rolls-Advance point)) ∙ para-roll-Stmt Rests rests_step (Stmt-F.Advance point)

pub rests_if : (test : Expr) (branch : List Stmt) → rests_of (stmt.If test branch None) ≡ rests_of_list branch
rests_if test branch = ap rests_of (sym (stmt.rolls-If test branch None)) ∙ para-roll-Stmt Rests rests_step (Stmt-F.If test branch None)

pub rests_if_else : (test : Expr) (branch other : List Stmt) → rests_of (stmt.If test branch (Some other)) ≡ each_then (rests_of_list branch) (Hop ∷ []) ++ rests_of_list other
rests_if_else test branch other = ap rests_of (sym (stmt.rolls-If test branch (Some other))) ∙ para-roll-Stmt Rests rests_step (Stmt-F.If test branch (Some other))

pub rests_bounded : (test : Expr) (most : ℕ) (body : List Stmt) → rests_of (stmt.Bounded test most body) ≡ rests_of_list body
rests_bounded test most body = ap rests_of (sym (stmt.rolls-Bounded test most body)) ∙ para-roll-Stmt Rests rests_step (Stmt-F.Bounded test most body)

pub rests_timed : (test : Expr) (body : List Stmt) → rests_of (stmt.Timed test body) ≡ each_then (rests_of_list body) (Hop ∷ Do (stmt.Timed test body) ∷ [])
rests_timed test body =
    ap rests_of (sym (stmt.rolls-Timed test body)) ∙ para-roll-Stmt Rests rests_step (Stmt-F.Timed test body)
    ∙ ap (λ ss. each_then (rests_of_list body) (Hop ∷ Do (roll-Stmt (Stmt-F.Timed test ss)) ∷ [])) (stmts_are body)
    ∙ ap (λ t. each_then (rests_of_list body) (Hop ∷ Do t ∷ [])) (stmt.rolls-Timed test body)

pub whole_rest : {X : Type 0} (xs : List X) (k : ℕ) → take (length xs - k) (drop k xs) ≡ drop k xs
whole_rest xs k = take_all (length xs - k) (drop k xs) (omega (arith, length-drop k xs))

pub rests_dropped : (stmts : List Stmt) (i : ℕ) (x : Stmt) → i < length stmts → x ≡ get_or stmts i x →
    rests_of_list (drop i stmts) ≡ each_then (rests_of x) (pieces_of (drop (i + 1) stmts)) ++ rests_of_list (drop (i + 1) stmts)
rests_dropped stmts i x h e =
    ap rests_of_list (drop_read stmts i x h e)
    ∙ ap (λ ss. each_then (rests_of x) (pieces_of ss) ++ rests_of_list (drop (i + 1) stmts)) (stmts_are (drop (i + 1) stmts))

-- ---- a rest by its number

pub get_or-append_second : (xs ys : Rests) (n k : ℕ) → n ≡ length xs + k → get_or (xs ++ ys) n [] ≡ get_or ys k []
get_or-append_second xs ys n k e = ap (λ m. get_or (xs ++ ys) m []) e ∙ get_or-append-add xs ys k []

pub get_or-each_then : (xs : Rests) (ps : List Piece) (n : ℕ) → n < length xs → get_or (each_then xs ps) n [] ≡ get_or xs n [] ++ ps
get_or-each_then [] ps n h = absurd (omega arith)
get_or-each_then (x ∷ xs) ps zero h = refl
get_or-each_then (x ∷ xs) ps (suc n) h = get_or-each_then xs ps n (omega arith)
