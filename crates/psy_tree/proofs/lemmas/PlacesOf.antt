-- The places of each kind of expression and statement.
use Rattle.std.proofs.Common.{◌≡◌, ℕ, List, [], ◌∷◌, ◌++◌, map, length, Option, Some, None, sym, ap, ◌∙◌}
use Rattle.std.specs.Prelude.{nat_lt, is_some}
use Rattle.psy_base.specs.declared.limits.TheConstants.{AFTER, ADVANCE}
use Rattle.psy_arith.specs.declared.operators.Op2.{Op2}
use Rattle.psy_tree.specs.declared.raw.Name.{Name}
use Rattle.psy_tree.specs.declared.raw.Lit.{Lit}
use Rattle.psy_arith.specs.declared.width.Width.{Width}
use Rattle.psy_tree.specs.declared.raw.RawExpr.{RawExpr, fold-roll-RawExpr}
use Rattle.psy_tree.specs.declared.raw.RawExpr.TheVariants as expr
use Rattle.psy_tree.specs.declared.raw.RawExpr.TheOpen.{RawExpr-F}
use Rattle.psy_tree.specs.declared.raw.RawStmt.TheOpen.{RawStmt-F}
use Rattle.psy_tree.specs.declared.raw.RawStmt.{RawStmt, para-roll-RawStmt}
use Rattle.psy_tree.specs.declared.raw.RawStmt.TheVariants as stmt
use Rattle.psy_tree.specs.declared.reach.Asks.TheVariants as asks
use Rattle.psy_tree.specs.Places.{Place, Uses, Acts, Returns, Loops, Ranges, expr_places, expr_places_step, stmt_places, stmt_places_step, stmts_places, most_places, budget_places, joined}
use Rattle.psy_tree.specs.Paths.{quiet_list, advances_list}
use Rattle.psy_tree.proofs.lemmas.Lists.{map_firsts, map_seconds}

pub places_binary : (op : Op2) (l : RawExpr) (r : RawExpr) → expr_places (expr.Binary op l r) ≡ expr_places l ++ expr_places r
places_binary op l r = ap expr_places (sym (expr.rolls-Binary op l r)) ∙ fold-roll-RawExpr (List Place) expr_places_step (RawExpr-F.Binary op l r)

pub places_cast : (width : Width) (e : RawExpr) → expr_places (expr.Cast width e) ≡ expr_places e
places_cast width e = ap expr_places (sym (expr.rolls-Cast width e)) ∙ fold-roll-RawExpr (List Place) expr_places_step (RawExpr-F.Cast width e)

pub places_call : (name : Name) (es : List RawExpr) → expr_places (expr.Call name es) ≡ Uses name (asks.Call (length (map expr_places es))) ∷ joined (map expr_places es)
places_call name es = ap expr_places (sym (expr.rolls-Call name es)) ∙ fold-roll-RawExpr (List Place) expr_places_step (RawExpr-F.Call name es)

pub places_set : (name : Name) (value : RawExpr) → stmt_places (stmt.Set name value) ≡ Uses name asks.Value ∷ expr_places value
places_set name value = ap stmt_places (sym (stmt.rolls-Set name value)) ∙ para-roll-RawStmt (List Place) stmt_places_step (RawStmt-F.Set name value)

pub places_set_cell : (name : Name) (index : RawExpr) (value : RawExpr) → stmt_places (stmt.SetCell name index value) ≡ Uses name asks.Cell ∷ (expr_places index ++ expr_places value)
places_set_cell name index value = ap stmt_places (sym (stmt.rolls-SetCell name index value)) ∙ para-roll-RawStmt (List Place) stmt_places_step (RawStmt-F.SetCell name index value)

pub places_send : (token : ℕ) (value : RawExpr) (stream : Name) (after : Lit) (clock : Name) → stmt_places (stmt.Send token value stream after clock) ≡ Acts token ∷ (expr_places value ++ (Uses stream asks.Target ∷ (Ranges after 0 AFTER ∷ (Uses clock asks.Clock ∷ []))))
places_send token value stream after clock = ap stmt_places (sym (stmt.rolls-Send token value stream after clock)) ∙ para-roll-RawStmt (List Place) stmt_places_step (RawStmt-F.Send token value stream after clock)

pub places_advance : (token : ℕ) (count : Lit) (clock : Name) (budget : Option Lit) → stmt_places (stmt.Advance token count clock budget) ≡ Acts token ∷ (Ranges count 1 ADVANCE ∷ (Uses clock asks.Clock ∷ budget_places budget))
places_advance token count clock budget = ap stmt_places (sym (stmt.rolls-Advance token count clock budget)) ∙ para-roll-RawStmt (List Place) stmt_places_step (RawStmt-F.Advance token count clock budget)

pub places_return : (token : ℕ) (value : RawExpr) → stmt_places (stmt.Return token value) ≡ Returns token ∷ expr_places value
places_return token value = ap stmt_places (sym (stmt.rolls-Return token value)) ∙ para-roll-RawStmt (List Place) stmt_places_step (RawStmt-F.Return token value)

pub places_if : (test : RawExpr) (branch : List RawStmt) → stmt_places (stmt.If test branch None) ≡ expr_places test ++ stmts_places branch
places_if test branch = ap stmt_places (sym (stmt.rolls-If test branch None)) ∙ para-roll-RawStmt (List Place) stmt_places_step (RawStmt-F.If test branch None)
    ∙ ap (λ ps. expr_places test ++ joined ps) (map_seconds stmt_places branch)

pub places_if_else : (test : RawExpr) (branch : List RawStmt) (other : List RawStmt) → stmt_places (stmt.If test branch (Some other)) ≡ expr_places test ++ (stmts_places branch ++ stmts_places other)
places_if_else test branch other = ap stmt_places (sym (stmt.rolls-If test branch (Some other))) ∙ para-roll-RawStmt (List Place) stmt_places_step (RawStmt-F.If test branch (Some other))
    ∙ ap (λ ps. expr_places test ++ (joined ps ++ joined (map (λ (s : RawStmt × List Place). s.1) (map (λ s. (s, stmt_places s)) other)))) (map_seconds stmt_places branch)
    ∙ ap (λ ps. expr_places test ++ (stmts_places branch ++ joined ps)) (map_seconds stmt_places other)

abbrev looped : ℕ → Option Lit → List RawStmt → Place
looped token most body = Loops token (is_some most) (nat_lt 0 (advances_list body)) (quiet_list body)

pub places_while : (token : ℕ) (test : RawExpr) (most : Option Lit) (body : List RawStmt) → stmt_places (stmt.While token test most body) ≡ expr_places test ++ (most_places most ++ (stmts_places body ++ Loops token (is_some most) (nat_lt 0 (advances_list body)) (quiet_list body) ∷ []))
places_while token test most body = ap stmt_places (sym (stmt.rolls-While token test most body)) ∙ para-roll-RawStmt (List Place) stmt_places_step (RawStmt-F.While token test most body)
    ∙ ap (λ ps. expr_places test ++ (most_places most ++ (joined ps ++ looped token most (map (λ (s : RawStmt × List Place). s.0) (map (λ s. (s, stmt_places s)) body)) ∷ []))) (map_seconds stmt_places body)
    ∙ ap (λ ss. expr_places test ++ (most_places most ++ (stmts_places body ++ looped token most ss ∷ []))) (map_firsts stmt_places body)
