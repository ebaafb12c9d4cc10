-- An expression or a statement is sound where its parts are and what it names can be named.
use Rattle.std.proofs.Common.{◌≡◌, refl, sym, ap, subst, ◌∙◌}
use Rattle.std.specs.Prelude.{◌≤◌, false, map, length, Some, None, ⊤}
use Rattle.std.proofs.lemmas.List.{length-map, map-id}
use Rattle.psy_arith.specs.declared.width.Width.TheVariants.{W32}
use Rattle.psy_tree.specs.declared.unit.Expr.{Expr, roll-Expr, map-Expr, rec-roll-Expr}
use Rattle.psy_tree.specs.declared.unit.Expr.TheOpen.{Expr-F}
use Rattle.psy_tree.specs.declared.unit.Stmt.{Stmt, roll-Stmt, map-Stmt, rec-roll-Stmt}
use Rattle.psy_tree.specs.declared.unit.Stmt.TheOpen.{Stmt-F}
use Rattle.psy_meaning.specs.Paths.{holds_advance, quiet_list}
use Rattle.psy_meaning.specs.Sound.{Scope, HasFunction, GoesInto, Each, sound_expr_step, sound_stmt_step, IsSoundExpr, IsSoundStmt}
use Rattle.psy_meaning.proofs.lemmas.Eaches.{each-map}

pub exprs_natural : (sc : Scope) (X : Type 0) (v : X → Expr) (f : Expr → Type 0) (x : Expr-F X) → sound_expr_step sc X v (λ p. f (v p)) x ≡ sound_expr_step sc Expr (λ y. y) f (map-Expr X Expr v x)
exprs_natural sc X v f (Expr-F.Number number) = refl
exprs_natural sc X v f (Expr-F.Slot slot) = refl
exprs_natural sc X v f (Expr-F.Copy variable) = refl
exprs_natural sc X v f (Expr-F.Cell slot index) = refl
exprs_natural sc X v f (Expr-F.Past variable back) = refl
exprs_natural sc X v f (Expr-F.Ready stream) = refl
exprs_natural sc X v f (Expr-F.Take stream) = refl
exprs_natural sc X v f (Expr-F.Unary operator width operand) = refl
exprs_natural sc X v f (Expr-F.Binary operator width left right) = refl
exprs_natural sc X v f (Expr-F.Cast width operand) = refl
exprs_natural sc X v f (Expr-F.Call function arguments) =
    ap (λ n. HasFunction sc function n × Each (λ x. f (v x)) arguments × Each (λ x. GoesInto sc W32 (v x)) arguments) (sym (length-map arguments v))
    ∙ ap (λ t. HasFunction sc function (length (map v arguments)) × t × Each (λ x. GoesInto sc W32 (v x)) arguments) (each-map v f arguments)
    ∙ ap (λ t. HasFunction sc function (length (map v arguments)) × Each f (map v arguments) × t) (each-map v (GoesInto sc W32) arguments)

pub stmts_natural : (sc : Scope) (X : Type 0) (v : X → Stmt) (f : Stmt → Type 0) (x : Stmt-F X) → sound_stmt_step sc X v (λ p. f (v p)) x ≡ sound_stmt_step sc Stmt (λ y. y) f (map-Stmt X Stmt v x)
stmts_natural sc X v f (Stmt-F.Set slot value) = refl
stmts_natural sc X v f (Stmt-F.SetCopy variable value) = refl
stmts_natural sc X v f (Stmt-F.SetCell slot index value) = refl
stmts_natural sc X v f (Stmt-F.If test branch None) = ap (λ t. IsSoundExpr sc test × t × ⊤) (each-map v f branch)
stmts_natural sc X v f (Stmt-F.If test branch (Some other)) =
    ap (λ t. IsSoundExpr sc test × t × Each (λ x. f (v x)) other) (each-map v f branch) ∙ ap (λ t. IsSoundExpr sc test × Each f (map v branch) × t) (each-map v f other)
stmts_natural sc X v f (Stmt-F.Bounded test most body) =
    ap (λ l. IsSoundExpr sc test × ((1 ≤ most) × (most ≤ 65536)) × Each (λ x. f (v x)) body × (holds_advance l ≡ false)) (sym (map-id (map v body)))
    ∙ ap (λ t. IsSoundExpr sc test × ((1 ≤ most) × (most ≤ 65536)) × t × (holds_advance (map (λ y. y) (map v body)) ≡ false)) (each-map v f body)
stmts_natural sc X v f (Stmt-F.Timed test body) =
    ap (λ l. IsSoundExpr sc test × (quiet_list l ≡ false) × Each (λ x. f (v x)) body) (sym (map-id (map v body)))
    ∙ ap (λ t. IsSoundExpr sc test × (quiet_list (map (λ y. y) (map v body)) ≡ false) × t) (each-map v f body)
stmts_natural sc X v f (Stmt-F.Send value stream after clock) = refl
stmts_natural sc X v f (Stmt-F.Advance point) = refl
stmts_natural sc X v f (Stmt-F.Return value) = refl

pub expr_sound : (sc : Scope) (x : Expr-F Expr) → sound_expr_step sc Expr (λ y. y) (IsSoundExpr sc) x → IsSoundExpr sc (roll-Expr x)
expr_sound sc x h = subst (λ (t : Type 0). t) (sym (rec-roll-Expr (Type 0) (sound_expr_step sc) (exprs_natural sc) x)) h

pub stmt_sound : (sc : Scope) (x : Stmt-F Stmt) → sound_stmt_step sc Stmt (λ y. y) (IsSoundStmt sc) x → IsSoundStmt sc (roll-Stmt x)
stmt_sound sc x h = subst (λ (t : Type 0). t) (sym (rec-roll-Stmt (Type 0) (sound_stmt_step sc) (stmts_natural sc) x)) h
