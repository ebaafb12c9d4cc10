-- What texts look at: a sound unit's functions at nothing, and what is left of a body behind a point at no more than the body.
use Rattle.std.proofs.Common.{◌≡◌, ℕ, List, [], ◌∷◌, ◌++◌, map, Some, None, sym, subst}
use Rattle.std.specs.Prelude.{slice_get}
use Rattle.std.specs.List.{Contains}
use Rattle.psy_lists.proofs.lemmas.Members.{contains_front, contains_behind}
use Rattle.psy_tree.specs.declared.unit.Expr.{Expr, roll-Expr, rec-roll-Expr, fold-roll-Expr, map-Expr, ind-Expr}
use Rattle.psy_tree.specs.declared.unit.Expr.TheOpen.{Expr-F}
use Rattle.psy_tree.specs.declared.unit.Stmt.{Stmt, roll-Stmt, rec-roll-Stmt, fold-roll-Stmt, map-Stmt, ind-Stmt}
use Rattle.psy_tree.specs.declared.unit.Stmt.TheOpen.{Stmt-F}
use Rattle.psy_meaning.specs.Rest.{rest}
use Rattle.psy_meaning.specs.Sound.{Scope, HasPast, Each, sound_expr_step, IsSoundExpr, sound_stmt_step, IsSoundStmt, AreSound}
use Rattle.psy_meaning.proofs.lemmas.Eaches.{each-append, each-first, each-second}
use Rattle.psy_meaning.proofs.lemmas.RestPieces.{PartsHave, PiecesHave, rest_has}
use Rattle.psy_meaning.proofs.lemmas.SoundParts.{exprs_natural, stmts_natural}
use Rattle.psy_history.specs.Feeding.{all_pasts, expr_pasts_step, expr_pasts, stmt_pasts_step, stmt_pasts, pasts_in}

-- What each member has, each of the list has.
pub each_member : {X : Type 0} (P : X → Type 0) (xs : List X) → ((x : X) → Contains xs x → P x) → Each P xs
each_member P [] h = tt
each_member P (x ∷ xs) h = (h x (contains_front x xs), each_member P xs (λ y there. h y (contains_behind x xs y there)))

module _ (Sees : ℕ → Type 0) where
  -- An expression looks at none but these variables,
  abbrev pub ExprSees : Expr → Type 0
  ExprSees e = Each Sees (expr_pasts e)

  -- and so does a statement,
  abbrev pub StmtSees : Stmt → Type 0
  StmtSees stmt = Each Sees (stmt_pasts stmt)

  -- and so do several.
  abbrev pub StmtsSee : List Stmt → Type 0
  StmtsSee stmts = Each Sees (pasts_in stmts)

  -- ---- parts

  pub stmts_each : (stmts : List Stmt) → StmtsSee stmts → Each StmtSees stmts
  stmts_each [] h = tt
  stmts_each (x ∷ xs) h = (each-first Sees (stmt_pasts x) (pasts_in xs) h, stmts_each xs (each-second Sees (stmt_pasts x) (pasts_in xs) h))

  -- what a test looks at, and the statements under it
  under_test : (test : Expr) (stmts : List Stmt) → Each Sees (expr_pasts test ++ pasts_in stmts) → Each StmtSees stmts
  under_test test stmts h = stmts_each stmts (each-second Sees (expr_pasts test) (pasts_in stmts) h)

  parts_see : (x : Stmt-F Stmt) → Each Sees (stmt_pasts_step (map-Stmt Stmt (List ℕ) stmt_pasts x)) → PartsHave StmtSees x
  parts_see (Stmt-F.If test branch None) h = under_test test branch h
  parts_see (Stmt-F.If test branch (Some other)) h =
      let both = each-second Sees (expr_pasts test) (pasts_in branch ++ pasts_in other) h in
      (stmts_each branch (each-first Sees (pasts_in branch) (pasts_in other) both), stmts_each other (each-second Sees (pasts_in branch) (pasts_in other) both))
  parts_see (Stmt-F.Bounded test most body) h = under_test test body h
  parts_see (Stmt-F.Timed test body) h = under_test test body h
  parts_see _ h = tt

  -- The pieces of a rest look at none but what the body looks at.
  pub rest_sees : (body : List Stmt) (point : ℕ) → StmtsSee body → PiecesHave StmtSees (rest body point)
  rest_sees body point h = rest_has StmtSees (λ x its. parts_see x (subst (Each Sees) (fold-roll-Stmt (List ℕ) stmt_pasts_step x) its)) body point (stmts_each body h)

  -- ---- where no variable can be named

  module _ (scope : Scope) (blind : scope.depths ≡ []) where
    no_look : {A : Type 0} (variable back : ℕ) → HasPast scope variable back → A
    no_look variable back h =
        let none : None ≡ Some h.0 = subst (λ depths. slice_get depths variable ≡ Some h.0) blind h.1 in absurd cc

    abbrev P : Expr → Type 0
    P e = IsSoundExpr scope e → ExprSees e

    abbrev Seen : Type 0
    Seen = (e : Expr) × P e

    abbrev expr : Seen → Expr
    expr k = k.0

    none_among : (ks : List Seen) → Each (IsSoundExpr scope) (map expr ks) → Each Sees (all_pasts (map expr_pasts (map expr ks)))
    none_among [] h = tt
    none_among (k ∷ ks) h = each-append Sees (expr_pasts k.0) (all_pasts (map expr_pasts (map expr ks))) (k.1 h.0) (none_among ks h.1)

    expr_step : (y : Expr-F Seen) → let x = map-Expr Seen Expr expr y in sound_expr_step scope Expr (λ e. e) (IsSoundExpr scope) x → Each Sees (expr_pasts_step (map-Expr Expr (List ℕ) expr_pasts x))
    expr_step (Expr-F.Number number) h = tt
    expr_step (Expr-F.Slot slot) h = tt
    expr_step (Expr-F.Copy variable) h = tt
    expr_step (Expr-F.Cell slot index) h = index.1 h.1
    expr_step (Expr-F.Past variable back) h = no_look variable back h
    expr_step (Expr-F.Ready stream) h = tt
    expr_step (Expr-F.Take stream) h = tt
    expr_step (Expr-F.Unary operator width operand) h = operand.1 h
    expr_step (Expr-F.Cast width operand) h = operand.1 h
    expr_step (Expr-F.Binary operator width left right) h = each-append Sees (expr_pasts left.0) (expr_pasts right.0) (left.1 h.0) (right.1 h.1)
    expr_step (Expr-F.Call function arguments) h = none_among arguments h.1

    expr_layer : (y : Expr-F Seen) → P (roll-Expr (map-Expr Seen Expr expr y))
    expr_layer y h =
        let x : Expr-F Expr = map-Expr Seen Expr expr y in
        subst (Each Sees) (sym (fold-roll-Expr (List ℕ) expr_pasts_step x)) (expr_step y (subst (λ (t : Type 0). t) (rec-roll-Expr (Type 0) (sound_expr_step scope) (exprs_natural scope) x) h))

    -- An expression looks at nothing there,
    blind_expr : (e : Expr) → P e
    blind_expr = ind-Expr P (λ x y is. subst (λ z. P (roll-Expr z)) is (expr_layer y))

    abbrev Q : Stmt → Type 0
    Q stmt = IsSoundStmt scope stmt → StmtSees stmt

    abbrev Known : Type 0
    Known = (stmt : Stmt) × Q stmt

    abbrev tree : Known → Stmt
    tree k = k.0

    none_in : (ks : List Known) → Each (IsSoundStmt scope) (map tree ks) → StmtsSee (map tree ks)
    none_in [] h = tt
    none_in (k ∷ ks) h = each-append Sees (stmt_pasts k.0) (pasts_in (map tree ks)) (k.1 h.0) (none_in ks h.1)

    stmt_step : (y : Stmt-F Known) → let x = map-Stmt Known Stmt tree y in sound_stmt_step scope Stmt (λ y. y) (IsSoundStmt scope) x → Each Sees (stmt_pasts_step (map-Stmt Stmt (List ℕ) stmt_pasts x))
    stmt_step (Stmt-F.Set slot value) h = blind_expr value h.1
    stmt_step (Stmt-F.SetCopy variable value) h = blind_expr value h.1
    stmt_step (Stmt-F.SetCell slot index value) h = each-append Sees (expr_pasts index) (expr_pasts value) (blind_expr index h.1) (blind_expr value h.2)
    stmt_step (Stmt-F.If test branch None) h = each-append Sees (expr_pasts test) (pasts_in (map tree branch)) (blind_expr test h.0) (none_in branch h.1)
    stmt_step (Stmt-F.If test branch (Some other)) h =
        let this = pasts_in (map tree branch) in
        let that = pasts_in (map tree other) in
        each-append Sees (expr_pasts test) (this ++ that) (blind_expr test h.0) (each-append Sees this that (none_in branch h.1) (none_in other h.2))
    stmt_step (Stmt-F.Bounded test most body) h = each-append Sees (expr_pasts test) (pasts_in (map tree body)) (blind_expr test h.0) (none_in body h.2)
    stmt_step (Stmt-F.Timed test body) h = each-append Sees (expr_pasts test) (pasts_in (map tree body)) (blind_expr test h.0) (none_in body h.2)
    stmt_step (Stmt-F.Send value stream after clock) h = blind_expr value h.1
    stmt_step (Stmt-F.Advance point) h = tt
    stmt_step (Stmt-F.Return value) h = blind_expr value h.1

    stmt_layer : (y : Stmt-F Known) → Q (roll-Stmt (map-Stmt Known Stmt tree y))
    stmt_layer y h =
        let x : Stmt-F Stmt = map-Stmt Known Stmt tree y in
        subst (Each Sees) (sym (fold-roll-Stmt (List ℕ) stmt_pasts_step x)) (stmt_step y (subst (λ (t : Type 0). t) (rec-roll-Stmt (Type 0) (sound_stmt_step scope) (stmts_natural scope) x) h))

    -- nor does a statement,
    blind_stmt : (stmt : Stmt) → Q stmt
    blind_stmt = ind-Stmt Q (λ x y is. subst (λ z. Q (roll-Stmt z)) is (stmt_layer y))

    -- nor do several.
    pub blind_stmts : (stmts : List Stmt) → AreSound scope stmts → Each StmtSees stmts
    blind_stmts [] h = tt
    blind_stmts (x ∷ xs) h = (blind_stmt x h.0, blind_stmts xs h.1)
