-- No value is narrowed to 64 bits.
use Rattle.std.proofs.Common.{◌≡◌, ℕ, ◌+◌, Bool, true, false, cond, ◌&&◌, List, [], ◌∷◌, map, Option, Some, None, refl, sym, ap, subst, ◌∙◌}
use Rattle.psy_arith.specs.declared.width.Width.{Width}
use Rattle.psy_arith.specs.declared.width.Width.TheVariants as widths
use Rattle.psy_arith.specs.Widths.{is_narrower}
use Rattle.psy_lists.proofs.lemmas.Tests.{both}
use Rattle.psy_meaning.proofs.lemmas.Eaches.{each-append}
use Rattle.psy_meaning.specs.Sound.{Each}
use Rattle.psy_tree.specs.declared.raw.Item.{Item}
use Rattle.psy_tree.specs.declared.raw.Item.TheVariants as item
use Rattle.psy_tree.specs.declared.raw.Lit.{Lit}
use Rattle.psy_tree.specs.declared.raw.Raw.{Raw}
use Rattle.psy_tree.specs.declared.raw.RawExpr.{RawExpr, roll-RawExpr, map-RawExpr, ind-RawExpr, fold-roll-RawExpr}
use Rattle.psy_tree.specs.declared.raw.RawExpr.TheOpen.{RawExpr-F}
use Rattle.psy_tree.specs.declared.raw.RawStmt.{RawStmt, roll-RawStmt, map-RawStmt, ind-RawStmt, fold-roll-RawStmt}
use Rattle.psy_tree.specs.declared.raw.RawStmt.TheOpen.{RawStmt-F}
use Rattle.psy_tree.specs.declared.reach.Found.{Found}
use Rattle.psy_tree.specs.declared.reach.Found.TheVariants as found
use Rattle.psy_tree.specs.declared.unit.AgentDecl.{AgentDecl}
use Rattle.psy_tree.specs.declared.unit.Expr.{Expr, roll-Expr, map-Expr, fold-Expr, fold-roll-Expr}
use Rattle.psy_tree.specs.declared.unit.Expr.TheOpen.{Expr-F}
use Rattle.psy_tree.specs.declared.unit.FunctionDecl.{FunctionDecl}
use Rattle.psy_tree.specs.declared.unit.Point.{Point}
use Rattle.psy_tree.specs.declared.unit.Stmt.{Stmt, roll-Stmt, map-Stmt, fold-Stmt, fold-roll-Stmt}
use Rattle.psy_tree.specs.declared.unit.Stmt.TheOpen.{Stmt-F}
use Rattle.psy_tree.specs.declared.unit.Unit.{Unit as Whole}
use Rattle.psy_tree.specs.Scope.{Site, stands_for}
use Rattle.psy_build.proofs.Fit.{is_short}
use Rattle.psy_tree.specs.Stands.{Numbering, Typed, Stands, into, typed_of, expr_of, expr_into, expr_step, value_of, stmt_of, stmt_step, stmts_of, set_by, while_of, functions, agents, each_from, inside_of, width_at}

-- ---- what is asked

-- All of these
abbrev pub all_of : List Bool → Bool
all_of [] = true
all_of (b ∷ bs) = b && all_of bs

abbrev pub all_or : Option (List Bool) → Bool
all_or None = true
all_or (Some bs) = all_of bs

abbrev pub narrow_step : Expr-F Bool → Bool
narrow_step (Expr-F.Cell slot index) = index
narrow_step (Expr-F.Unary operator width operand) = operand
narrow_step (Expr-F.Binary operator width left right) = left && right
narrow_step (Expr-F.Call function arguments) = all_of arguments
narrow_step (Expr-F.Cast width operand) = is_short width && operand
narrow_step _ = true

-- Each narrowing in an expression is to less than 64 bits.
abbrev pub narrow : Expr → Bool
narrow = fold-Expr Bool narrow_step

abbrev pub narrow_stmt_step : Stmt-F Bool → Bool
narrow_stmt_step (Stmt-F.Set slot value) = narrow value
narrow_stmt_step (Stmt-F.SetCopy variable value) = narrow value
narrow_stmt_step (Stmt-F.SetCell slot index value) = narrow index && narrow value
narrow_stmt_step (Stmt-F.If test branch other) = narrow test && (all_of branch && all_or other)
narrow_stmt_step (Stmt-F.Bounded test most body) = narrow test && all_of body
narrow_stmt_step (Stmt-F.Timed test body) = narrow test && all_of body
narrow_stmt_step (Stmt-F.Send value stream after clock) = narrow value
narrow_stmt_step (Stmt-F.Advance point) = true
narrow_stmt_step (Stmt-F.Return value) = narrow value

-- Each narrowing in a statement is to less than 64 bits.
abbrev pub narrow_stmt : Stmt → Bool
narrow_stmt = fold-Stmt Bool narrow_stmt_step

abbrev pub narrow_stmts : List Stmt → Bool
narrow_stmts stmts = all_of (map narrow_stmt stmts)

pub narrow_roll : (x : Expr-F Expr) → narrow (roll-Expr x) ≡ narrow_step (map-Expr Expr Bool narrow x)
narrow_roll x = fold-roll-Expr Bool narrow_step x

pub narrow_stmt_roll : (x : Stmt-F Stmt) → narrow_stmt (roll-Stmt x) ≡ narrow_stmt_step (map-Stmt Stmt Bool narrow_stmt x)
narrow_stmt_roll x = fold-roll-Stmt Bool narrow_stmt_step x

-- ---- what a text stands for

-- Nothing is narrower than it where it has 64 bits.
short : (width other : Width) → is_narrower width other ≡ true → is_short width ≡ true
short widths.W8 other h = refl
short widths.W16 other h = refl
short widths.W32 other h = refl
short widths.W64 widths.W8 h = h
short widths.W64 widths.W16 h = h
short widths.W64 widths.W32 h = h
short widths.W64 widths.W64 h = h

module _ (site : Site) where
  narrow_into : (width : Width) (t : Typed) → narrow t.expr ≡ true → narrow (into width t) ≡ true
  narrow_into width t h = by (is_narrower width t.width) refl
    where
      by : (b : Bool) → is_narrower width t.width ≡ b → narrow (cond b (roll-Expr (Expr-F.Cast width t.expr)) t.expr) ≡ true
      by true e = narrow_roll (Expr-F.Cast width t.expr) ∙ both (is_short width) (narrow t.expr) (short width t.width e) h
      by false e = h

  -- ---- expressions

  abbrev P : RawExpr → Type 0
  P e = narrow (expr_of site e) ≡ true

  abbrev Known : Type 0
  Known = (e : RawExpr) × P e

  abbrev tree : Known → RawExpr
  tree x = x.0

  narrow_value : (f : Option Found) → narrow (value_of site f) ≡ true
  narrow_value None = narrow_roll _
  narrow_value (Some (found.Slot k)) = narrow_roll _
  narrow_value (Some (found.Item k)) = narrow_roll _

  arguments : (ks : List Known) → all_of (map narrow (map (into widths.W32) (map (typed_of site) (map tree ks)))) ≡ true
  arguments [] = refl
  arguments (x ∷ xs) = both (narrow (into widths.W32 (typed_of site x.0))) (all_of (map narrow (map (into widths.W32) (map (typed_of site) (map tree xs)))))
      (narrow_into widths.W32 (typed_of site x.0) x.1) (arguments xs)

  step : (y : RawExpr-F Known) → narrow (expr_step site (map-RawExpr RawExpr Typed (typed_of site) (map-RawExpr Known RawExpr tree y))).expr ≡ true
  step (RawExpr-F.Number number) = narrow_roll _
  step (RawExpr-F.Var name) = narrow_value (stands_for site name.text)
  step (RawExpr-F.Cell name index) = narrow_roll _ ∙ index.1
  step (RawExpr-F.Past token name back) = narrow_roll _
  step (RawExpr-F.Ready token name) = narrow_roll _
  step (RawExpr-F.Take token name) = narrow_roll _
  step (RawExpr-F.Unary op operand) = narrow_roll _ ∙ operand.1
  step (RawExpr-F.Binary op left right) = narrow_roll _ ∙ both (narrow (expr_of site left.0)) (narrow (expr_of site right.0)) left.1 right.1
  step (RawExpr-F.Call name its) = narrow_roll _ ∙ arguments its
  step (RawExpr-F.Cast width operand) = narrow_into width (typed_of site operand.0) operand.1

  layer : (y : RawExpr-F Known) → P (roll-RawExpr (map-RawExpr Known RawExpr tree y))
  layer y =
      let x : RawExpr-F RawExpr = map-RawExpr Known RawExpr tree y in
      ap (λ (t : Typed). narrow t.expr) (fold-roll-RawExpr Typed (expr_step site) x) ∙ step y

  exprs : (e : RawExpr) → P e
  exprs = ind-RawExpr P (λ x y is. subst (λ z. P (roll-RawExpr z)) is (layer y))

  intos : (width : Width) (e : RawExpr) → narrow (expr_into site width e) ≡ true
  intos width e = narrow_into width (typed_of site e) (exprs e)

  -- ---- statements

  abbrev Q : RawStmt → Type 0
  Q s = (points : List Point) → narrow_stmt (stmt_of site s points).0 ≡ true

  abbrev Held : Type 0
  Held = (s : RawStmt) × Q s

  abbrev held : Held → RawStmt
  held x = x.0

  in_block : (ks : List Held) (points : List Point) → narrow_stmts (stmts_of site (map held ks) points).0 ≡ true
  in_block [] points = refl
  in_block (x ∷ xs) points = both (narrow_stmt (stmt_of site x.0 points).0) (narrow_stmts (stmts_of site (map held xs) (stmt_of site x.0 points).1).0)
      (x.1 points) (in_block xs (stmt_of site x.0 points).1)

  in_set : (f : Option Found) (value : Expr) → narrow value ≡ true → narrow_stmt (set_by site f value) ≡ true
  in_set (Some (found.Item k)) value h = narrow_stmt_roll _ ∙ h
  in_set (Some (found.Slot k)) value h = narrow_stmt_roll _ ∙ h
  in_set None value h = narrow_stmt_roll _ ∙ h

  in_while : (most : Option Lit) (test : Expr) (body : List Stmt) → narrow test ≡ true → narrow_stmts body ≡ true → narrow_stmt (while_of most test body) ≡ true
  in_while None test body h g = narrow_stmt_roll _ ∙ both (narrow test) (narrow_stmts body) h g
  in_while (Some most) test body h g = narrow_stmt_roll _ ∙ both (narrow test) (narrow_stmts body) h g

  stmt : (y : RawStmt-F Held) (points : List Point) → narrow_stmt (stmt_step site (map-RawStmt RawStmt (Numbering Stmt) (stmt_of site) (map-RawStmt Held RawStmt held y)) points).0 ≡ true
  stmt (RawStmt-F.Set name value) points = in_set (stands_for site name.text) (expr_into site (width_at site (stands_for site name.text)) value) (intos (width_at site (stands_for site name.text)) value)
  stmt (RawStmt-F.SetCell name index value) points =
      let stored = expr_into site (width_at site (stands_for site name.text)) value in
      narrow_stmt_roll _ ∙ both (narrow (expr_of site index)) (narrow stored) (exprs index) (intos (width_at site (stands_for site name.text)) value)
  stmt (RawStmt-F.If test branch None) points =
      let block = narrow_stmts (stmts_of site (map held branch) points).0 in
      narrow_stmt_roll _ ∙ both (narrow (expr_of site test)) (block && true) (exprs test) (both block true (in_block branch points) refl)
  stmt (RawStmt-F.If test branch (Some other)) points =
      let block = narrow_stmts (stmts_of site (map held branch) points).0 in
      let next = (stmts_of site (map held branch) points).1 in
      let second = narrow_stmts (stmts_of site (map held other) next).0 in
      narrow_stmt_roll _ ∙ both (narrow (expr_of site test)) (block && second) (exprs test) (both block second (in_block branch points) (in_block other next))
  stmt (RawStmt-F.While token test most body) points = in_while most (expr_of site test) (stmts_of site (map held body) points).0 (exprs test) (in_block body points)
  stmt (RawStmt-F.Send token value stream after clock) points = narrow_stmt_roll _ ∙ intos widths.W32 value
  stmt (RawStmt-F.Advance token count clock budget) points = narrow_stmt_roll _
  stmt (RawStmt-F.Return token value) points = narrow_stmt_roll _ ∙ intos widths.W32 value

  stmt_layer : (y : RawStmt-F Held) → Q (roll-RawStmt (map-RawStmt Held RawStmt held y))
  stmt_layer y points =
      let x : RawStmt-F RawStmt = map-RawStmt Held RawStmt held y in
      ap (λ (n : Numbering Stmt). narrow_stmt (n points).0) (fold-roll-RawStmt (Numbering Stmt) (stmt_step site) x) ∙ stmt y points

  each_stmt : (s : RawStmt) → Q s
  each_stmt = ind-RawStmt Q (λ x y is. subst (λ z. Q (roll-RawStmt z)) is (stmt_layer y))

  block : (stmts : List RawStmt) (points : List Point) → narrow_stmts (stmts_of site stmts points).0 ≡ true
  block [] points = refl
  block (x ∷ xs) points = both (narrow_stmt (stmt_of site x points).0) (narrow_stmts (stmts_of site xs (stmt_of site x points).1).0)
      (each_stmt x points) (block xs (stmt_of site x points).1)

-- ---- units

-- No function and no agent narrows to 64 bits.
pub record AreNarrow (unit : Whole) : Type 0 where
  pub functions : Each (λ (f : FunctionDecl). narrow_stmts f.stmts ≡ true) unit.functions
  pub agents : Each (λ (a : AgentDecl). narrow_stmts a.stmts ≡ true) unit.agents

narrow_function : (items : List Item) (k : ℕ) (i : Item) → Each (λ (f : FunctionDecl). narrow_stmts f.stmts ≡ true) (functions items k i)
narrow_function items k (item.Function name params locals stmts) = (block (inside_of items k) stmts [], tt)
narrow_function items k _ = tt

narrow_agent : (items : List Item) (k : ℕ) (i : Item) → Each (λ (a : AgentDecl). narrow_stmts a.stmts ≡ true) (agents items k i)
narrow_agent items k (item.Agent name clock processor budget locals body stmts) = (block (inside_of items k) stmts _, tt)
narrow_agent items k _ = tt

pub from_each : {A : Type 0} (P : A → Type 0) (f : ℕ → Item → List A) (k : ℕ) (is : List Item) → ((k : ℕ) (i : Item) → Each P (f k i)) → Each P (each_from f k is)
from_each P f k [] each = tt
from_each P f k (i ∷ is) each = each-append P (f k i) (each_from f (k + 1) is) (each k i) (from_each P f (k + 1) is each)

pub are_narrow : (raw : Raw) (unit : Whole) → Stands unit raw → AreNarrow unit
are_narrow raw unit stands = subst AreNarrow (sym stands.numbered) (record {
  functions = from_each (λ (f : FunctionDecl). narrow_stmts f.stmts ≡ true) (functions raw.items) 0 raw.items (narrow_function raw.items);
  agents = from_each (λ (a : AgentDecl). narrow_stmts a.stmts ≡ true) (agents raw.items) 0 raw.items (narrow_agent raw.items);
})
