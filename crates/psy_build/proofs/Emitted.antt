-- Each instruction that the compiler makes of a statement is one that an image can have.
use Rattle.std.proofs.Common.{◌≡◌, ◌∙◌, ℕ, zero, suc, ◌+◌, ◌≤◌, Bool, true, ◌&&◌, List, [], ◌∷◌, ◌++◌, map, length, Some, None, refl, sym, ap, subst, arith}
use Rattle.std.specs.Prelude.{slice_get}
use Rattle.std.proofs.lemmas.Option.{slice_get_within}
use Rattle.psy_arith.specs.declared.operators.Op1.{Op1}
use Rattle.psy_arith.specs.declared.operators.Op1.TheVariants as one
use Rattle.psy_arith.specs.declared.operators.Op2.{Op2}
use Rattle.psy_arith.specs.declared.operators.Op2.TheVariants as op
use Rattle.psy_arith.specs.declared.width.Width.{Width}
use Rattle.psy_code.specs.declared.instr.Instr.{Instr}
use Rattle.psy_code.specs.declared.instr.Instr.TheVariants as instr
use Rattle.psy_gen.specs.Emission.{Layout, Operand, Part, Places, Placed, base_of, cells_in_slot, width_of_unary, expr_code, expr_code_step, lazy_code, binary_code, arguments_code}
use Rattle.psy_gen.specs.Emission.{stmt_code, stmt_code_step, stmts_code, block_size, block_loops, if_code, bounded_code, timed_code, places_of, places_step, places_in, stmts_places, placed_size}
use Rattle.psy_lists.proofs.lemmas.Tests.{each_of_both}
use Rattle.psy_meaning.proofs.lemmas.Eaches.{each-append}
use Rattle.psy_meaning.proofs.lemmas.SoundParts.{exprs_natural, stmts_natural}
use Rattle.psy_meaning.specs.Depths.{loops}
use Rattle.psy_meaning.specs.Sizes.{binary_size, expr_size, expr_size_step, stmt_size, stmt_size_step, stmts_size}
use Rattle.psy_meaning.specs.Sound.{Scope, Each, HasPast, HasStream, HasFunction, IsSoundExpr, IsSoundStmt, AreSound, sound_expr_step, sound_stmt_step}
use Rattle.psy_tree.specs.declared.unit.Expr.{Expr, roll-Expr, map-Expr, rec-roll-Expr, ind-Expr}
use Rattle.psy_tree.specs.declared.unit.Expr.TheOpen.{Expr-F}
use Rattle.psy_tree.specs.declared.unit.Stmt.{Stmt, roll-Stmt, map-Stmt, para-roll-Stmt, rec-roll-Stmt, ind-Stmt}
use Rattle.psy_tree.specs.declared.unit.Stmt.TheOpen.{Stmt-F}
use Rattle.psy_tree.specs.Paths.{total}
use Rattle.psy_build.proofs.Equations.{operand, part, placed, block_size_is, block_loops_is, placed_size_is, code_roll, size_roll, stmt_roll, stmt_size_roll}
use Rattle.psy_build.proofs.Fit.{Fit, Small, is_eager, is_width_of, is_short}
use Rattle.psy_build.proofs.Narrow.{all_of, narrow, narrow_step, narrow_roll, narrow_stmt, narrow_stmt_step, narrow_stmts, narrow_stmt_roll}
use Rattle.psy_build.proofs.Sizes.{loops-le_size}

-- ---- what can be named

-- What can be named has numbers of 32 bits.
pub record HasSmall (sc : Scope) : Type 0 where
  pub layout : Small (total sc.layout)
  pub copies : (place variable : ℕ) → slice_get sc.copies place ≡ Some variable → Small variable
  pub depths : Small (length sc.depths)
  pub deep : (variable depth : ℕ) → slice_get sc.depths variable ≡ Some depth → Small depth
  pub streams : Small (length sc.streams)
  pub clocks : Small sc.clocks
  pub functions : Small (length sc.functions)
  pub points : Small sc.points

base_few : (layout : Layout) (slot : ℕ) → base_of layout slot ≤ total layout
base_few [] zero = omega arith
base_few [] (suc slot) = omega arith
base_few (n ∷ layout) zero = omega arith
base_few (n ∷ layout) (suc slot) = omega (arith, base_few layout slot)

cells_few : (layout : Layout) (slot : ℕ) → cells_in_slot layout slot ≤ total layout
cells_few [] slot = omega arith
cells_few (n ∷ layout) zero = omega arith
cells_few (n ∷ layout) (suc slot) = omega (arith, cells_few layout slot)

unary_width : (o : Op1) (w : Width) → is_width_of o (width_of_unary o w) ≡ true
unary_width one.Not w = refl
unary_width one.Neg w = refl
unary_width one.Flip w = refl

module _ (sc : Scope) (small : HasSmall sc) (high : ℕ) (room : Small high) where
  abbrev layout : Layout
  layout = sc.layout

  base_small : (slot : ℕ) → Small (base_of layout slot)
  base_small slot = omega (arith, base_few layout slot, small.layout)

  cells_small : (slot : ℕ) → Small (cells_in_slot layout slot)
  cells_small slot = omega (arith, cells_few layout slot, small.layout)

  stream_small : (stream : ℕ) → HasStream sc stream → Small stream
  stream_small stream h = omega (arith, slice_get_within sc.streams stream true h, small.streams)

  function_small : (function arguments : ℕ) → HasFunction sc function arguments → Small function
  function_small function arguments (decl, at, count) = omega (arith, slice_get_within sc.functions function decl at, small.functions)

  past_small : (variable back : ℕ) → HasPast sc variable back → Small variable × Small back
  past_small variable back (depth, at, less) = (omega (arith, slice_get_within sc.depths variable depth at, small.depths), omega (arith, small.deep variable depth at, less))

  abbrev Good : List Instr → Type 0
  Good code = Each Fit code

  -- One piece of code before another
  before : (xs ys : List Instr) → Good xs → Good ys → Good (xs ++ ys)
  before = each-append Fit

  -- ---- expressions

  abbrev E : Expr → Type 0
  E e = (p : ℕ) → p + expr_size e ≤ high → IsSoundExpr sc e → narrow e ≡ true → Good (expr_code layout e p)

  abbrev Known : Type 0
  Known = (e : Expr) × E e

  abbrev tree : Known → Expr
  tree k = k.0

  through : (ks : List Known) (behind : List Instr) (p : ℕ) → p + total (map expr_size (map tree ks)) ≤ high → Each (IsSoundExpr sc) (map tree ks) → all_of (map narrow (map tree ks)) ≡ true → Good behind
      → Good (arguments_code (map (operand layout) (map tree ks)) behind p)
  through [] behind p below sound thin last = last
  through (k ∷ ks) behind p below sound thin last =
      let (first, others) = each_of_both (narrow k.0) (all_of (map narrow (map tree ks))) thin in
      before (expr_code layout k.0 p) (arguments_code (map (operand layout) (map tree ks)) behind (p + expr_size k.0)) (k.1 p (omega (arith, below)) sound.0 first)
      (through ks behind (p + expr_size k.0) (omega (arith, below)) sound.1 others last)

  eager : (o : Op2) (w : Width) (l r : Known) (p : ℕ) → is_eager o ≡ true → p + (expr_size l.0 + (expr_size r.0 + 1)) ≤ high → IsSoundExpr sc l.0 → IsSoundExpr sc r.0 → narrow l.0 ≡ true → narrow r.0 ≡ true
      → Good (expr_code layout l.0 p ++ (expr_code layout r.0 (p + expr_size l.0) ++ instr.Binary o w ∷ []))
  eager o w l r p is below first second thin fine =
      before (expr_code layout l.0 p) (expr_code layout r.0 (p + expr_size l.0) ++ instr.Binary o w ∷ []) (l.1 p (omega (arith, below)) first thin)
      (before (expr_code layout r.0 (p + expr_size l.0)) (instr.Binary o w ∷ []) (r.1 (p + expr_size l.0) (omega (arith, below)) second fine) (is, tt {0}))

  lazy : (test : ℕ → Instr) (l r : Known) (p : ℕ) → ((to : ℕ) → Small to → Fit (test to)) → p + (expr_size l.0 + (expr_size r.0 + 2)) ≤ high → IsSoundExpr sc l.0 → IsSoundExpr sc r.0 → narrow l.0 ≡ true → narrow r.0 ≡ true
      → Good (lazy_code test (operand layout l.0) (operand layout r.0) p)
  lazy test l r p fits below first second thin fine =
      let middle = p + expr_size l.0 + 1 in
      let to = middle + expr_size r.0 + 1 in
      before (expr_code layout l.0 p) (test to ∷ (expr_code layout r.0 middle ++ instr.Truth ∷ [])) (l.1 p (omega (arith, below)) first thin)
      (fits to (omega (arith, below, room)), before (expr_code layout r.0 middle) (instr.Truth ∷ []) (r.1 middle (omega (arith, below)) second fine) (tt {0}, tt {0}))

  binary : (o : Op2) (w : Width) (l r : Known) (p : ℕ) → p + (expr_size l.0 + (expr_size r.0 + binary_size o)) ≤ high → IsSoundExpr sc l.0 → IsSoundExpr sc r.0 → narrow l.0 ≡ true → narrow r.0 ≡ true
      → Good (binary_code o w (operand layout l.0) (operand layout r.0) p)
  binary op.AndAnd w l r p below first second thin fine = lazy instr.AndTest l r p (λ to s. s) below first second thin fine
  binary op.OrOr w l r p below first second thin fine = lazy instr.OrTest l r p (λ to s. s) below first second thin fine
  binary o w l r p below first second thin fine = eager o w l r p refl below first second thin fine

  step : (y : Expr-F Known) (p : ℕ) → let x = map-Expr Known Expr tree y in p + expr_size_step (map-Expr Expr ℕ expr_size x) ≤ high
      → sound_expr_step sc Expr (λ z. z) (IsSoundExpr sc) x → narrow_step (map-Expr Expr Bool narrow x) ≡ true
      → Good (expr_code_step layout (map-Expr Expr Operand (operand layout) x) p)
  step (Expr-F.Number n) p below sound thin = (sound, tt {0})
  step (Expr-F.Slot slot) p below sound thin = (base_small slot, tt {0})
  step (Expr-F.Copy variable) p below sound thin = (small.copies sound.0 variable sound.1, tt {0})
  step (Expr-F.Cell slot index) p below sound thin =
      before (expr_code layout index.0 p) (instr.LoadCell (base_of layout slot) (cells_in_slot layout slot) ∷ []) (index.1 p (omega (arith, below)) sound.1 thin) ((base_small slot, cells_small slot), tt {0})
  step (Expr-F.Past variable back) p below sound thin = (past_small variable back sound, tt {0})
  step (Expr-F.Ready stream) p below sound thin = (stream_small stream sound, tt {0})
  step (Expr-F.Take stream) p below sound thin = (stream_small stream sound, tt {0})
  step (Expr-F.Unary o w inner) p below sound thin =
      before (expr_code layout inner.0 p) (instr.Unary o (width_of_unary o w) ∷ []) (inner.1 p (omega (arith, below)) sound thin) (unary_width o w, tt {0})
  step (Expr-F.Binary o w l r) p below sound thin =
      let (first, second) = each_of_both (narrow l.0) (narrow r.0) thin in
      binary o w l r p below sound.0 sound.1 first second
  step (Expr-F.Call function arguments) p below sound thin =
      through arguments (instr.Call function ∷ []) p (omega (arith, below)) sound.1 thin (function_small function (length (map tree arguments)) sound.0, tt {0})
  step (Expr-F.Cast w inner) p below sound thin =
      let (short, fine) = each_of_both (is_short w) (narrow inner.0) thin in
      before (expr_code layout inner.0 p) (instr.Cast w ∷ []) (inner.1 p (omega (arith, below)) sound fine) (short, tt {0})

  layer : (y : Expr-F Known) → E (roll-Expr (map-Expr Known Expr tree y))
  layer y p below sound thin =
      let x : Expr-F Expr = map-Expr Known Expr tree y in
      subst Good (sym (code_roll layout x p))
      (step y p (omega (arith, below, size_roll x)) (subst (λ (t : Type 0). t) (rec-roll-Expr (Type 0) (sound_expr_step sc) (exprs_natural sc) x) sound) (sym (narrow_roll x) ∙ thin))

  expr_fit : (e : Expr) → E e
  expr_fit = ind-Expr E (λ x y is. subst (λ z. E (roll-Expr z)) is (layer y))

  -- ---- statements

  abbrev Q : Stmt → Type 0
  Q s = (c p : ℕ) → c ≤ p → p + stmt_size s ≤ high → IsSoundStmt sc s → narrow_stmt s ≡ true → Good (stmt_code layout s c p) × Each Small (places_of s p)

  abbrev Held : Type 0
  Held = (s : Stmt) × Q s

  abbrev stmt : Held → Stmt
  stmt k = k.0

  abbrev code_in : List Held → ℕ → ℕ → List Instr
  code_in ks c p = stmts_code layout (map stmt ks) c p

  abbrev those_in : List Held → ℕ → List ℕ
  those_in ks p = places_in (map placed (map stmt ks)) p

  block : (ks : List Held) (c p : ℕ) → c ≤ p → p + stmts_size (map stmt ks) ≤ high → Each (IsSoundStmt sc) (map stmt ks) → all_of (map narrow_stmt (map stmt ks)) ≡ true
      → Good (code_in ks c p) × Each Small (those_in ks p)
  block [] c p few below sound thin = (tt {0}, tt)
  block (k ∷ ks) c p few below sound thin =
      let n = stmt_size k.0 in
      let (fine, others) = each_of_both (narrow_stmt k.0) (all_of (map narrow_stmt (map stmt ks))) thin in
      let first = k.1 c p few (omega (arith, below)) sound.0 fine in
      let rest = block ks (c + loops k.0) (p + n) (omega (arith, few, loops-le_size (k.0 ∷ []))) (omega (arith, below)) sound.1 others in (
        before (stmt_code layout k.0 c p) (code_in ks (c + loops k.0) (p + n)) first.0 rest.0,
        each-append Small (places_of k.0 p) (those_in ks (p + n)) first.1 rest.1,
      )

  valued : (e : Expr) (i : Instr) (p : ℕ) → p + (expr_size e + 1) ≤ high → IsSoundExpr sc e → narrow e ≡ true → Fit i → Good (expr_code layout e p ++ i ∷ [])
  valued e i p below sound thin last = before (expr_code layout e p) (i ∷ []) (expr_fit e p (omega (arith, below)) sound thin) (last, tt {0})

  if_fit : (e : Expr) (ks : List Held) (c p : ℕ) → c ≤ p → p + (expr_size e + 1 + (stmts_size (map stmt ks) + 0)) ≤ high → IsSoundExpr sc e → Each (IsSoundStmt sc) (map stmt ks) → narrow e ≡ true → narrow_stmts (map stmt ks) ≡ true
      → Good (if_code layout e (map (part layout) (map stmt ks)) None c p) × Each Small (those_in ks (p + expr_size e + 1))
  if_fit e ks c p few below first sound thin fine =
      let start = p + expr_size e + 1 in
      let size = block_size_is layout (map stmt ks) in
      let body = block ks c start (omega (arith, few)) (omega (arith, below)) sound fine in (
        before (expr_code layout e p) (instr.JumpZero (start + block_size (map (part layout) (map stmt ks))) ∷ code_in ks c start) (expr_fit e p (omega (arith, below)) first thin)
            (omega (arith, below, size, room), body.0),
        body.1,
      )

  if_else_fit : (e : Expr) (ks os : List Held) (c p : ℕ) → c ≤ p → p + (expr_size e + 1 + (stmts_size (map stmt ks) + (stmts_size (map stmt os) + 1))) ≤ high → IsSoundExpr sc e → Each (IsSoundStmt sc) (map stmt ks)
      → Each (IsSoundStmt sc) (map stmt os) → narrow e ≡ true → narrow_stmts (map stmt ks) ≡ true → narrow_stmts (map stmt os) ≡ true
      → Good (if_code layout e (map (part layout) (map stmt ks)) (Some (map (part layout) (map stmt os))) c p)
      × Each Small (those_in ks (p + expr_size e + 1) ++ those_in os (p + expr_size e + 1 + placed_size (map placed (map stmt ks)) + 1))
  if_else_fit e ks os c p few below first sound also thin fine good =
      let ps = map (part layout) (map stmt ks) in
      let qs = map (part layout) (map stmt os) in
      let start = p + expr_size e + 1 in
      let second = start + block_size ps + 1 in
      let end = second + block_size qs in
      let size = block_size_is layout (map stmt ks) in
      let more = block_size_is layout (map stmt os) in
      let count = block_loops_is layout (map stmt ks) in
      let body = block ks c start (omega (arith, few)) (omega (arith, below)) sound fine in
      let others = block os (c + block_loops ps) second (omega (arith, few, size, count, loops-le_size (map stmt ks))) (omega (arith, below, size)) also good in
      let same : second ≡ start + placed_size (map placed (map stmt ks)) + 1 = omega (arith, size, placed_size_is (map stmt ks)) in (
        before (expr_code layout e p) (instr.JumpZero second ∷ (code_in ks c start ++ (instr.Jump end ∷ code_in os (c + block_loops ps) second))) (expr_fit e p (omega (arith, below)) first thin) (
          omega (arith, below, size, room),
          before (code_in ks c start) (instr.Jump end ∷ code_in os (c + block_loops ps) second) body.0 (omega (arith, below, size, more, room), others.0),
        ),
        each-append Small (those_in ks start) (those_in os (start + placed_size (map placed (map stmt ks)) + 1)) body.1 (subst (λ q. Each Small (those_in os q)) same others.1),
      )

  timed_fit : (e : Expr) (ks : List Held) (c p : ℕ) → c ≤ p → p + (expr_size e + 2 + stmts_size (map stmt ks)) ≤ high → IsSoundExpr sc e → Each (IsSoundStmt sc) (map stmt ks) → narrow e ≡ true → narrow_stmts (map stmt ks) ≡ true
      → Good (timed_code layout e (map (part layout) (map stmt ks)) c p) × Each Small (those_in ks (p + expr_size e + 1))
  timed_fit e ks c p few below first sound thin fine =
      let start = p + expr_size e + 1 in
      let end = start + block_size (map (part layout) (map stmt ks)) + 1 in
      let size = block_size_is layout (map stmt ks) in
      let body = block ks c start (omega (arith, few)) (omega (arith, below)) sound fine in (
        before (expr_code layout e p) (instr.JumpZero end ∷ (code_in ks c start ++ instr.Jump p ∷ [])) (expr_fit e p (omega (arith, below)) first thin)
            (omega (arith, below, size, room), before (code_in ks c start) (instr.Jump p ∷ []) body.0 (omega (arith, below, room), tt {0})),
        body.1,
      )

  bounded_fit : (e : Expr) (most : ℕ) (ks : List Held) (c p : ℕ) → most ≤ 65536 → c ≤ p → p + (expr_size e + 4 + stmts_size (map stmt ks)) ≤ high → IsSoundExpr sc e → Each (IsSoundStmt sc) (map stmt ks) → narrow e ≡ true → narrow_stmts (map stmt ks) ≡ true
      → Good (bounded_code layout e most (map (part layout) (map stmt ks)) c p) × Each Small (those_in ks (p + 1 + expr_size e + 2))
  bounded_fit e most ks c p turns few below first sound thin fine =
      let again = p + 1 in
      let start = again + expr_size e + 2 in
      let end = start + block_size (map (part layout) (map stmt ks)) + 1 in
      let size = block_size_is layout (map stmt ks) in
      let body = block ks (c + 1) start (omega (arith, few)) (omega (arith, below)) sound fine in
      let code = code_in ks (c + 1) start ++ instr.Jump again ∷ [] in
      let counter : Small c = omega (arith, few, below, room) in (
        (
          counter,
          before (expr_code layout e again) (instr.Guard c most ∷ (instr.JumpZero end ∷ code)) (expr_fit e again (omega (arith, below)) first thin)
              ((counter, omega (arith, turns)), (omega (arith, below, size, room), before (code_in ks (c + 1) start) (instr.Jump again ∷ []) body.0 (omega (arith, below, room), tt {0}))),
        ),
        body.1,
      )

  stmt_step : (y : Stmt-F Held) (c p : ℕ) → let x = map-Stmt Held Stmt stmt y in c ≤ p → p + stmt_size_step (map-Stmt Stmt ℕ stmt_size x) ≤ high
      → sound_stmt_step sc Stmt (λ z. z) (IsSoundStmt sc) x → narrow_stmt_step (map-Stmt Stmt Bool narrow_stmt x) ≡ true
      → Good (stmt_code_step layout (map-Stmt Stmt Part (part layout) x) c p) × Each Small (places_step (map-Stmt Stmt Placed placed x) p)
  stmt_step (Stmt-F.Set slot value) c p few below sound thin = (valued value (instr.Store (base_of layout slot)) p below sound.1 thin (base_small slot), tt)
  stmt_step (Stmt-F.SetCopy variable value) c p few below sound thin = (valued value (instr.StoreCopy variable) p below sound.1 thin (small.copies sound.0.0 variable sound.0.1), tt)
  stmt_step (Stmt-F.SetCell slot index value) c p few below sound thin =
      let (first, second) = each_of_both (narrow index) (narrow value) thin in
      let last = instr.StoreCell (base_of layout slot) (cells_in_slot layout slot) in (
        before (expr_code layout index p) (expr_code layout value (p + expr_size index) ++ last ∷ []) (expr_fit index p (omega (arith, below)) sound.1 first)
            (valued value last (p + expr_size index) (omega (arith, below)) sound.2 second (base_small slot, cells_small slot)),
        tt,
      )
  stmt_step (Stmt-F.If test branch None) c p few below sound thin =
      let (first, others) = each_of_both (narrow test) (narrow_stmts (map stmt branch) && true) thin in
      let (inner, none) = each_of_both (narrow_stmts (map stmt branch)) true others in
      if_fit test branch c p few below sound.0 sound.1 first inner
  stmt_step (Stmt-F.If test branch (Some other)) c p few below sound thin =
      let (first, others) = each_of_both (narrow test) (narrow_stmts (map stmt branch) && narrow_stmts (map stmt other)) thin in
      let (inner, second) = each_of_both (narrow_stmts (map stmt branch)) (narrow_stmts (map stmt other)) others in
      if_else_fit test branch other c p few below sound.0 sound.1 sound.2 first inner second
  stmt_step (Stmt-F.Bounded test most body) c p few below sound thin =
      let (first, inner) = each_of_both (narrow test) (narrow_stmts (map stmt body)) thin in
      bounded_fit test most body c p sound.1.1 few below sound.0 sound.2 first inner
  stmt_step (Stmt-F.Timed test body) c p few below sound thin =
      let (first, inner) = each_of_both (narrow test) (narrow_stmts (map stmt body)) thin in
      timed_fit test body c p few below sound.0 sound.2 first inner
  stmt_step (Stmt-F.Send value stream after clock) c p few below sound thin =
      let can = sound.0 in
      (valued value (instr.Send stream after clock) p below sound.1 thin (omega (arith, can.target, small.streams), omega (arith, can.delay), omega (arith, can.by, small.clocks)), tt)
  stmt_step (Stmt-F.Advance point) c p few below sound thin = ((omega (arith, sound, small.points), tt {0}), (omega (arith, below, room), tt {0}))
  stmt_step (Stmt-F.Return value) c p few below sound thin = (valued value instr.Return p below sound.1 thin (tt {0}), tt)

  stmt_layer : (y : Stmt-F Held) → Q (roll-Stmt (map-Stmt Held Stmt stmt y))
  stmt_layer y c p few below sound thin =
      let x : Stmt-F Stmt = map-Stmt Held Stmt stmt y in
      let both = stmt_step y c p few (omega (arith, below, stmt_size_roll x)) (subst (λ (t : Type 0). t) (rec-roll-Stmt (Type 0) (sound_stmt_step sc) (stmts_natural sc) x) sound) (sym (narrow_stmt_roll x) ∙ thin) in (
        subst Good (sym (stmt_roll layout x c p)) both.0,
        subst (Each Small) (sym (ap (λ (k : Places). k p) (para-roll-Stmt Places places_step x))) both.1,
      )

  stmt_fit : (s : Stmt) → Q s
  stmt_fit = ind-Stmt Q (λ x y is. subst (λ z. Q (roll-Stmt z)) is (stmt_layer y))

  pub stmts_fit : (stmts : List Stmt) (c p : ℕ) → c ≤ p → p + stmts_size stmts ≤ high → AreSound sc stmts → narrow_stmts stmts ≡ true → Each Fit (stmts_code layout stmts c p) × Each Small (stmts_places stmts p)
  stmts_fit [] c p few below sound thin = (tt {0}, tt)
  stmts_fit (s ∷ ss) c p few below sound thin =
      let n = stmt_size s in
      let (fine, others) = each_of_both (narrow_stmt s) (narrow_stmts ss) thin in
      let first = stmt_fit s c p few (omega (arith, below)) sound.0 fine in
      let rest = stmts_fit ss (c + loops s) (p + n) (omega (arith, few, loops-le_size (s ∷ []))) (omega (arith, below)) sound.1 others in (
        before (stmt_code layout s c p) (stmts_code layout ss (c + loops s) (p + n)) first.0 rest.0,
        each-append Small (places_of s p) (stmts_places ss (p + n)) first.1 rest.1,
      )
