-- Each expression and each statement has a way from whatever was met.
use Rattle.std.proofs.Common.{sym, subst, ◌∙◌, inl}
use Rattle.std.specs.Prelude.{ℕ, zero, suc, List, [], ◌∷◌, Some, None}
use Rattle.psy_arith.specs.declared.operators.Op2.{Op2}
use Rattle.psy_arith.specs.declared.operators.Op2.TheVariants as op
use Rattle.psy_tree.specs.declared.unit.Expr.{Expr, roll-Expr, rec-roll-Expr, map-Expr, ind-Expr}
use Rattle.psy_tree.specs.declared.unit.Expr.TheOpen.{Expr-F}
use Rattle.psy_tree.specs.declared.unit.Stmt.{Stmt, roll-Stmt, rec-roll-Stmt, map-Stmt, ind-Stmt}
use Rattle.psy_tree.specs.declared.unit.Stmt.TheOpen.{Stmt-F}
use Rattle.psy_meaning.specs.Statements.{Piece, Do, Hop}
use Rattle.psy_meaning.specs.Ways.{Sending, Way, Course, here, one, sending, both, either, falling, behind, and_on, or_else, ways_through, binary_way, courses_through, turning, expr_way_step, expr_way, course_step, course_by, piece_course}
use Rattle.psy_meaning.proofs.Fronts.{Open, Leads, open_here, open_one, open_looking, open_sending, open_both, leads_falling, leads_returning, leads_reaching, leads_behind, leads_left, leads_on}
use Rattle.psy_meaning.proofs.lemmas.Layers.{natural_expr, natural_stmt}

open_here_or : (that : Way) → Open (either here that)
open_here_or that m = let w = open_here m in (w.0, inl w.1, w.2)

-- The right side of `&&` or `||`, evaluated or not
abbrev pub lazy : Way → Way
lazy right = both one (either here (both right one))

pub open_lazy : (right : Way) → Open (lazy right)
open_lazy right = open_both one (either here (both right one)) open_one (open_here_or (both right one))

open_binary : (operator : Op2) (left right : Way) → Open left → Open right → Open (binary_way operator left right)
open_binary op.AndAnd left right p q = open_both left (lazy right) p (open_lazy right)
open_binary op.OrOr left right p q = open_both left (lazy right) p (open_lazy right)
open_binary operator left right p q = open_both left (both right one) p (open_both right one q open_one)

abbrev pub two : Way
two = both one one

pub open_two : Open two
open_two = open_both one one open_one open_one

-- Out of a bounded loop at once
leads_out : (test : Way) → Open test → Leads (falling (both test two))
leads_out test p = leads_falling (both test two) (open_both test two p open_two)

pub leads_turning : (most : ℕ) (test : Way) (body : Course) → Open test → Leads (turning most test body)
leads_turning zero test body p = leads_out test p
leads_turning (suc more) test body p = leads_left (falling (both test two)) (behind (both test two) (and_on body (behind one (turning more test body)))) (leads_out test p)

pub open_through : {X : Type 0} (way : X → Way) (xs : List X) → ((x : X) → Open (way x)) → Open (ways_through way xs)
open_through way [] p = open_here
open_through way (x ∷ xs) p = open_both (way x) (ways_through way xs) (p x) (open_through way xs p)

pub leads_through : {X : Type 0} (course : X → Course) (xs : List X) → ((x : X) → Leads (course x)) → Leads (courses_through course xs)
leads_through course [] p = leads_falling here open_here
leads_through course (x ∷ xs) p = leads_on (course x) (courses_through course xs) (p x) (leads_through course xs p)

module _ (ways : ℕ → Way) (all : (number : ℕ) → Open (ways number)) where
  abbrev P : Expr → Type 0
  P e = Open (expr_way ways e)

  abbrev Known : Type 0
  Known = (e : Expr) × P e

  abbrev tree : Known → Expr
  tree k = k.0

  abbrev way : Known → Way
  way k = expr_way ways k.0

  open_layer : (y : Expr-F Known) → Open (expr_way_step ways Known tree way y)
  open_layer (Expr-F.Number number) = open_one
  open_layer (Expr-F.Slot slot) = open_one
  open_layer (Expr-F.Copy variable) = open_one
  open_layer (Expr-F.Cell slot index) = open_both (way index) one index.1 open_one
  open_layer (Expr-F.Past variable back) = open_looking variable back
  open_layer (Expr-F.Ready stream) = open_one
  open_layer (Expr-F.Take stream) = open_one
  open_layer (Expr-F.Unary operator width operand) = open_both (way operand) one operand.1 open_one
  open_layer (Expr-F.Cast width operand) = open_both (way operand) one operand.1 open_one
  open_layer (Expr-F.Binary operator width left right) = open_binary operator (way left) (way right) left.1 right.1
  open_layer (Expr-F.Call function arguments) =
      open_both (ways_through way arguments) (both one (ways function)) (open_through way arguments (λ k. k.1)) (open_both one (ways function) open_one (all function))

  layer : (y : Expr-F Known) → P (roll-Expr (map-Expr Known Expr tree y))
  layer y = subst Open (natural_expr ways Known tree (expr_way ways) y ∙ sym (rec-roll-Expr Way (expr_way_step ways) (natural_expr ways) (map-Expr Known Expr tree y))) (open_layer y)

  pub open_expr : (e : Expr) → P e
  open_expr = ind-Expr P (λ x y is. subst (λ z. P (roll-Expr z)) is (layer y))

  -- ---- statements

  abbrev Q : Stmt → Type 0
  Q stmt = Leads (course_by ways stmt)

  abbrev Led : Type 0
  Led = (stmt : Stmt) × Q stmt

  abbrev led_tree : Led → Stmt
  led_tree k = k.0

  abbrev course : Led → Course
  course k = course_by ways k.0

  open_then : (e : Expr) (next : Way) → Open next → Open (both (expr_way ways e) next)
  open_then e next p = open_both (expr_way ways e) next (open_expr e) p

  leads_list : (ks : List Led) → Leads (courses_through course ks)
  leads_list ks = leads_through course ks (λ k. k.1)

  leads_layer : (y : Stmt-F Led) → Leads (course_step ways Led led_tree course y)
  leads_layer (Stmt-F.Set slot value) = leads_falling (both (expr_way ways value) one) (open_then value one open_one)
  leads_layer (Stmt-F.SetCopy variable value) = leads_falling (both (expr_way ways value) one) (open_then value one open_one)
  leads_layer (Stmt-F.SetCell slot index value) =
      leads_falling (both (expr_way ways index) (both (expr_way ways value) one)) (open_then index (both (expr_way ways value) one) (open_then value one open_one))
  leads_layer (Stmt-F.If test branch None) =
      let this : Course = courses_through course branch in
      leads_behind (both (expr_way ways test) one) (or_else this (falling here)) (open_then test one open_one) (leads_left this (falling here) (leads_list branch))
  leads_layer (Stmt-F.If test branch (Some other)) =
      let this : Course = courses_through course branch in
      let that : Course = courses_through course other in
      leads_behind (both (expr_way ways test) one) (or_else (and_on this (falling one)) that) (open_then test one open_one)
      (leads_left (and_on this (falling one)) that (leads_on this (falling one) (leads_list branch) (leads_falling one open_one)))
  leads_layer (Stmt-F.Bounded test most body) =
      let inner : Course = courses_through course body in
      leads_behind one (turning most (expr_way ways test) inner) open_one (leads_turning most (expr_way ways test) inner (open_expr test))
  leads_layer (Stmt-F.Timed test body) =
      let inner : Course = courses_through course body in
      leads_behind (both (expr_way ways test) one) (or_else inner (falling here)) (open_then test one open_one) (leads_left inner (falling here) (leads_list body))
  leads_layer (Stmt-F.Send value stream after clock) =
      let send : Sending = record { stream = stream; after = after; clock = clock } in
      leads_falling (both (expr_way ways value) (sending send)) (open_then value (sending send) (open_sending send))
  leads_layer (Stmt-F.Advance point) = leads_reaching point one open_one
  leads_layer (Stmt-F.Return value) = leads_returning (both (expr_way ways value) one) (open_then value one open_one)

  led_layer : (y : Stmt-F Led) → Q (roll-Stmt (map-Stmt Led Stmt led_tree y))
  led_layer y = subst Leads (natural_stmt ways Led led_tree (course_by ways) y ∙ sym (rec-roll-Stmt Course (course_step ways) (natural_stmt ways) (map-Stmt Led Stmt led_tree y))) (leads_layer y)

  leads_stmt : (stmt : Stmt) → Q stmt
  leads_stmt = ind-Stmt Q (λ x y is. subst (λ z. Q (roll-Stmt z)) is (led_layer y))

  pub leads_stmts : (stmts : List Stmt) → Leads (courses_through (course_by ways) stmts)
  leads_stmts stmts = leads_through (course_by ways) stmts leads_stmt

  leads_piece : (piece : Piece) → Leads (piece_course ways piece)
  leads_piece (Do stmt) = leads_stmt stmt
  leads_piece Hop = leads_falling one open_one

  pub leads_pieces : (pieces : List Piece) → Leads (courses_through (piece_course ways) pieces)
  leads_pieces pieces = leads_through (piece_course ways) pieces leads_piece
