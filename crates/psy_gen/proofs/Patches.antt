-- A jump is kept a place, and set once its target is known.
use Rattle.std.proofs.Common.{◌≡◌, ℕ, ◌+◌, List, [], ◌∷◌, ◌++◌, length, refl, sym, ap, ◌∙◌, inl, inr, arith, append_assoc, length-append, length-set}
use Rattle.std.specs.Prelude.{◌⊎◌, slice_set, Some, None}
use Rattle.std.proofs.Math.Seq.{set-append_seam}
use Rattle.psy_arith.specs.declared.operators.Op2.{Op2}
use Rattle.psy_arith.specs.declared.operators.Op2.TheVariants as op
use Rattle.psy_arith.specs.declared.width.Width.{Width}
use Rattle.psy_code.specs.declared.instr.Instr.{Instr}
use Rattle.psy_code.specs.declared.instr.Instr.TheVariants as instr
use Rattle.psy_tree.specs.declared.unit.Expr.{Expr}
use Rattle.psy_tree.specs.declared.unit.Stmt.{Stmt}
use Rattle.psy_tree.specs.declared.unit.Stmt.TheVariants as stmt
use Rattle.psy_meaning.specs.Sizes.{expr_size, stmt_size, stmts_size}
use Rattle.psy_meaning.specs.Depths.{loops, loops_in}
use Rattle.psy_gen.specs.Emission.{Layout, expr_code, exprs_code, lazy_code, binary_code, stmt_code, stmts_code, places_of, stmts_places}
use Rattle.psy_gen.proofs.Equations.{operand, code_if, code_if_else, code_bounded, code_timed}
use Rattle.psy_gen.proofs.Lengths.{expr_length, stmt_length, stmts_length}

-- What was pushed behind a kept place
seam : (c1 c2 c3 b : List Instr) (x y : Instr) (at : ℕ) → at ≡ length c1 → c2 ≡ c1 ++ x ∷ [] → c3 ≡ c2 ++ b → slice_set c3 at y ≡ c1 ++ y ∷ b
seam c1 c2 c3 b x y at m e2 e3 =
    let flat : c3 ≡ c1 ++ x ∷ b = e3 ∙ ap (λ l. l ++ b) e2 ∙ append_assoc c1 (x ∷ []) b in
    ap (λ l. slice_set l at y) flat ∙ ap (λ n. slice_set (c1 ++ x ∷ b) n y) m ∙ set-append_seam c1 x b y

-- How long the code is behind an expression, and behind statements
pub behind_expr : (layout : Layout) (e : Expr) (c0 c1 : List Instr) → c1 ≡ c0 ++ expr_code layout e (length c0) → length c1 ≡ length c0 + expr_size e
behind_expr layout e c0 c1 is = ap length is ∙ length-append c0 (expr_code layout e (length c0)) ∙ ap (λ n. length c0 + n) (expr_length layout e (length c0))

pub behind_stmts : (layout : Layout) (ss : List Stmt) (counter : ℕ) (c0 c1 : List Instr) → c1 ≡ c0 ++ stmts_code layout ss counter (length c0) → length c1 ≡ length c0 + stmts_size ss
behind_stmts layout ss counter c0 c1 is = ap length is ∙ length-append c0 (stmts_code layout ss counter (length c0)) ∙ ap (λ n. length c0 + n) (stmts_length layout ss counter (length c0))

pub behind_stmt : (layout : Layout) (s : Stmt) (counter : ℕ) (c0 c1 : List Instr) → c1 ≡ c0 ++ stmt_code layout s counter (length c0) → length c1 ≡ length c0 + stmt_size s
behind_stmt layout s counter c0 c1 is = ap length is ∙ length-append c0 (stmt_code layout s counter (length c0)) ∙ ap (λ n. length c0 + n) (stmt_length layout s counter (length c0))

pub behind_one : (c0 c1 : List Instr) (x : Instr) → c1 ≡ c0 ++ x ∷ [] → length c1 ≡ length c0 + 1
behind_one c0 c1 x is = ap length is ∙ length-append c0 (x ∷ [])

pub then_one : (c0 c1 c2 t : List Instr) (x : Instr) → c1 ≡ c0 ++ t → c2 ≡ c1 ++ x ∷ [] → c2 ≡ c0 ++ (t ++ x ∷ [])
then_one c0 c1 c2 t x e1 e2 = e2 ∙ ap (λ c. c ++ x ∷ []) e1 ∙ append_assoc c0 t (x ∷ [])

pub exprs_more : (layout : Layout) (e : Expr) (rest : List Expr) (c0 c1 : List Instr) → c1 ≡ c0 ++ expr_code layout e (length c0) → c1 ++ exprs_code layout rest (length c1) ≡ c0 ++ exprs_code layout (e ∷ rest) (length c0)
exprs_more layout e rest c0 c1 is =
    ap (λ c. c ++ exprs_code layout rest (length c1)) is ∙ append_assoc c0 (expr_code layout e (length c0)) (exprs_code layout rest (length c1))
    ∙ ap (λ n. c0 ++ (expr_code layout e (length c0) ++ exprs_code layout rest n)) (behind_expr layout e c0 c1 is)

pub stmts_more : (layout : Layout) (s : Stmt) (rest : List Stmt) (counter next : ℕ) (c0 c1 : List Instr) → c1 ≡ c0 ++ stmt_code layout s counter (length c0) → next ≡ counter + loops s →
    c1 ++ stmts_code layout rest next (length c1) ≡ c0 ++ stmts_code layout (s ∷ rest) counter (length c0)
stmts_more layout s rest counter next c0 c1 is k =
    ap (λ c. c ++ stmts_code layout rest next (length c1)) is ∙ append_assoc c0 (stmt_code layout s counter (length c0)) (stmts_code layout rest next (length c1))
    ∙ ap (λ n. c0 ++ (stmt_code layout s counter (length c0) ++ stmts_code layout rest next n)) (behind_stmt layout s counter c0 c1 is)
    ∙ ap (λ n. c0 ++ (stmt_code layout s counter (length c0) ++ stmts_code layout rest n (length c0 + stmt_size s))) k

pub places_more : (layout : Layout) (s : Stmt) (rest : List Stmt) (counter : ℕ) (c0 c1 : List Instr) (q0 q1 : List ℕ) → c1 ≡ c0 ++ stmt_code layout s counter (length c0) → q1 ≡ q0 ++ places_of s (length c0) →
    q1 ++ stmts_places rest (length c1) ≡ q0 ++ stmts_places (s ∷ rest) (length c0)
places_more layout s rest counter c0 c1 q0 q1 is e =
    ap (λ q. q ++ stmts_places rest (length c1)) e ∙ append_assoc q0 (places_of s (length c0)) (stmts_places rest (length c1))
    ∙ ap (λ n. q0 ++ (places_of s (length c0) ++ stmts_places rest n)) (behind_stmt layout s counter c0 c1 is)

pub loops_more : (s : Stmt) (rest : List Stmt) (n m : ℕ) → m ≡ n + loops s → m + loops_in rest ≡ n + loops_in (s ∷ rest)
loops_more s rest n m e = omega (arith, e)

module _ (layout : Layout) where
  pub patch_lazy : (test : ℕ → Instr) (l r : Expr) (c0 c1 c2 c3 c4 : List Instr) (at : ℕ) →
      c1 ≡ c0 ++ expr_code layout l (length c0) → at ≡ length c1 → c2 ≡ c1 ++ instr.Jump 0 ∷ [] → c3 ≡ c2 ++ expr_code layout r (length c2) → c4 ≡ c3 ++ instr.Truth ∷ [] →
      slice_set c4 at (test (length c4)) ≡ c0 ++ lazy_code test (operand layout l) (operand layout r) (length c0)
  patch_lazy test l r c0 c1 c2 c3 c4 at e1 m e2 e3 e4 =
      let p = length c0 in
      let l1 = behind_expr layout l c0 c1 e1 in
      let l2 = behind_one c1 c2 (instr.Jump 0) e2 in
      let l3 = behind_expr layout r c2 c3 e3 in
      let l4 = behind_one c3 c4 instr.Truth e4 in
      let to_middle : length c2 ≡ p + expr_size l + 1 = omega arith in
      let to_end : length c4 ≡ p + expr_size l + 1 + expr_size r + 1 = omega arith in
      let right = expr_code layout r (length c2) ++ instr.Truth ∷ [] in
      let e5 : c4 ≡ c2 ++ right = e4 ∙ ap (λ c. c ++ instr.Truth ∷ []) e3 ∙ append_assoc c2 (expr_code layout r (length c2)) (instr.Truth ∷ []) in
      seam c1 c2 c4 right (instr.Jump 0) (test (length c4)) at m e2 e5
      ∙ ap (λ c. c ++ test (length c4) ∷ right) e1
      ∙ append_assoc c0 (expr_code layout l p) (test (length c4) ∷ right)
      ∙ ap (λ n. c0 ++ (expr_code layout l p ++ test n ∷ right)) to_end
      ∙ ap (λ n. c0 ++ (expr_code layout l p ++ test (p + expr_size l + 1 + expr_size r + 1) ∷ (expr_code layout r n ++ instr.Truth ∷ []))) to_middle

  pub patch_either : (o : Op2) (w : Width) (x : Instr) (l r : Expr) (c0 c1 c2 c3 c4 : List Instr) (at : ℕ) → (o ≡ op.AndAnd) ⊎ (o ≡ op.OrOr) → (o ≡ op.AndAnd → x ≡ instr.AndTest (length c4)) → (o ≡ op.OrOr → x ≡ instr.OrTest (length c4)) →
      c1 ≡ c0 ++ expr_code layout l (length c0) → at ≡ length c1 → c2 ≡ c1 ++ instr.Jump 0 ∷ [] → c3 ≡ c2 ++ expr_code layout r (length c2) → c4 ≡ c3 ++ instr.Truth ∷ [] →
      slice_set c4 at x ≡ c0 ++ binary_code o w (operand layout l) (operand layout r) (length c0)
  patch_either o w x l r c0 c1 c2 c3 c4 at (inl is) and or e1 m e2 e3 e4 = rw (and is, is) (patch_lazy instr.AndTest l r c0 c1 c2 c3 c4 at e1 m e2 e3 e4)
  patch_either o w x l r c0 c1 c2 c3 c4 at (inr is) and or e1 m e2 e3 e4 = rw (or is, is) (patch_lazy instr.OrTest l r c0 c1 c2 c3 c4 at e1 m e2 e3 e4)

  pub then_operator : (l r : Expr) (x : Instr) (c0 c1 c2 c3 : List Instr) →
      c1 ≡ c0 ++ expr_code layout l (length c0) → c2 ≡ c1 ++ expr_code layout r (length c1) → c3 ≡ c2 ++ x ∷ [] →
      c3 ≡ c0 ++ (expr_code layout l (length c0) ++ (expr_code layout r (length c0 + expr_size l) ++ x ∷ []))
  then_operator l r x c0 c1 c2 c3 e1 e2 e3 =
      let left = expr_code layout l (length c0) in
      let right = expr_code layout r (length c1) in
      e3 ∙ ap (λ c. c ++ x ∷ []) e2 ∙ append_assoc c1 right (x ∷ []) ∙ ap (λ c. c ++ (right ++ x ∷ [])) e1 ∙ append_assoc c0 left (right ++ x ∷ [])
      ∙ ap (λ n. c0 ++ (left ++ (expr_code layout r n ++ x ∷ []))) (behind_expr layout l c0 c1 e1)

  -- where a branch begins, and the second branch, and a turn of a bounded loop
  pub to_first : (test : Expr) (c0 c1 c2 : List Instr) → c1 ≡ c0 ++ expr_code layout test (length c0) → c2 ≡ c1 ++ instr.Jump 0 ∷ [] → length c2 ≡ length c0 + expr_size test + 1
  to_first test c0 c1 c2 e1 e2 = omega (arith, behind_expr layout test c0 c1 e1, behind_one c1 c2 (instr.Jump 0) e2)

  pub to_second : (test : Expr) (branch : List Stmt) (counter at : ℕ) (x : Instr) (c0 c1 c2 c3 c4 c5 : List Instr) →
      c1 ≡ c0 ++ expr_code layout test (length c0) → c2 ≡ c1 ++ instr.Jump 0 ∷ [] → c3 ≡ c2 ++ stmts_code layout branch counter (length c2) → c4 ≡ c3 ++ instr.Jump 0 ∷ [] → c5 ≡ slice_set c4 at x →
      length c5 ≡ length c0 + expr_size test + 1 + stmts_size branch + 1
  to_second test branch counter at x c0 c1 c2 c3 c4 c5 e1 e2 e3 e4 e5 =
      omega (arith, to_first test c0 c1 c2 e1 e2, behind_stmts layout branch counter c2 c3 e3, behind_one c3 c4 (instr.Jump 0) e4, ap length e5, length-set c4 at x)

  pub to_turn : (test : Expr) (counter most : ℕ) (c0 c1 c2 c3 c4 : List Instr) →
      c1 ≡ c0 ++ instr.Zero counter ∷ [] → c2 ≡ c1 ++ expr_code layout test (length c1) → c3 ≡ c2 ++ instr.Guard counter most ∷ [] → c4 ≡ c3 ++ instr.Jump 0 ∷ [] → length c4 ≡ length c0 + 1 + expr_size test + 2
  to_turn test counter most c0 c1 c2 c3 c4 e1 e2 e3 e4 =
      omega (arith, behind_one c0 c1 (instr.Zero counter) e1, behind_expr layout test c1 c2 e2, behind_one c2 c3 (instr.Guard counter most) e3, behind_one c3 c4 (instr.Jump 0) e4)

  pub patch_if : (test : Expr) (branch : List Stmt) (counter : ℕ) (c0 c1 c2 c3 : List Instr) (at : ℕ) →
      c1 ≡ c0 ++ expr_code layout test (length c0) → at ≡ length c1 → c2 ≡ c1 ++ instr.Jump 0 ∷ [] → c3 ≡ c2 ++ stmts_code layout branch counter (length c2) →
      slice_set c3 at (instr.JumpZero (length c3)) ≡ c0 ++ stmt_code layout (stmt.If test branch None) counter (length c0)
  patch_if test branch counter c0 c1 c2 c3 at e1 m e2 e3 =
      let p = length c0 in
      let first = to_first test c0 c1 c2 e1 e2 in
      let end : length c3 ≡ p + expr_size test + 1 + stmts_size branch = omega (arith, behind_stmts layout branch counter c2 c3 e3) in
      let over = instr.JumpZero (length c3) in
      let inside = stmts_code layout branch counter (length c2) in
      seam c1 c2 c3 inside (instr.Jump 0) over at m e2 e3
      ∙ ap (λ c. c ++ over ∷ inside) e1
      ∙ append_assoc c0 (expr_code layout test p) (over ∷ inside)
      ∙ rw (end, first) refl
      ∙ ap (λ c. c0 ++ c) (sym (code_if layout test branch counter p))

  pub patch_if_else : (test : Expr) (branch other : List Stmt) (counter next : ℕ) (c0 c1 c2 c3 c4 c5 c6 : List Instr) (at there : ℕ) →
      c1 ≡ c0 ++ expr_code layout test (length c0) → at ≡ length c1 → c2 ≡ c1 ++ instr.Jump 0 ∷ [] → c3 ≡ c2 ++ stmts_code layout branch counter (length c2) → there ≡ length c3 → c4 ≡ c3 ++ instr.Jump 0 ∷ [] →
      c5 ≡ slice_set c4 at (instr.JumpZero (length c4)) → next ≡ counter + loops_in branch → c6 ≡ c5 ++ stmts_code layout other next (length c5) →
      slice_set c6 there (instr.Jump (length c6)) ≡ c0 ++ stmt_code layout (stmt.If test branch (Some other)) counter (length c0)
  patch_if_else test branch other counter next c0 c1 c2 c3 c4 c5 c6 at there e1 m e2 e3 n e4 e5 k e6 =
      let p = length c0 in
      let over = instr.JumpZero (length c4) in
      let jump = instr.Jump (length c6) in
      let first = to_first test c0 c1 c2 e1 e2 in
      let second = to_second test branch counter at over c0 c1 c2 c3 c4 c5 e1 e2 e3 e4 e5 in
      let same : length c4 ≡ length c5 = sym (ap length e5 ∙ length-set c4 at over) in
      let end : length c6 ≡ p + expr_size test + 1 + stmts_size branch + 1 + stmts_size other = omega (arith, behind_stmts layout other next c5 c6 e6) in
      let inside = stmts_code layout branch counter (length c2) in
      let rest = stmts_code layout other next (length c5) in
      let front = c1 ++ over ∷ inside in
      let front_length : length front ≡ length c3 = omega (arith, length-append c1 (over ∷ inside), ap length e3, length-append c2 inside, behind_one c1 c2 (instr.Jump 0) e2) in
      let e7 : c4 ≡ c2 ++ (inside ++ instr.Jump 0 ∷ []) = e4 ∙ ap (λ c. c ++ instr.Jump 0 ∷ []) e3 ∙ append_assoc c2 inside (instr.Jump 0 ∷ []) in
      let e8 : c5 ≡ front ++ instr.Jump 0 ∷ [] = e5 ∙ seam c1 c2 c4 (inside ++ instr.Jump 0 ∷ []) (instr.Jump 0) over at m e2 e7 ∙ sym (append_assoc c1 (over ∷ inside) (instr.Jump 0 ∷ [])) in
      seam front c5 c6 rest (instr.Jump 0) jump there (n ∙ sym front_length) e8 e6
      ∙ append_assoc c1 (over ∷ inside) (jump ∷ rest)
      ∙ ap (λ c. c ++ (over ∷ (inside ++ jump ∷ rest))) e1
      ∙ append_assoc c0 (expr_code layout test p) (over ∷ (inside ++ jump ∷ rest))
      ∙ rw (end, same, second, first, k) refl
      ∙ ap (λ c. c0 ++ c) (sym (code_if_else layout test branch other counter p))

  pub patch_timed : (test : Expr) (body : List Stmt) (counter again : ℕ) (c0 c1 c2 c3 c4 : List Instr) (at : ℕ) →
      again ≡ length c0 → c1 ≡ c0 ++ expr_code layout test (length c0) → at ≡ length c1 → c2 ≡ c1 ++ instr.Jump 0 ∷ [] → c3 ≡ c2 ++ stmts_code layout body counter (length c2) → c4 ≡ c3 ++ instr.Jump again ∷ [] →
      slice_set c4 at (instr.JumpZero (length c4)) ≡ c0 ++ stmt_code layout (stmt.Timed test body) counter (length c0)
  patch_timed test body counter again c0 c1 c2 c3 c4 at a e1 m e2 e3 e4 =
      let p = length c0 in
      let first = to_first test c0 c1 c2 e1 e2 in
      let end : length c4 ≡ p + expr_size test + 1 + stmts_size body + 1 = omega (arith, behind_stmts layout body counter c2 c3 e3, behind_one c3 c4 (instr.Jump again) e4) in
      let out = instr.JumpZero (length c4) in
      let inside = stmts_code layout body counter (length c2) in
      let turn = inside ++ instr.Jump again ∷ [] in
      let e5 : c4 ≡ c2 ++ turn = e4 ∙ ap (λ c. c ++ instr.Jump again ∷ []) e3 ∙ append_assoc c2 inside (instr.Jump again ∷ []) in
      seam c1 c2 c4 turn (instr.Jump 0) out at m e2 e5
      ∙ ap (λ c. c ++ out ∷ turn) e1
      ∙ append_assoc c0 (expr_code layout test p) (out ∷ turn)
      ∙ rw (end, first, a) refl
      ∙ ap (λ c. c0 ++ c) (sym (code_timed layout test body counter p))

  pub patch_bounded : (test : Expr) (most : ℕ) (body : List Stmt) (counter next again : ℕ) (c0 c1 c2 c3 c4 c5 c6 : List Instr) (at : ℕ) →
      c1 ≡ c0 ++ instr.Zero counter ∷ [] → again ≡ length c1 → c2 ≡ c1 ++ expr_code layout test (length c1) → c3 ≡ c2 ++ instr.Guard counter most ∷ [] → at ≡ length c3 → c4 ≡ c3 ++ instr.Jump 0 ∷ [] →
      next ≡ counter + 1 → c5 ≡ c4 ++ stmts_code layout body next (length c4) → c6 ≡ c5 ++ instr.Jump again ∷ [] →
      slice_set c6 at (instr.JumpZero (length c6)) ≡ c0 ++ stmt_code layout (stmt.Bounded test most body) counter (length c0)
  patch_bounded test most body counter next again c0 c1 c2 c3 c4 c5 c6 at e1 a e2 e3 m e4 k e5 e6 =
      let p = length c0 in
      let guard = instr.Guard counter most in
      let asking : length c1 ≡ p + 1 = behind_one c0 c1 (instr.Zero counter) e1 in
      let first = to_turn test counter most c0 c1 c2 c3 c4 e1 e2 e3 e4 in
      let end : length c6 ≡ p + 1 + expr_size test + 2 + stmts_size body + 1 = omega (arith, behind_stmts layout body next c4 c5 e5, behind_one c5 c6 (instr.Jump again) e6) in
      let out = instr.JumpZero (length c6) in
      let asked = expr_code layout test (length c1) in
      let inside = stmts_code layout body next (length c4) in
      let turn = inside ++ instr.Jump again ∷ [] in
      let e7 : c6 ≡ c4 ++ turn = e6 ∙ ap (λ c. c ++ instr.Jump again ∷ []) e5 ∙ append_assoc c4 inside (instr.Jump again ∷ []) in
      let e8 : c3 ≡ c0 ++ (instr.Zero counter ∷ (asked ++ guard ∷ [])) =
      e3 ∙ ap (λ c. c ++ guard ∷ []) e2 ∙ append_assoc c1 asked (guard ∷ []) ∙ ap (λ c. c ++ (asked ++ guard ∷ [])) e1 ∙ append_assoc c0 (instr.Zero counter ∷ []) (asked ++ guard ∷ []) in
      seam c3 c4 c6 turn (instr.Jump 0) out at m e4 e7
      ∙ ap (λ c. c ++ out ∷ turn) e8
      ∙ append_assoc c0 (instr.Zero counter ∷ (asked ++ guard ∷ [])) (out ∷ turn)
      ∙ ap (λ c. c0 ++ (instr.Zero counter ∷ c)) (append_assoc asked (guard ∷ []) (out ∷ turn))
      ∙ rw (end, first, k, a, asking) refl
      ∙ ap (λ c. c0 ++ c) (sym (code_bounded layout test most body counter p))
