-- The code and the size of expressions and statements, by those of their parts.
use Rattle.std.proofs.Common.{◌≡◌, ℕ, ◌+◌, List, [], ◌∷◌, map, refl, ap}
use Rattle.psy_gen.specs.Emission.{Layout, Emit, Operand, Coded, Part, Placed, expr_code, expr_code_step, stmt_code, stmt_code_step, block_size, block_loops, placed_size, places_of}
use Rattle.psy_meaning.specs.Depths.{loops, loops_in}
use Rattle.psy_meaning.specs.Sizes.{expr_size, expr_size_step, stmt_size, stmt_size_step, stmts_size}
use Rattle.psy_tree.specs.declared.unit.Expr.{Expr, roll-Expr, map-Expr, para-roll-Expr, fold-roll-Expr}
use Rattle.psy_tree.specs.declared.unit.Expr.TheOpen.{Expr-F}
use Rattle.psy_tree.specs.declared.unit.Stmt.{Stmt, roll-Stmt, map-Stmt, para-roll-Stmt, fold-roll-Stmt}
use Rattle.psy_tree.specs.declared.unit.Stmt.TheOpen.{Stmt-F}

abbrev pub operand : Layout → Expr → Operand
operand layout e = (e, expr_code layout e)

abbrev pub part : Layout → Stmt → Part
part layout s = (s, stmt_code layout s)

abbrev pub placed : Stmt → Placed
placed s = (s, places_of s)

pub block_size_is : (layout : Layout) (ss : List Stmt) → block_size (map (part layout) ss) ≡ stmts_size ss
block_size_is layout [] = refl
block_size_is layout (s ∷ ss) = ap (λ n. stmt_size s + n) (block_size_is layout ss)

pub block_loops_is : (layout : Layout) (ss : List Stmt) → block_loops (map (part layout) ss) ≡ loops_in ss
block_loops_is layout [] = refl
block_loops_is layout (s ∷ ss) = ap (λ n. loops s + n) (block_loops_is layout ss)

pub placed_size_is : (ss : List Stmt) → placed_size (map placed ss) ≡ stmts_size ss
placed_size_is [] = refl
placed_size_is (s ∷ ss) = ap (λ n. stmt_size s + n) (placed_size_is ss)

pub code_roll : (layout : Layout) (x : Expr-F Expr) (p : ℕ) → expr_code layout (roll-Expr x) p ≡ expr_code_step layout (map-Expr Expr Operand (operand layout) x) p
code_roll layout x p = ap (λ (c : Emit). c p) (para-roll-Expr Emit (expr_code_step layout) x)

pub size_roll : (x : Expr-F Expr) → expr_size (roll-Expr x) ≡ expr_size_step (map-Expr Expr ℕ expr_size x)
size_roll x = fold-roll-Expr ℕ expr_size_step x

pub stmt_roll : (layout : Layout) (x : Stmt-F Stmt) (counter p : ℕ) → stmt_code layout (roll-Stmt x) counter p ≡ stmt_code_step layout (map-Stmt Stmt Part (part layout) x) counter p
stmt_roll layout x counter p = ap (λ (c : Coded). c counter p) (para-roll-Stmt Coded (stmt_code_step layout) x)

pub stmt_size_roll : (x : Stmt-F Stmt) → stmt_size (roll-Stmt x) ≡ stmt_size_step (map-Stmt Stmt ℕ stmt_size x)
stmt_size_roll x = fold-roll-Stmt ℕ stmt_size_step x
