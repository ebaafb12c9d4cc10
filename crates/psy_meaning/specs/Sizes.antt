-- How many instructions the constructs of a unit have, reached or not.
use Rattle.std.specs.Prelude.{ℕ, ◌+◌, List, map, Option, Some, None}
use Rattle.psy_arith.specs.declared.operators.Op2.{Op2}
use Rattle.psy_arith.specs.declared.operators.Op2.TheVariants as op
use Rattle.psy_tree.specs.Paths.{total}
use Rattle.psy_tree.specs.declared.unit.Unit.{Unit as Whole}
use Rattle.psy_tree.specs.declared.unit.Expr.{Expr, fold-Expr}
use Rattle.psy_tree.specs.declared.unit.Expr.TheOpen.{Expr-F}
use Rattle.psy_tree.specs.declared.unit.Stmt.{Stmt, fold-Stmt}
use Rattle.psy_tree.specs.declared.unit.Stmt.TheOpen.{Stmt-F}

-- A binary operator is one instruction, and `&&` and `||` are two.
abbrev pub binary_size : Op2 → ℕ
binary_size op.AndAnd = 2
binary_size op.OrOr = 2
binary_size operator = 1

-- The size of an expression, once those of its parts are known
abbrev pub expr_size_step : Expr-F ℕ → ℕ
expr_size_step (Expr-F.Cell slot index) = index + 1
expr_size_step (Expr-F.Unary operator width operand) = operand + 1
expr_size_step (Expr-F.Cast width operand) = operand + 1
expr_size_step (Expr-F.Binary operator width left right) = left + (right + binary_size operator)
expr_size_step (Expr-F.Call function arguments) = total arguments + 1
expr_size_step _ = 1

-- The size of an expression
abbrev pub expr_size : Expr → ℕ
expr_size = fold-Expr ℕ expr_size_step

-- A second branch, and the jump behind the first
abbrev pub other_size : Option (List ℕ) → ℕ
other_size None = 0
other_size (Some other) = total other + 1

-- The size of a statement, once those of its parts are known
abbrev pub stmt_size_step : Stmt-F ℕ → ℕ
stmt_size_step (Stmt-F.Set slot value) = expr_size value + 1
stmt_size_step (Stmt-F.SetCopy variable value) = expr_size value + 1
stmt_size_step (Stmt-F.SetCell slot index value) = expr_size index + (expr_size value + 1)
stmt_size_step (Stmt-F.If test branch other) = expr_size test + 1 + (total branch + other_size other)
stmt_size_step (Stmt-F.Bounded test most body) = expr_size test + 4 + total body
stmt_size_step (Stmt-F.Timed test body) = expr_size test + 2 + total body
stmt_size_step (Stmt-F.Send value stream after clock) = expr_size value + 1
stmt_size_step (Stmt-F.Advance point) = 1
stmt_size_step (Stmt-F.Return value) = expr_size value + 1

-- The size of a statement
abbrev pub stmt_size : Stmt → ℕ
stmt_size = fold-Stmt ℕ stmt_size_step

-- The size of a list of statements
abbrev pub stmts_size : List Stmt → ℕ
stmts_size stmts = total (map stmt_size stmts)

-- The size of a unit: a function has two instructions more, which give 0 at its end, and an agent one, which
-- repeats its body.
abbrev pub unit_size : Whole → ℕ
unit_size unit = total (map (λ f. stmts_size f.stmts + 2) unit.functions) + total (map (λ a. stmts_size a.stmts + 1) unit.agents)
