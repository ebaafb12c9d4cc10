-- What stands behind the code of expressions and statements.
use Rattle.std.proofs.Common.{ℕ, ◌+◌, List, ◌++◌, subst}
use Rattle.psy_code.specs.declared.instr.Instr.{Instr}
use Rattle.psy_tree.specs.declared.unit.Expr.{Expr}
use Rattle.psy_tree.specs.declared.unit.Stmt.{Stmt}
use Rattle.psy_meaning.specs.Sizes.{expr_size, stmt_size, stmts_size}
use Rattle.psy_gen.specs.Emission.{Layout, expr_code, stmt_code, stmts_code}
use Rattle.psy_gen.proofs.Contexts.{HasAt, has-second}
use Rattle.psy_gen.proofs.Lengths.{expr_length, stmt_length, stmts_length}

module _ (instrs : List Instr) (layout : Layout) where
  pub expr_behind : (e : Expr) (p : ℕ) (rest : List Instr) → HasAt instrs p (expr_code layout e p ++ rest) → HasAt instrs (p + expr_size e) rest
  expr_behind e p rest h = subst (λ n. HasAt instrs (p + n) rest) (expr_length layout e p) (has-second instrs p (expr_code layout e p) rest h)

  pub stmt_behind : (stmt : Stmt) (c p : ℕ) (rest : List Instr) → HasAt instrs p (stmt_code layout stmt c p ++ rest) → HasAt instrs (p + stmt_size stmt) rest
  stmt_behind stmt c p rest h = subst (λ n. HasAt instrs (p + n) rest) (stmt_length layout stmt c p) (has-second instrs p (stmt_code layout stmt c p) rest h)

  pub stmts_behind : (stmts : List Stmt) (c p : ℕ) (rest : List Instr) → HasAt instrs p (stmts_code layout stmts c p ++ rest)
      → HasAt instrs (p + stmts_size stmts) rest
  stmts_behind stmts c p rest h = subst (λ n. HasAt instrs (p + n) rest) (stmts_length layout stmts c p)
      (has-second instrs p (stmts_code layout stmts c p) rest h)
