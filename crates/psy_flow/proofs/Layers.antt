-- The tops of a statement by those of its parts.
use Rattle.std.proofs.Common.{◌≡◌, ℕ, ◌+◌, List, Option, Some, sym, ap, ◌∙◌}
use Rattle.psy_tree.specs.declared.unit.Expr.{Expr}
use Rattle.psy_tree.specs.declared.unit.Stmt.{Stmt, fold-roll-Stmt}
use Rattle.psy_tree.specs.declared.unit.Stmt.TheVariants as stmt
use Rattle.psy_tree.specs.declared.unit.Stmt.TheOpen.{Stmt-F}
use Rattle.psy_flow.specs.declared.gauge.Gauge.{Gauge}
use Rattle.psy_flow.specs.declared.tops.Tops.{Tops}
use Rattle.psy_flow.specs.Tops.{in_step, falling, behind, or_else, and_on, turning, expr_most, stmt_tops_step, stmt_tops, stmts_tops}

module _ (g : Gauge) (wanted : Option ℕ) (calls : ℕ → ℕ) where
  pub tops_if_else : (test : Expr) (branch other : List Stmt) →
      stmt_tops g wanted calls (stmt.If test branch (Some other))
      ≡ behind (expr_most g calls test + in_step g) (or_else (and_on (stmts_tops g wanted calls branch) (falling (in_step g))) (stmts_tops g wanted calls other))
  tops_if_else test branch other =
      ap (stmt_tops g wanted calls) (sym (stmt.rolls-If test branch (Some other))) ∙ fold-roll-Stmt Tops (stmt_tops_step g wanted calls) (Stmt-F.If test branch (Some other))

  pub tops_bounded : (test : Expr) (most : ℕ) (body : List Stmt) →
      stmt_tops g wanted calls (stmt.Bounded test most body) ≡ behind (in_step g) (turning g most (expr_most g calls test) (stmts_tops g wanted calls body))
  tops_bounded test most body =
      ap (stmt_tops g wanted calls) (sym (stmt.rolls-Bounded test most body)) ∙ fold-roll-Stmt Tops (stmt_tops_step g wanted calls) (Stmt-F.Bounded test most body)
