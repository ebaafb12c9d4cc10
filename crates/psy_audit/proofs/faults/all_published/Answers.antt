-- What is left of the proof of `faults::all_published`.
use Rattle.std.proofs.Common.{length, sym, arith}
use Rattle.psy_audit.specs.Publications.{is_published}
use Rattle.psy_audit.specs.Tables.{judge}
use Rattle.psy_audit.proofs.Faulty.{each_fails, each_more}
use Rattle.psy_audit.proofs.faults.all_published.Goals as goal

pub variables-preserved : goal.variables-preserved
variables-preserved c =
    let t = c.args.table.now in
    each_more (is_published (judge t) t.lines.now) c.variables.variable c.variables.invariant (sym c.if-not-is_published.ensures)

pub returns-then-not-is_published : goal.returns-then-not-is_published
returns-then-not-is_published c =
    let t = c.args.table.now in
    each_fails (is_published (judge t) t.lines.now) (length t.plan.now.unit.variables) c.variables.variable (omega arith) (sym c.if-not-is_published.ensures)
