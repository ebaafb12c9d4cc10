-- What is left of the proof of `faults::all_begun`.
use Rattle.std.proofs.Common.{length, sym, arith}
use Rattle.psy_audit.specs.Courses.{has_begun}
use Rattle.psy_audit.specs.Tables.{judge}
use Rattle.psy_audit.proofs.Faulty.{each_fails, each_more}
use Rattle.psy_audit.proofs.faults.all_begun.Goals as goal

pub agents-preserved : goal.agents-preserved
agents-preserved c =
    let t = c.args.table.now in
    each_more (has_begun (judge t) t.lines.now) c.agents.agent c.agents.invariant (sym c.if-not-has_begun.ensures)

pub returns-then-not-has_begun : goal.returns-then-not-has_begun
returns-then-not-has_begun c =
    let t = c.args.table.now in
    each_fails (has_begun (judge t) t.lines.now) (length t.plan.now.unit.agents) c.agents.agent (omega arith) (sym c.if-not-has_begun.ensures)
