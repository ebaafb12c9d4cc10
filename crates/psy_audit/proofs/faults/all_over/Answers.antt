-- What is left of the proof of `faults::all_over`.
use Rattle.std.proofs.Common.{sym, arith}
use Rattle.psy_history.specs.Processors.{processors}
use Rattle.psy_audit.specs.Tables.{judge}
use Rattle.psy_audit.specs.Turns.{is_over}
use Rattle.psy_audit.proofs.Befores.{same_segments}
use Rattle.psy_audit.proofs.Faulty.{each_fails, each_more}
use Rattle.psy_audit.proofs.faults.all_over.Goals as goal

pub processors-preserved : goal.processors-preserved
processors-preserved c = λ lines stands body.
    let t = c.args.table.now in
    let same = same_segments lines t.lines.now body in
    each_more (is_over (judge t) t.lines.now) c.processors.processor (c.processors.invariant lines stands body)
    (sym (c.if-not-is_over.ensures lines stands same))

pub returns-then-not-is_over : goal.returns-then-not-is_over
returns-then-not-is_over c = λ lines stands body.
    let t = c.args.table.now in
    let same = same_segments lines t.lines.now body in
    each_fails (is_over (judge t) t.lines.now) (processors t.plan.now.unit) c.processors.processor (omega arith) (sym (c.if-not-is_over.ensures lines stands same))
