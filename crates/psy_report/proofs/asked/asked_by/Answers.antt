-- What is left of the proof of `asked::asked_by`.
use Rattle.std.proofs.Common.{◌<◌, ◌≤◌, arith, subst}
use Rattle.psy_history.specs.Processors.{processors}
use Rattle.psy_plan.specs.Courses.{Stops}
use Rattle.psy_plan.specs.Programs.{IsRefused}
use Rattle.psy_report.specs.Asked.{each_asks, no_processor, no_program, unmeasured}
use Rattle.psy_report.specs.Measured.{IsUnmeasured}
use Rattle.psy_report.proofs.asked.asked_by.Goals as goal

pub returns-in-Err-Refused : goal.returns-in-Err-Refused
returns-in-Err-Refused c =
    rw c.new.ensures.items
    (no_program c.in-Err-Refused.field-0-0 (subst (Stops (IsRefused c.args.program.now)) c.in-Err-Refused.field-0-is c.in-Err-Refused.ensures.refused))

pub returns-then-over-from : goal.returns-then-over-from
returns-then-over-from c =
    let none : processors c.in-Ok.unit ≤ c.args.over.processor = omega (arith, c.processors_of.ensures.exact) in
    rw c.new-then-over-from.ensures.items (no_processor c.in-Ok.unit c.in-Ok.ensures.unit none)

pub returns-in-Ok-measure : goal.returns-in-Ok-measure
returns-in-Ok-measure c =
    let known : c.args.over.processor < processors c.in-Ok.unit = omega (arith, c.processors_of.ensures.exact) in
    rw c.in_ok-lines-in-Ok-measure.ensures (each_asks _ _ c.in-Ok.ensures.unit known c.in-Ok-measure.ensures.measures)

pub returns-in-Err-Refused-measure : goal.returns-in-Err-Refused-measure
returns-in-Err-Refused-measure c =
    let known : c.args.over.processor < processors c.in-Ok.unit = omega (arith, c.processors_of.ensures.exact) in
    rw c.new-in-Err-Refused-measure.ensures.items
    (unmeasured _ c.in-Err-Refused-measure.field-0-0 c.in-Ok.ensures.unit known
    (subst (Stops (IsUnmeasured c.in-Ok.unit c.args.over.within)) c.in-Err-Refused-measure.field-0-is c.in-Err-Refused-measure.ensures.refused))
