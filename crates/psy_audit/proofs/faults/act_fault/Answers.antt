-- What is left of the proof of `faults::act_fault`.
use Rattle.std.proofs.Common.{◌∙◌, Bool, cond, not, Option, Some, None, ℕ, ap}
use Rattle.psy_audit.specs.Courses.{has_course}
use Rattle.psy_audit.specs.Tables.{judge}
use Rattle.psy_audit.proofs.faults.act_fault.Goals as goal

pub returns : goal.returns
returns c = λ lines stands.
    let t = c.args.table.now in
    let fault : Bool → Bool → Option ℕ = λ course cycles. cond (not course) (Some 4) (cond (not cycles) (Some 5) None) in
    c.first_unless.ensures ∙ ap (λ b. fault b c.in_ok-cycles.cycles) (c.has_course-course.ensures lines stands)
    ∙ ap (fault (has_course (judge t) t.lines.now lines c.args.act.now)) c.in_ok-cycles.ensures
