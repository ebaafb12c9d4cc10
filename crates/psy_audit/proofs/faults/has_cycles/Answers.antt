-- What is left of the proof of `faults::has_cycles`.
use Rattle.std.proofs.Common.{◌∙◌, ap}
use Rattle.psy_audit.specs.Courses.{are_cycles}
use Rattle.psy_audit.specs.Judging.{untied}
use Rattle.psy_audit.proofs.Firsts.{own_segments}
use Rattle.psy_audit.proofs.faults.has_cycles.Goals as goal

pub returns : goal.returns
returns c =
    let t = c.args.table.now in
    let a = c.args.act.now in
    c.are_cycles.ensures
    ∙ ap (λ its. are_cycles (untied t.plan.now) its a)
    (c.as_slice.ensures ∙ c.in_ok-its.ensures ∙ c.segments_near.ensures
    ∙ own_segments t.lines.now a.agent a.number)
