-- What is left of the proof of `faults::has_course`.
use Rattle.std.proofs.Common.{◌∙◌, Option, ap}
use Rattle.psy_audit.specs.declared.said.Act.{Act}
use Rattle.psy_audit.specs.Courses.{is_course}
use Rattle.psy_audit.specs.Tables.{judge}
use Rattle.psy_audit.specs.Traces.{acts_of, last_of, timing_in}
use Rattle.psy_audit.proofs.Faulty.{act_before}
use Rattle.psy_audit.proofs.faults.has_course.Goals as goal

pub returns : goal.returns
returns c = λ lines stands.
    let t = c.args.table.now in
    let a = c.args.act.now in
    let timing = timing_in (judge t) a.agent in
    c.is_course.ensures
    ∙ ap (λ (o : Option Act). is_course timing t.plan.now.until o c.acts_of.result.now a) (c.last_act.ensures ∙ act_before t.plan.now.unit lines c.args.before.now stands a.agent c.requires.agent)
    ∙ ap (λ its. is_course timing t.plan.now.until (last_of (acts_of a.agent lines)) its a) c.acts_of.ensures
