-- What is left of the proof of `rings::publish_all`.
use Rattle.std.proofs.Common.{◌<◌, Some, [], length, ap, sym, ◌∙◌, arith}
use Rattle.std.proofs.lemmas.Option.{slice_get_within}
use Rattle.psy_dates.specs.Plans.{system_of}
use Rattle.psy_dates.proofs.Publications.{none_due, ring_stays}
use Rattle.psy_dates.proofs.rings.publish_all.Goals as goal

pub returns-else-may_have : goal.returns-else-may_have
returns-else-may_have c variable ring at =
    let plan = c.args.plan.now in
    let s = system_of plan c.args.inputs.now.lists (λ agent. []) in
    let within : variable < length plan.unit.variables = omega (arith, slice_get_within c.args.rings.now variable ring at, c.requires.ringed) in
    let known = (c.requires.bare.variables variable _ within).clock in
    at ∙ ap (λ r. Some r) (sym (ring_stays s c.args.committed.now c.args.date variable ring (none_due s c.args.date c.args.calendar.now c.requires.calendar (c.may_have.ensures c.if-may_have.false) variable known)))
