-- What is left of the proof of `due::deadline_of`.
use Rattle.std.proofs.Common.{◌≡◌, ◌<◌, [], length, None, ap, subst, arith}
use Rattle.std.specs.Prelude.{map, slice_get}
use Rattle.psy_meaning.specs.Timing.{least, end_date}
use Rattle.psy_dates.specs.Moves.{timing_in}
use Rattle.psy_dates.proofs.Lists.{part_none}
use Rattle.psy_dates.proofs.due.deadline_of.Goals as goal

pub returns-in-None : goal.returns-in-None
returns-in-None c =
    let plan = c.args.plan.now in
    let within : c.args.agent < length plan.nexts = omega (arith, c.requires.nexts, c.requires.agent) in
    let none = subst (λ list. None ≡ slice_get list c.args.point) c.index-as_slice-agent.is c.in-None.ensures.value in
    ap (λ points. least (map (end_date (timing_in plan c.args.agent) c.args.start) points)) (part_none (λ lists. lists) plan.nexts c.as_slice.result.now c.args.agent c.args.point c.index-as_slice-agent.result [] [] c.as_slice.ensures within none)
