-- What is left of the proof of `needs::need_of`.
use Rattle.std.proofs.Common.{Bool, subst}
use Rattle.psy_flow.specs.Needs.{IsCounted}
use Rattle.psy_judge.specs.Judged.{Judges}
use Rattle.psy_judge.proofs.NeedsGathered.{need_is}
use Rattle.psy_judge.proofs.needs.need_of.Goals as goal

pub returns-then-not-is_counted : goal.returns-then-not-is_counted
returns-then-not-is_counted c = subst (λ (b : Bool). Judges b (IsCounted c.args.code.now c.args.number)) c.if-not-is_counted.true c.is_counted.ensures

pub gather-need-requires-clause-counted : goal.gather-need-requires-clause-counted
gather-need-requires-clause-counted c = subst (λ (b : Bool). Judges b (IsCounted c.args.code.now c.args.number)) c.if-not-is_counted.false c.is_counted.ensures

pub returns : goal.returns
returns c =
    let counted = subst (λ (b : Bool). Judges b (IsCounted c.args.code.now c.args.number)) c.if-not-is_counted.false c.is_counted.ensures in
    need_is c.args.code.now c.args.number c.requires.number c.args.needs.now c.requires.needs counted c.args.places.now c.gather-need.result c.frame_size.result c.requires.places c.gather-need.ensures
    c.frame_size.ensures.size c.frame_size.ensures.few
