-- What is left of the proof of `stretches::stay_rising`.
use Rattle.psy_audit.proofs.Numbered.{rising_more}
use Rattle.psy_audit.proofs.stretches.stay_rising.Goals as goal

pub returns-then-rising : goal.returns-then-rising
returns-then-rising c = λ old is. rising_more c.args.list.now c.args.segment.now (old c.if-rising.true) (c.comes_behind.ensures is)
