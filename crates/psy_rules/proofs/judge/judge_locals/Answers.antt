-- What is left of the proof of `judge::judge_locals`.
use Rattle.std.proofs.Common.{sym}
use Rattle.psy_tree.specs.Places.{local_place}
use Rattle.psy_rules.proofs.Judging.{judged_next}
use Rattle.psy_rules.proofs.judge.judge_locals.Goals as goal

pub loop-local-preserved : goal.loop-local-preserved
loop-local-preserved c site =
    judged_next local_place site c.args.locals.now c.loop-local.local-index c.local-item.result c.args.least.now.fault c.loop-local.least.fault c.judge_local.new.least.fault
    c.loop-local-test.true (sym c.local-item.is) (c.loop-local.invariant site) (c.judge_local.ensures site)
