-- What is left of the proof of `silent::stop`.
use Rattle.std.proofs.Common.{arith}
use Rattle.psy_match.specs.Silences.{kept_of, stopped_at}
use Rattle.psy_match.proofs.Stopping.{changed_more}
use Rattle.psy_match.proofs.silent.stop.Goals as goal

pub loop-one-preserved : goal.loop-one-preserved
loop-one-preserved c =
    let same = c.loop-one.invariant in
    changed_more kept_of (stopped_at c.args.agent.now c.args.date) c.loop-one.owned c.args.owned.now c.loop-one.one-index _ c.stop_one.new.owned
    (omega (arith, c.loop-one-test.true, c.loop-one.auto.owned)) (omega (arith, c.loop-one-test.true, c.loop-one.auto.owned)) c.stop_one.ensures same.0 same.1
