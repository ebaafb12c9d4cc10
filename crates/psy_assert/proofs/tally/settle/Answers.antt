-- What is left of the proof of `tally::settle`.
use Rattle.std.proofs.Common.{◌∙◌, arith}
use Rattle.std.proofs.lemmas.List.{length-set}
use Rattle.psy_assert.proofs.Settled.{all_settled, first_settled, one_settled}
use Rattle.psy_assert.proofs.tally.settle.Goals as goal

pub loop-at-init : goal.loop-at-init
loop-at-init c = record {
  some = omega arith;
  size = c.requires.size;
  sums = λ by_value notes is. first_settled by_value c.args.cuts.now notes c.args.sums.now is;
}

pub loop-at-preserved : goal.loop-at-preserved
loop-at-preserved c = record {
  some = omega arith;
  size = length-set c.loop-at.sums c.loop-at.at c.settled.result ∙ c.loop-at.invariant.size;
  sums =
      λ by_value notes is.
      one_settled by_value c.args.cuts.now notes c.requires.order c.loop-at.at c.loop-at.invariant.some (omega (arith, c.loop-at-test.true, c.loop-at.invariant.size)) c.loop-at.sums c.settled.result
      _ _ c.settled.ensures.extent (rw c.is_beside-same.ensures at c.settled.ensures.newest) (c.loop-at.invariant.sums by_value notes is);
}

pub returns : goal.returns
returns c by_value notes is = all_settled by_value c.args.cuts.now notes c.loop-at.at c.loop-at.sums (omega (arith, c.loop-at.invariant.size, c.loop-at-test.false)) (c.loop-at.invariant.sums by_value notes is)
