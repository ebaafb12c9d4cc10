-- What is left of the proof of `tally::Tally::has_between`.
use Rattle.std.proofs.Common.{◌∙◌, sym, ◌+◌, arith}
use Rattle.psy_assert.proofs.Between.{none_fewer, none_more, none_there, one_between}
use Rattle.psy_assert.proofs.tally.Tally.has_between.Goals as goal

pub loop-at-init : goal.loop-at-init
loop-at-init c = record {
  from = omega arith;
  none = λ by_value notes tally ends. none_there by_value c.args.self.now.cuts.items c.args.sought c.args.first notes;
}

pub returns-then-has_sought : goal.returns-then-has_sought
returns-then-has_sought c by_value notes tally ends =
    let found = rw c.as_slice-sums.ensures.value at c.has_sought.ensures in
    let all = found ∙ tally.sums.extents (c.loop-at.at + 1) _ (omega (arith, c.loop-at-test.true, c.requires.within)) c.args.sought ends in
    sym (one_between by_value c.args.self.now.cuts.items c.args.sought c.args.first c.args.last (c.loop-at.at + 1) (omega (arith, c.loop-at.invariant.from)) (omega (arith, c.loop-at-test.true)) notes (sym all ∙ c.if-has_sought.true))

pub loop-at-preserved : goal.loop-at-preserved
loop-at-preserved c = record {
  from = omega (arith, c.loop-at.invariant.from);
  none =
      λ by_value notes tally ends.
      let found = rw c.as_slice-sums.ensures.value at c.has_sought.ensures in
      let all = found ∙ tally.sums.extents (c.loop-at.at + 1) _ (omega (arith, c.loop-at-test.true, c.requires.within)) c.args.sought ends in
      none_more by_value c.args.self.now.cuts.items c.args.sought c.args.first c.loop-at.at notes (c.loop-at.invariant.none by_value notes tally ends) (sym all ∙ c.if-has_sought.false);
}

pub returns : goal.returns
returns c by_value notes tally ends =
    sym (none_fewer by_value c.args.self.now.cuts.items c.args.sought c.args.first c.args.last c.loop-at.at (omega (arith, c.loop-at-test.false)) notes (c.loop-at.invariant.none by_value notes tally ends))
