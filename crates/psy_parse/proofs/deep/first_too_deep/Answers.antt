-- What is left of the proof of `deep::first_too_deep`.
use Rattle.std.proofs.Common.{◌≡◌, ◌+◌, arith, below_more}
use Rattle.psy_tree.specs.Deep.{bracket_depth, operators_since}
use Rattle.psy_parse.proofs.Front.{front, front_more, not_reached}
use Rattle.psy_parse.proofs.deep.first_too_deep.Goals as goal

pub loop-number-preserved : goal.loop-number-preserved
loop-number-preserved c =
    let tokens = c.args.tokens.now in
    let i = c.loop-number.number in
    let more = front_more tokens i c.index-tokens-number.result c.loop-number-test.true c.index-tokens-number.is in
    let depth : bracket_depth (front tokens (i + 1)) ≡ c.depth_after-depth.result = rw more (c.depth_after-depth.ensures.depth (front tokens i) c.loop-number.invariant.depth) in
    let since : operators_since (front tokens (i + 1)) ≡ c.operators_after-since.result = rw more (c.operators_after-since.ensures.since (front tokens i) c.loop-number.invariant.since) in
    record {
      depth = depth;
      since = since;
      low_depth = omega (arith, c.depth_after-depth.ensures.bound, c.if-depth-eq-BRACKETS.false);
      low_since = omega (arith, c.operators_after-since.ensures.bound, c.if-since-eq-OPERATORS.false);
      before = below_more _ _ c.loop-number.invariant.before (not_reached tokens i _ _ depth since c.if-depth-eq-BRACKETS.false c.if-since-eq-OPERATORS.false);
    }
