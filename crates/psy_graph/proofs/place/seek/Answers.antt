-- What is left of the proof of `place::seek`.
use Rattle.std.proofs.Common.{◌<◌, ◌/◌, ◌-◌, ◌+◌, length, arith}
use Rattle.std.proofs.lemmas.Bool.Decides.{not_from_Decides}
use Rattle.psy_graph.proofs.Rooms.{search_low, search_high}
use Rattle.psy_graph.proofs.place.seek.Goals as goal

pub halving-preserved-then-is_before : goal.halving-preserved-then-is_before
halving-preserved-then-is_before c =
    let middle = c.halving.low + (c.halving.high - c.halving.low) / 2 in
    let l : middle < length c.args.places.now = omega (arith, c.halving.invariant.high, c.halving-test.true) in
    record {
      low = omega (arith, c.halving-test.true);
      high = c.halving.invariant.high;
      below = search_low c.args.places.now c.args.place middle _ c.requires l (c.is_before.ensures.0 c.if-is_before.true);
      above = c.halving.invariant.above;
    }

pub halving-preserved : goal.halving-preserved
halving-preserved c =
    let middle = c.halving.low + (c.halving.high - c.halving.low) / 2 in
    let l : middle < length c.args.places.now = omega (arith, c.halving.invariant.high, c.halving-test.true) in
    record {
      low = omega (arith, c.halving-test.true);
      high = omega (arith, l);
      below = c.halving.invariant.below;
      above = search_high c.args.places.now c.args.place middle _ c.requires l (not_from_Decides c.is_before.result c.is_before.ensures c.if-is_before.false);
    }
