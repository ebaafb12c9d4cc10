-- What is left of the proof of `fed::add_values`.
use Rattle.std.specs.List.{flat_map}
use Rattle.psy_match.specs.Feeding.{published_at, published_by}
use Rattle.psy_match.proofs.Numbered.{numbered}
use Rattle.psy_match.proofs.fed.add_values.Goals as goal

pub values-preserved : goal.values-preserved
values-preserved c =
    record {
      values = numbered (published_at c.args.name.now c.args.clock c.args.last c.args.values.now) c.values.number (flat_map published_by c.args.notes.now.items) _ _
          c.values.invariant.values c.in_ok-add_value.ensures.values;
      alone = λ names among all. c.in_ok-add_value.ensures.alone names among (c.values.invariant.alone names among all);
    }
