-- What is left of the proof of `header::add_values`.
use Rattle.std.proofs.Common.{◌++◌, ap, ◌∙◌}
use Rattle.psy_wave.specs.Codes.{valued}
use Rattle.psy_wave.proofs.Pieces.{goes_on, next_valued}
use Rattle.psy_wave.proofs.header.add_values.Goals as goal

pub loop-place-preserved : goal.loop-place-preserved
loop-place-preserved c =
    goes_on c.loop-place.out.items _ (valued c.args.value.now c.args.kind c.loop-place.place) _ _ c.in_ok-add_value.ensures
    (ap (λ rest. c.loop-place.out.items ++ rest) (next_valued c.args.value.now c.args.kind c.loop-place.place c.args.count c.loop-place-test.true) ∙ c.loop-place.invariant)
