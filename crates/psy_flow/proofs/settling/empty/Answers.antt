-- What is left of the proof of `settling::empty`.
use Rattle.std.proofs.Common.{◌<◌, get_or, length, ap, ◌∙◌, arith, length-set}
use Rattle.psy_flow.proofs.PassRows.{all_empty, emptied_more}
use Rattle.psy_flow.proofs.settling.empty.Goals as goal

pub set-requires : goal.set-requires
set-requires c = omega (arith, c.requires.inside c.places.place-index 0 c.places-test.true, c.places.invariant.count)

pub places-preserved : goal.places-preserved
places-preserved c =
    let places = c.args.places.now in
    let k = c.places.place-index in
    let kept = c.places.invariant in
    let inside : get_or places k 0 < length c.places.row = omega (arith, c.requires.inside k 0 c.places-test.true, kept.count) in
    record {
      count = ap length c.set.ensures ∙ length-set c.places.row (get_or places k 0) 0 ∙ kept.count;
      empty = λ j low. ap (λ r. get_or r (get_or places j 0) 0) c.set.ensures ∙ emptied_more c.places.row places k inside kept.empty j low;
    }

pub returns-clause-empty : goal.returns-clause-empty
returns-clause-empty c = all_empty c.places.row c.args.places.now c.places.place-index c.places-test.false c.places.invariant.empty
