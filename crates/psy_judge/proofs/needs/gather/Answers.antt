-- What is left of the proof of `needs::gather`.
use Rattle.std.proofs.Common.{◌≡◌, get_or, length, refl, subst, arith}
use Rattle.std.proofs.lemmas.List.Elements.{Contains-get_or}
use Rattle.psy_judge.specs.Gathering.{IsGathered}
use Rattle.psy_judge.proofs.NeedsGathered.{gathered_none}
use Rattle.psy_judge.proofs.needs.gather.Goals as goal

pub places-init : goal.places-init
places-init c = gathered_none c.args.code.now c.args.number c.requires.number c.args.needs.now c.requires.needs c.requires.counted c.args.places.now

pub with_place-need-requires-clause-place : goal.with_place-need-requires-clause-place
with_place-need-requires-clause-place c =
    ((c.requires.places (get_or c.args.places.now c.places.place-index 0)).0 (Contains-get_or c.args.places.now c.places.place-index 0 c.places-test.true)).0

pub with_place-need-requires-clause-reached : goal.with_place-need-requires-clause-reached
with_place-need-requires-clause-reached c =
    ((c.requires.places (get_or c.args.places.now c.places.place-index 0)).0 (Contains-get_or c.args.places.now c.places.place-index 0 c.places-test.true)).1

pub places-preserved : goal.places-preserved
places-preserved c = c.with_place-need.ensures c.args.places.now c.places.place-index refl c.places.invariant

pub returns : goal.returns
returns c =
    let all : c.places.place-index ≡ length c.args.places.now = omega (arith, c.places-test.false, c.places.auto.place-index-end) in
    subst (λ n. IsGathered c.args.code.now c.args.number c.args.places.now n c.places.need) all c.places.invariant
