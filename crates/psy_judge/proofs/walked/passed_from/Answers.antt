-- What is left of the proof of `walked::passed_from`.
use Rattle.std.proofs.Common.{◌≡◌, ◌<◌, false, get_or, length, sym, ap, subst, ◌∙◌, arith}
use Rattle.std.specs.Prelude.{replicate}
use Rattle.std.specs.List.{All, Contains}
use Rattle.std.proofs.lemmas.List.Elements.{Contains-get_or}
use Rattle.psy_judge.specs.Walked.{AreMet}
use Rattle.psy_judge.proofs.PlacesMet.{Done, done_none, done_more, grown_has, grown_length, met_none, passed_all}
use Rattle.psy_judge.proofs.walked.passed_from.Goals as goal

pub places-init : goal.places-init
places-init c = record {
  met = c.in_ok-meet_starts.ensures.met;
  begun = c.in_ok-meet_starts.ensures.begun;
  done = done_none c.args.instrs.now c.args.starts.now _;
  at = omega arith;
}

pub places-preserved : goal.places-preserved
places-preserved c =
    let kept = c.places.invariant in
    let after = c.in_ok-follow.ensures in
    let less : c.places.at < length c.places.places = omega (arith, c.places-test.true, c.len.ensures) in
    record {
      met = after.met;
      begun = λ start has within. grown_has c.places.places _ start after.grown (kept.begun start has within);
      done = done_more c.args.instrs.now c.args.starts.now c.places.places _ c.places.at kept.done less after.grown after.followed;
      at = omega (arith, less, grown_length c.places.places _ after.grown);
    }

pub meet_starts-requires : goal.meet_starts-requires
meet_starts-requires c =
    let instrs = c.args.instrs.now in
    let starts = c.args.starts.now in
    let marks : c.args.marks.now ≡ replicate (length instrs) false = c.requires.clear in
    record {
      met = subst (λ ms. AreMet instrs starts ms c.new-places.result) (sym marks) (subst (AreMet instrs starts (replicate (length instrs) false)) (sym c.new-places.ensures) (met_none instrs starts));
    }

pub unmark-requires-clause-inside : goal.unmark-requires-clause-inside
unmark-requires-clause-inside c =
    let met = c.places.invariant.met in
    let places = c.places.places in
    subst (All (λ place. place < length c.places.marks)) (sym c.as_slice.ensures)
    (λ k d less. omega (arith, met.count, (met.passed (get_or places k d) (Contains-get_or places k d less)).0))

pub unmark-requires-clause-listed : goal.unmark-requires-clause-listed
unmark-requires-clause-listed c place marked = subst (λ ps. Contains ps place) (sym c.as_slice.ensures) (c.places.invariant.met.listed place marked)

pub returns-clause-places : goal.returns-clause-places
returns-clause-places c =
    let places = c.places.places in
    let all : c.places.at ≡ length places = omega (arith, c.places.invariant.at, c.places-test.false, c.len.ensures) in
    passed_all c.args.instrs.now c.args.starts.now c.places.marks places c.places.invariant.met c.places.invariant.begun (subst (Done c.args.instrs.now c.args.starts.now places) all c.places.invariant.done)

pub returns-clause-clear : goal.returns-clause-clear
returns-clause-clear c = c.unmark.ensures ∙ ap (λ n. replicate n false) c.places.invariant.met.count
