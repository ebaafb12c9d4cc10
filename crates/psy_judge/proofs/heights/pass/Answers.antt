-- What is left of the proof of `heights::pass`.
use Rattle.std.proofs.Common.{get_or, arith}
use Rattle.std.proofs.lemmas.List.Elements.{Contains-get_or}
use Rattle.psy_judge.proofs.RowsTaken.{AreClosedTo, course_none, passing_all, passing_more}
use Rattle.psy_judge.proofs.heights.pass.Goals as goal

pub places-init : goal.places-init
places-init c = record {
  count = c.requires.count;
  small = c.requires.small;
  course = λ owner found. course_none c.args.code.now owner (AreClosedTo c.args.code.now owner c.args.places.now 0) c.args.row.now found (λ k low. absurd (omega (arith, low)));
}

pub visit-rose-requires-clause-place : goal.visit-rose-requires-clause-place
visit-rose-requires-clause-place c = c.requires.inside (get_or c.args.places.now c.places.place-index 0) (Contains-get_or c.args.places.now c.places.place-index 0 c.places-test.true)

pub places-preserved : goal.places-preserved
places-preserved c = record {
  count = c.visit-rose.ensures.count;
  small = c.visit-rose.ensures.small;
  course = λ owner found.
      passing_more c.args.code.now owner c.args.places.now c.places.place-index c.args.row.now c.places.row c.visit-rose.new.row c.places.rose c.visit-rose.result
      (c.places.invariant.course owner found) (c.visit-rose.ensures.course owner (c.places.invariant.course owner found).found);
}

pub returns-clause-course : goal.returns-clause-course
returns-clause-course c owner found =
    passing_all c.args.code.now owner c.args.places.now c.places.place-index c.args.row.now c.places.row c.places.rose c.places-test.false (c.places.invariant.course owner found)
