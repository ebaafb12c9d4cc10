-- What is left of the proof of `tally::add_all`.
use Rattle.std.proofs.Common.{sym, subst, arith, take}
use Rattle.std.proofs.lemmas.List.{take_more, length-take}
use Rattle.psy_assert.specs.Tallies.{IsSummed}
use Rattle.psy_assert.proofs.tally.add_all.Goals as goal

pub loop-note-preserved : goal.loop-note-preserved
loop-note-preserved c = record {
  place = omega (arith, c.loop-note.invariant.place);
  sums =
      subst (λ ns. IsSummed c.args.by_value c.args.cuts.now ns c.add.new.sums) (sym (take_more c.args.notes.now c.loop-note.note-index _ c.loop-note-test.true))
      (c.add.ensures (take c.loop-note.note-index c.args.notes.now)
      (omega (arith, c.loop-note.invariant.place, length-take c.loop-note.note-index c.args.notes.now, c.loop-note-test.true)) c.loop-note.invariant.sums);
}
