-- What each loop of `tally::add_all` keeps.
use Rattle.std.proofs.Common.{◌≡◌, take}
use Rattle.psy_assert.specs.Tallies.{IsSummed}
use Rattle.psy_assert.proofs.tally.add_all.Given as goal

-- The notes so far are summed up
abbrev pub invariant-loop-note : goal.invariant-loop-note
invariant-loop-note l = record {
  place : l.place ≡ l.note-index;
  sums : IsSummed l.by_value l.cuts (take l.note-index l.notes) l.sums;
}
