-- What each loop of `tally::settle` keeps.
use Rattle.std.proofs.Common.{◌≡◌, ◌-◌, ◌<◌, Bool, List, length}
use Rattle.psy_log.specs.declared.note.Note.{Note}
use Rattle.psy_assert.specs.Tallies.{IsSettling, IsSummed}
use Rattle.psy_assert.proofs.tally.settle.Given as goal

-- The sums so far have what is newest before their cuts
abbrev pub invariant-loop-at : goal.invariant-loop-at
invariant-loop-at l = record {
  some : 0 < l.at;
  size : length l.sums ≡ length l.cuts;
  sums : (by_value : Bool) (notes : List Note) → IsSummed by_value l.cuts notes l.initial.sums → IsSettling by_value l.cuts notes l.at l.sums;
}

abbrev pub decreases-loop-at : goal.decreases-loop-at
decreases-loop-at l = length l.sums - l.at
