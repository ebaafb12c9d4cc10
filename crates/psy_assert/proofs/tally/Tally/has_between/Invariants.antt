-- What each loop of `tally::Tally::has_between` keeps.
use Rattle.std.proofs.Common.{◌≡◌, ◌-◌, ◌≤◌, Bool, true, false, List}
use Rattle.std.specs.List.{list_any}
use Rattle.psy_log.specs.declared.note.Note.{Note}
use Rattle.psy_assert.specs.Sums.{is_by_ends}
use Rattle.psy_assert.specs.Tallies.{IsTally}
use Rattle.psy_assert.proofs.Between.{sought_between}
use Rattle.psy_assert.proofs.tally.Tally.has_between.Given as goal

-- Nothing that is looked for stands so far
abbrev pub invariant-loop-at : goal.invariant-loop-at
invariant-loop-at l = record {
  from : l.first ≤ l.at;
  none : (by_value : Bool) (notes : List Note) → IsTally by_value l.self notes → is_by_ends l.sought ≡ true → list_any (sought_between by_value l.self.cuts.items l.sought l.first l.at) notes ≡ false;
}

abbrev pub decreases-loop-at : goal.decreases-loop-at
decreases-loop-at l = l.last - l.at
