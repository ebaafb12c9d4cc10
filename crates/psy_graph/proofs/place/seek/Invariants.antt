-- What each loop of `place::seek` keeps.
use Rattle.std.proofs.Common.{ℕ, ◌-◌, ◌<◌, ◌≤◌, length, slice_index_or}
use Rattle.psy_graph.specs.declared.place.Place.{Place}
use Rattle.psy_graph.specs.Places.{Before}
use Rattle.psy_graph.proofs.place.seek.Given as goal

abbrev pub invariant-halving : goal.invariant-halving
invariant-halving l = record {
  low : l.low ≤ l.high;
  high : l.high ≤ length l.places;
  below : (i : ℕ) (d : Place) → i < l.low → Before (slice_index_or l.places i d) l.place;
  above : (i : ℕ) (d : Place) → l.high ≤ i → i < length l.places → Before (slice_index_or l.places i d) l.place → ⊥;
}

abbrev pub decreases-halving : goal.decreases-halving
decreases-halving l = l.high - l.low
