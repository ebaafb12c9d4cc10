-- What each loop of `explore::explore` keeps.
use Rattle.std.proofs.Common.{ℕ, ◌-◌, ◌<◌, ◌≤◌, length, get_or}
use Rattle.psy_base.specs.declared.limits.TheConstants.{NODES}
use Rattle.psy_graph.specs.declared.place.Place.{Place}
use Rattle.psy_graph.specs.Steps.{timing_by}
use Rattle.psy_graph.specs.Places.{AreFound, HasFollowers}
use Rattle.psy_graph.proofs.explore.explore.Given as goal

abbrev pub invariant-work : goal.invariant-work
invariant-work l = record {
  found : AreFound (timing_by l.times) l.found.work.items l.found.places.items;
  few : length l.found.places.items ≤ NODES;
  done : (i : ℕ) (d : Place) → i < l.at → i < length l.found.work.items → HasFollowers (timing_by l.times) l.found.places.items (get_or l.found.work.items i d);
  at : l.at ≤ length l.found.work.items;
}

abbrev pub decreases-work : goal.decreases-work
decreases-work l = NODES - l.at
