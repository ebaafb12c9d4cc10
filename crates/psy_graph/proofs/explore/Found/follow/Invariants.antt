-- What each loop of `explore::Found::follow` keeps.
use Rattle.std.proofs.Common.{ℕ, ◌<◌, ◌≤◌, length, get_or}
use Rattle.std.specs.List.{Contains}
use Rattle.psy_base.specs.declared.limits.TheConstants.{NODES}
use Rattle.psy_graph.specs.declared.place.Place.{Place}
use Rattle.psy_graph.specs.Steps.{timing_by}
use Rattle.psy_graph.specs.Places.{AreFound, IsFront, follower}
use Rattle.psy_graph.proofs.explore.Found.follow.Given as goal

abbrev pub invariant-next : goal.invariant-next
invariant-next l = record {
  found : AreFound (timing_by l.times) l.self.work.items l.self.places.items;
  few : length l.self.places.items ≤ NODES;
  front : IsFront l.fn.self.work.items l.self.work.items;
  grown : (p : Place) → Contains l.fn.self.places.items p → Contains l.self.places.items p;
  done : (d : Place) (k : ℕ) → k < l.to-index → Contains l.self.places.items (follower (timing_by l.times) (get_or l.fn.self.work.items l.at d) (get_or l.to-items k 0));
}
