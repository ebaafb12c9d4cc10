-- What each loop of `quests::Quest::count` keeps.
use Rattle.std.proofs.Common.{◌≡◌, ◌≤◌, take}
use Rattle.std.specs.Prelude.{count_by}
use Rattle.psy_flow.specs.Quests.{is_counted_at}
use Rattle.psy_flow.proofs.quests.Quest.count.Given as goal

abbrev pub invariant-places : goal.invariant-places
invariant-places l = record {
  count : l.count ≡ count_by (is_counted_at l.instrs l.self) (take l.place-index l.places);
  few : l.count ≤ l.place-index;
}
