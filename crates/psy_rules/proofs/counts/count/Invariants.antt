-- What each loop of `counts::count` keeps.
use Rattle.std.proofs.Common.{◌≡◌, ◌≤◌, take}
use Rattle.std.specs.List.{count_by}
use Rattle.psy_rules.specs.Counted.{counts_as}
use Rattle.psy_rules.proofs.counts.count.Given as goal

abbrev pub invariant-loop-item : goal.invariant-loop-item
invariant-loop-item l = record {
  so_far : l.n ≡ count_by (counts_as l.what) (take l.item-index l.items);
  few : l.n ≤ l.item-index;
}
