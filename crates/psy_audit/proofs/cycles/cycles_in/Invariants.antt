-- What each loop of `cycles::cycles_in` keeps.
use Rattle.std.proofs.Common.{◌≡◌, ◌-◌, ◌≤◌}
use Rattle.std.specs.List.{count_by, list_any, range_with_len}
use Rattle.psy_audit.specs.Courses.{has_cycle}
use Rattle.psy_audit.proofs.cycles.cycles_in.Given as goal

-- Those before this cycle are counted.
abbrev pub invariant-changes : goal.invariant-changes
invariant-changes l = record {
  within : l.cycle ≤ l.most;
  few : l.count ≤ l.cycle;
  counted : l.count ≡ count_by (λ cycle. list_any (has_cycle cycle) l.its) (range_with_len 0 l.cycle);
}

abbrev pub decreases-changes : goal.decreases-changes
decreases-changes l = l.most - l.cycle
