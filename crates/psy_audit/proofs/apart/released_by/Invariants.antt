-- What each loop of `apart::released_by` keeps.
use Rattle.std.proofs.Common.{◌-◌, ◌<◌, ◌≤◌, get_or, length}
use Rattle.psy_audit.specs.declared.waits.Wait.{Wait}
use Rattle.psy_audit.proofs.apart.released_by.Given as goal

-- The place is neither before the one nor behind the other.
abbrev pub invariant-halves : goal.invariant-halves
invariant-halves l = record {
  order : l.low ≤ l.high;
  within : l.high ≤ length l.list;
  before : (d : Wait) → 0 < l.low → (get_or l.list (l.low - 1) d).from ≤ l.cycle;
  behind : (d : Wait) → l.high < length l.list → l.cycle < (get_or l.list l.high d).from;
}

abbrev pub decreases-halves : goal.decreases-halves
decreases-halves l = l.high - l.low
