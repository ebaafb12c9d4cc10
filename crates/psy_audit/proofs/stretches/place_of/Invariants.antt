-- What each loop of `stretches::place_of` keeps.
use Rattle.std.proofs.Common.{◌-◌, ◌<◌, ◌≤◌, get_or, length}
use Rattle.psy_audit.specs.declared.said.Segment.{Segment}
use Rattle.psy_audit.proofs.stretches.place_of.Given as goal

-- The place is neither before the one nor behind the other.
abbrev pub invariant-halves : goal.invariant-halves
invariant-halves l = record {
  order : l.low ≤ l.high;
  within : l.high ≤ length l.list;
  before : (d : Segment) → 0 < l.low → (get_or l.list (l.low - 1) d).number < l.number;
  behind : (d : Segment) → l.high < length l.list → l.number ≤ (get_or l.list l.high d).number;
}

abbrev pub decreases-halves : goal.decreases-halves
decreases-halves l = l.high - l.low
