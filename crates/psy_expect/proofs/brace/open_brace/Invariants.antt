-- What each loop of `brace::open_brace` keeps.
use Rattle.std.proofs.Common.{◌≡◌, ◌+◌, ◌≤◌, length, drop, None}
use Rattle.psy_expect.specs.Braces.{closed_before, open_brace}
use Rattle.psy_expect.proofs.brace.open_brace.Given as goal

abbrev pub invariant-back : goal.invariant-back
invariant-back l = record {
  within : l.at ≤ length l.front;
  closed : l.closed ≡ closed_before (drop l.at l.front);
  few : l.closed + l.at ≤ length l.front;
  none : open_brace (drop l.at l.front) ≡ None;
}

abbrev pub decreases-back : goal.decreases-back
decreases-back l = l.at
