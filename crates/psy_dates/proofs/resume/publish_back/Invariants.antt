-- What each loop of `resume::publish_back` keeps.
use Rattle.std.proofs.Common.{◌≡◌, ◌≤◌, ◌++◌, drop, length, take}
use Rattle.psy_dates.proofs.resume.publish_back.Given as goal

abbrev pub invariant-values : goal.invariant-values
invariant-values l = record {
  within : l.place ≤ length l.values;
  holds : l.ring ≡ take (length l.fn.ring) (drop l.place l.values ++ l.fn.ring);
}

abbrev pub decreases-values : goal.decreases-values
decreases-values l = l.place
