-- What each loop of `resume::owned_before` keeps.
use Rattle.std.proofs.Common.{◌≡◌, ◌≤◌, length, take}
use Rattle.psy_meaning.specs.Alike.{owned_from}
use Rattle.psy_dates.proofs.resume.owned_before.Given as goal

abbrev pub invariant-variables : goal.invariant-variables
invariant-variables l = record {
  few : l.count ≤ l.place;
  number : l.count ≡ length (owned_from l.agent 0 (take l.place l.variables));
}
