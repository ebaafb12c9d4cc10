-- What each loop of `look::values_of` keeps.
use Rattle.std.proofs.Common.{◌≡◌, ◌≤◌, length}
use Rattle.psy_meaning.specs.Alike.{AllFit}
use Rattle.psy_trials.proofs.look.values_of.Given as goal

abbrev pub invariant-loop-back : goal.invariant-loop-back
invariant-loop-back l = record { within : l.back ≤ l.count; count : length l.values ≡ l.back; fit : AllFit l.values }
