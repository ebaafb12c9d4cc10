-- What each loop of `entry::+repeats` keeps.
use Rattle.std.proofs.Common.{length}
use Rattle.psy_script.proofs.entry.+repeats.Given as goal

abbrev pub decreases-repeats : goal.decreases-repeats
decreases-repeats g l = length l.items.now
