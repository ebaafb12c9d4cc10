-- What each loop of `cut::back_within` keeps.
use Rattle.std.proofs.Common.{◌≡◌, ◌≤◌, length}
use Rattle.psy_show.specs.Cutting.{back_within}
use Rattle.psy_show.proofs.Within.{back_from}
use Rattle.psy_show.proofs.cut.back_within.Given as goal

abbrev pub invariant-each : goal.invariant-each
invariant-each l = record {
  within : l.start ≤ length l.chars;
  back : back_from l.room l.chars l.start ≡ back_within l.most l.chars;
}

abbrev pub decreases-each : goal.decreases-each
decreases-each l = l.start
