-- What each loop of `cut::front_within` keeps.
use Rattle.std.proofs.Common.{◌≡◌, ◌-◌, ◌++◌, ◌≤◌, length, take, drop}
use Rattle.psy_show.specs.Cutting.{front_within}
use Rattle.psy_show.proofs.cut.front_within.Given as goal

abbrev pub invariant-each : goal.invariant-each
invariant-each l = record {
  within : l.taken ≤ length l.chars;
  front : take l.taken l.chars ++ front_within l.room (drop l.taken l.chars) ≡ front_within l.most l.chars;
}

abbrev pub decreases-each : goal.decreases-each
decreases-each l = length l.chars - l.taken
