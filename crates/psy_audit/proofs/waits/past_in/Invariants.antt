-- What each loop of `waits::past_in` keeps.
use Rattle.std.proofs.Common.{◌≡◌, drop, map, max}
use Rattle.psy_base.specs.Extremes.{most_of}
use Rattle.psy_audit.specs.Waits.{end_in, past_in}
use Rattle.psy_audit.proofs.waits.past_in.Given as goal

abbrev pub invariant-its : goal.invariant-its
invariant-its l = max l.past (most_of (map end_in (drop l.segment-index l.its))) ≡ past_in l.its
