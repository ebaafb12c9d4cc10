-- What each loop of `readings::most_to` keeps.
use Rattle.std.proofs.Common.{◌≡◌, drop}
use Rattle.psy_meaning.specs.KnownWays.{most_in}
use Rattle.psy_sizes.proofs.readings.most_to.Given as goal

abbrev pub invariant-ways : goal.invariant-ways
invariant-ways l = most_in l.sends l.to l.stream ≡ most_in (drop l.way-index l.sends) l.to l.stream
