-- What each loop of `dates::keep_overs` keeps.
use Rattle.std.proofs.Common.{◌≡◌, ◌++◌}
use Rattle.std.specs.List.{flat_map, range_with_len}
use Rattle.psy_collect.specs.Keeping.{over_in}
use Rattle.psy_collect.proofs.dates.keep_overs.Given as goal

abbrev pub invariant-agents : goal.invariant-agents
invariant-agents l = l.acts ≡ l.fn.acts ++ flat_map (over_in l.last l.seats l.date) (range_with_len 0 l.agent)
