-- What each loop of `ends::end_acts` keeps.
use Rattle.std.proofs.Common.{◌≡◌, ◌++◌}
use Rattle.std.specs.List.{flat_map, range_with_len}
use Rattle.psy_collect.specs.Keeping.{end_in}
use Rattle.psy_collect.proofs.ends.end_acts.Given as goal

abbrev pub invariant-agents : goal.invariant-agents
invariant-agents l = l.acts ≡ l.fn.acts ++ flat_map (end_in l.last l.seats) (range_with_len 0 l.agent)
