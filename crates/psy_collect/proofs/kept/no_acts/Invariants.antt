-- What each loop of `kept::no_acts` keeps.
use Rattle.std.proofs.Common.{◌≡◌, map, None}
use Rattle.std.specs.List.{range_with_len}
use Rattle.psy_collect.proofs.kept.no_acts.Given as goal

abbrev pub invariant-agents : goal.invariant-agents
invariant-agents l = l.acts ≡ map (λ n. None) (range_with_len 0 l.agent)
