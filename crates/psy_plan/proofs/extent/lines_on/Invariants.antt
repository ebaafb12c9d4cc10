-- What each loop of `extent::lines_on` keeps.
use Rattle.std.proofs.Common.{◌≡◌, ◌==◌, get_or, if◌then◌else◌, map}
use Rattle.std.specs.List.{range_with_len}
use Rattle.psy_rate.specs.Lines.{no_line}
use Rattle.psy_plan.proofs.extent.lines_on.Given as goal

abbrev pub invariant-agents : goal.invariant-agents
invariant-agents l = record {
  list : l.list ≡ map (λ agent. if get_or l.homes agent 0 == l.processor then get_or l.lines agent no_line else no_line) (range_with_len 0 l.agent);
}
