-- What each loop of `text::add_temporals` keeps.
use Rattle.std.proofs.Common.{◌≡◌, ◌++◌, map, flat_map, take}
use Rattle.psy_make.specs.Text.{ended, temporal_line}
use Rattle.psy_make.proofs.text.add_temporals.Given as goal

-- The lines of the agents so far were added
abbrev pub invariant-loop-agent : goal.invariant-loop-agent
invariant-loop-agent l = l.text.items ≡ l.fn.text.items ++ flat_map ended (map temporal_line (take l.agent-index l.agents))
