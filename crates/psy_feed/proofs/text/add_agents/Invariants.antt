-- What each loop of `text::add_agents` keeps.
use Rattle.std.proofs.Common.{◌≡◌, ◌++◌, drop, flat_map}
use Rattle.psy_feed.specs.Drawing.{agent_text}
use Rattle.psy_feed.proofs.text.add_agents.Given as goal

-- What was written goes on to the whole text.
abbrev pub invariant-agents : goal.invariant-agents
invariant-agents l = l.out.items ++ flat_map agent_text (drop l.agent-index l.agents) ≡ l.fn.out.items ++ flat_map agent_text l.agents
