-- What each loop of `text::text_of` keeps.
use Rattle.std.proofs.Common.{◌≡◌}
use Rattle.psy_listing.specs.Listing.{agent_text}
use Rattle.psy_feed.proofs.lemmas.Ranges.{lines_below}
use Rattle.psy_listing.proofs.text.text_of.Given as goal

abbrev pub invariant-agents : goal.invariant-agents
invariant-agents l = l.out.items ≡ lines_below (agent_text l.listed.unit.now l.listed.code.now l.listed.lines.now) l.agent
