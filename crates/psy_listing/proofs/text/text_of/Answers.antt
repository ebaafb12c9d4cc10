-- What is left of the proof of `text::text_of`.
use Rattle.std.proofs.Common.{[]}
use Rattle.psy_listing.specs.Listing.{agent_text}
use Rattle.psy_feed.proofs.lemmas.Ranges.{line_more}
use Rattle.psy_listing.proofs.text.text_of.Goals as goal

pub agents-preserved : goal.agents-preserved
agents-preserved c =
    let listed = c.args.listed in
    line_more (agent_text listed.unit.now listed.code.now listed.lines.now) [] c.agents.out.items c.add_agent.new.out.items c.agents.agent
    c.agents.invariant c.in_ok-add_agent.ensures
