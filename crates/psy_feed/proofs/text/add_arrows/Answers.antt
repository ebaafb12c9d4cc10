-- What is left of the proof of `text::add_arrows`.
use Rattle.psy_feed.specs.Arrows.{arrow_at}
use Rattle.psy_feed.specs.Drawing.{arrow_text}
use Rattle.psy_feed.proofs.lemmas.Ranges.{text_more}
use Rattle.psy_feed.proofs.text.add_arrows.Goals as goal

pub agents-preserved : goal.agents-preserved
agents-preserved c =
    let unit = c.args.unit.now in
    text_more (arrow_text unit) (arrow_at unit c.args.carried) c.args.out.now.items c.agents.out.items c.add_arrow.new.out.items c.agents.agent
    c.agents.invariant c.in_ok-add_arrow.ensures
