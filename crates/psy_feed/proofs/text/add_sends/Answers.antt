-- What is left of the proof of `text::add_sends`.
use Rattle.psy_feed.specs.Arrows.{send_arrows}
use Rattle.psy_feed.specs.Drawing.{arrow_text}
use Rattle.psy_feed.proofs.lemmas.Ranges.{text_more}
use Rattle.psy_feed.proofs.text.add_sends.Goals as goal

pub streams-preserved : goal.streams-preserved
streams-preserved c =
    let unit = c.args.unit.now in
    text_more (arrow_text unit) (send_arrows unit) c.args.out.now.items c.streams.out.items c.add_arrows.new.out.items c.streams.stream
    c.streams.invariant c.in_ok-add_arrows.ensures
