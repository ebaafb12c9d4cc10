-- What is left of the proof of `text::add_looks`.
use Rattle.psy_feed.specs.Arrows.{look_arrows}
use Rattle.psy_feed.specs.Drawing.{arrow_text}
use Rattle.psy_feed.proofs.lemmas.Ranges.{text_more}
use Rattle.psy_feed.proofs.text.add_looks.Goals as goal

pub variables-preserved : goal.variables-preserved
variables-preserved c =
    let unit = c.args.unit.now in
    text_more (arrow_text unit) (look_arrows unit) c.args.out.now.items c.variables.out.items c.add_arrows.new.out.items c.variables.variable
    c.variables.invariant c.in_ok-add_arrows.ensures
