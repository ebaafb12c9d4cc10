-- What each loop of `text::add_looks` keeps.
use Rattle.std.proofs.Common.{◌≡◌, ◌++◌}
use Rattle.psy_feed.specs.Arrows.{look_arrows}
use Rattle.psy_feed.specs.Drawing.{arrow_text}
use Rattle.psy_feed.proofs.lemmas.Ranges.{text_below}
use Rattle.psy_feed.proofs.text.add_looks.Given as goal

abbrev pub invariant-variables : goal.invariant-variables
invariant-variables l = l.out.items ≡ l.fn.out.items ++ text_below (arrow_text l.unit) (look_arrows l.unit) l.variable
