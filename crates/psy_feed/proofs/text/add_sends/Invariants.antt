-- What each loop of `text::add_sends` keeps.
use Rattle.std.proofs.Common.{◌≡◌, ◌++◌}
use Rattle.psy_feed.specs.Arrows.{send_arrows}
use Rattle.psy_feed.specs.Drawing.{arrow_text}
use Rattle.psy_feed.proofs.lemmas.Ranges.{text_below}
use Rattle.psy_feed.proofs.text.add_sends.Given as goal

abbrev pub invariant-streams : goal.invariant-streams
invariant-streams l = l.out.items ≡ l.fn.out.items ++ text_below (arrow_text l.unit) (send_arrows l.unit) l.stream
