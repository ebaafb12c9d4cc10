-- What each loop of `text::add_arrows` keeps.
use Rattle.std.proofs.Common.{◌≡◌, ◌++◌}
use Rattle.psy_feed.specs.Arrows.{arrow_at}
use Rattle.psy_feed.specs.Drawing.{arrow_text}
use Rattle.psy_feed.proofs.lemmas.Ranges.{text_below}
use Rattle.psy_feed.proofs.text.add_arrows.Given as goal

abbrev pub invariant-agents : goal.invariant-agents
invariant-agents l = l.out.items ≡ l.fn.out.items ++ text_below (arrow_text l.unit) (arrow_at l.unit l.carried) l.agent
