-- What each loop of `text::add_agent` keeps.
use Rattle.std.proofs.Common.{◌≡◌, ◌++◌}
use Rattle.psy_listing.specs.Listing.{point_text}
use Rattle.psy_feed.proofs.lemmas.Ranges.{lines_below}
use Rattle.psy_listing.proofs.text.add_agent.Given as goal

abbrev pub invariant-points : goal.invariant-points
invariant-points l = l.out.items ≡ l.fn.out.items ++ lines_below (point_text l.listed.unit.now l.listed.code.now l.listed.lines.now l.agent) l.point
