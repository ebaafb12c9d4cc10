-- What each loop of `text::add_steps` keeps.
use Rattle.std.proofs.Common.{◌≡◌, ◌++◌}
use Rattle.psy_listing.specs.Listing.{step_text}
use Rattle.psy_feed.proofs.lemmas.Ranges.{lines_below}
use Rattle.psy_listing.proofs.text.add_steps.Given as goal

abbrev pub invariant-steps : goal.invariant-steps
invariant-steps l = l.out.items ≡ l.fn.out.items ++ lines_below (step_text l.unit l.instrs l.places) l.number
