-- What each loop of `text::add_tightest` keeps.
use Rattle.std.proofs.Common.{◌≡◌, ◌++◌}
use Rattle.psy_report.specs.Reports.{tight_text}
use Rattle.psy_feed.proofs.lemmas.Ranges.{lines_below}
use Rattle.psy_report.proofs.text.add_tightest.Given as goal

abbrev pub invariant-processors : goal.invariant-processors
invariant-processors l = l.out.items ≡ l.fn.out.items ++ lines_below (tight_text l.known.unit.now l.known.measures.now l.tightest) l.processor
