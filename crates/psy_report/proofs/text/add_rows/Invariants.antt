-- What each loop of `text::add_rows` keeps.
use Rattle.std.proofs.Common.{◌≡◌, ◌++◌}
use Rattle.psy_report.specs.Reports.{row_text}
use Rattle.psy_feed.proofs.lemmas.Ranges.{lines_below}
use Rattle.psy_report.proofs.text.add_rows.Given as goal

abbrev pub invariant-numbers : goal.invariant-numbers
invariant-numbers l = l.out.items ≡ l.fn.out.items ++ lines_below (row_text l.known.unit.now l.known.measures.now l.row) l.number
