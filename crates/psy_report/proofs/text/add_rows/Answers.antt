-- What is left of the proof of `text::add_rows`.
use Rattle.psy_report.specs.Reports.{row_text}
use Rattle.psy_feed.proofs.lemmas.Ranges.{line_more}
use Rattle.psy_report.proofs.text.add_rows.Goals as goal

pub numbers-preserved : goal.numbers-preserved
numbers-preserved c =
    line_more (row_text c.args.known.unit.now c.args.known.measures.now c.args.row) c.args.out.now.items c.numbers.out.items c.add_row.new.out.items
    c.numbers.number c.numbers.invariant c.in_ok-add_row.ensures
