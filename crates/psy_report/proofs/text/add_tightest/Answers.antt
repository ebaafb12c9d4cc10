-- What is left of the proof of `text::add_tightest`.
use Rattle.psy_report.specs.Reports.{tight_text}
use Rattle.psy_feed.proofs.lemmas.Ranges.{line_more}
use Rattle.psy_report.proofs.text.add_tightest.Goals as goal

pub processors-preserved : goal.processors-preserved
processors-preserved c =
    line_more (tight_text c.args.known.unit.now c.args.known.measures.now c.args.tightest.now) c.args.out.now.items
    c.processors.out.items c.add_tight.new.out.items c.processors.processor c.processors.invariant c.in_ok-add_tight.ensures
