-- What is left of the proof of `text::report`.
use Rattle.std.proofs.Common.{subst₂, sym}
use Rattle.psy_report.specs.Tightness.{AreTightest}
use Rattle.psy_report.proofs.text.report.Goals as goal

pub returns-in-Ok-clause-report : goal.returns-in-Ok-clause-report
returns-in-Ok-clause-report c = record {
  measures = c.in_ok-measures.measures;
  measured = c.in_ok-measures.ensures.measures;
  tightest = c.as_slice-2.result.now;
  tight = subst₂ (λ lists lengths. AreTightest c.args.unit.now lists c.args.until lengths) c.as_slice.ensures (sym c.as_slice-2.ensures)
      c.in_ok-tightest.ensures.tightest;
  told = c.in-Ok.ensures;
}
