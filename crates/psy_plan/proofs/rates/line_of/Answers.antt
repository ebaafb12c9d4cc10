-- What is left of the proof of `rates::line_of`.
use Rattle.std.proofs.Common.{subst}
use Rattle.psy_rate.specs.Lines.{IsRateOf}
use Rattle.psy_plan.proofs.rates.line_of.Goals as goal

pub returns-in-Ok : goal.returns-in-Ok
returns-in-Ok c = record {
  its = subst (λ edges. IsRateOf edges c.in-Ok.line) c.as_slice.ensures c.in-Ok.ensures.line;
  rate = c.in-Ok.ensures.rate;
  intercept = c.in-Ok.ensures.intercept;
}
