-- What is left of the proof of `laws::by_ways`.
use Rattle.psy_plan.proofs.GivenWays.{one_supplying_by}
use Rattle.psy_plan.proofs.laws.by_ways.Goals as goal

pub returns : goal.returns
returns c = one_supplying_by (record {
  sizes = c.one_size_by.ensures.same;
  sizes_not_fault = c.one_size_by.ensures.apart;
  fault = c.one_size_by.ensures.cause;
  line = c.rates.ensures.one;
  horizon = c.horizons.ensures.only;
})
