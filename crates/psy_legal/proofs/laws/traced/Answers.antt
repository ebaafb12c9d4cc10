-- What is left of the proof of `laws::traced`.
use Rattle.psy_legal.proofs.PlanRuns.{legal_run}
use Rattle.psy_legal.proofs.laws.traced.Goals as goal

pub returns : goal.returns
returns c plan inputs script is are its = legal_run (record {
  well = c.fitting.ensures;
  lawful = c.regular.ensures.lawful;
  runs = c.regular.ensures.runs;
  homes = c.one_of_them.ensures.one;
  counted = record { upto = c.dates.ensures.count; below = c.dates.ensures.below };
  due = c.on_time.ensures.due;
  earlier = c.on_time.ensures.earlier;
  look = c.ring_sizes.ensures.look;
}) plan inputs script is are its
