-- What is left of the proof of `laws::read`.
use Rattle.psy_legal.proofs.LineBounds.{read_run}
use Rattle.psy_legal.proofs.laws.read.Goals as goal

pub returns : goal.returns
returns c plan inputs script is are its short few = read_run (record {
  runs = record {
    well = c.fitting.ensures;
    lawful = c.regular.ensures.lawful;
    runs = c.regular.ensures.runs;
    homes = c.one_of_them.ensures.one;
    counted = record { upto = c.dates.ensures.count; below = c.dates.ensures.below };
    due = c.on_time.ensures.due;
    earlier = c.on_time.ensures.earlier;
    look = c.ring_sizes.ensures.look;
  };
  sends = c.regular.ensures.sends;
  few_homes = c.one_of_them.ensures.few;
  near = c.distances.ensures.near;
}) plan inputs script is are its short few
