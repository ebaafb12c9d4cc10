-- What is left of the proof of `laws::bounded`.
use Rattle.psy_run.proofs.Accepting.{answering_bounded}
use Rattle.psy_run.proofs.PlanLemmas.{each_apart}
use Rattle.psy_run.proofs.SomeWays.{some_ways}
use Rattle.psy_run.proofs.laws.bounded.Goals as goal

pub returns : goal.returns
returns c words files = answering_bounded (record {
  of_text = c.programs.ensures;
  short = c.short.ensures;
  alike = λ unit is. c.alike.ensures unit (c.sound.ensures.unit is.text.0 unit is.text.1);
  timing = c.one_graph.ensures.timing;
  apart = each_apart c.one_of_them.ensures.few c.one_of_them.ensures.homes;
  inputs = c.lawful.ensures.inputs;
  script = c.lawful.ensures.script;
  keeps = c.bounds.ensures;
  met = c.supplies.ensures;
  sound = λ bytes it spelled. (let its = c.images.ensures bytes it spelled in (its.bare, its.inits));
  fits = c.fits_by.ensures;
  keeps_by = c.bounds_by.ensures;
  ways = some_ways (record {
    looking = c.looking.ensures;
    looks = c.named.ensures.looks;
    some = c.sends.ensures.some;
    one = c.sends.ensures.one;
    sends = c.named.ensures.sends;
    within = c.nexts.ensures.within;
  });
  fits_text = c.fits.ensures;
  graphs = c.one_graph.ensures.by_nexts;
  states = c.sound-2.ensures;
  keeps_behind = c.bounds_behind.ensures;
}) words files
