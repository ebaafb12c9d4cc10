-- What is left of the proof of `laws::taken_up`.
use Rattle.psy_run.specs.Services.{Ran}
use Rattle.psy_same.proofs.SomeWays.{some_ways}
use Rattle.psy_same.proofs.TakenUp.{run_goes_on}
use Rattle.psy_same.proofs.laws.taken_up.Goals as goal

pub returns : goal.returns
returns c files ran saved resumed program state date until inputs script unit nexts sizes lists said for_run for_save for_resume late gives answers =
    run_goes_on (record {
      of_text = c.programs.ensures;
      program = c.one_plan.ensures.program;
      inputs = c.lawful.ensures.inputs;
      script = c.lawful.ensures.script;
      plans = record {
        met = c.supplies.ensures;
        acts = λ unit is. c.alike.ensures unit (c.sound.ensures.unit is.text.0 unit is.text.1);
        timing = c.one_graph.ensures.timing;
        few = c.one_of_them.ensures.few;
        apart = c.one_of_them.ensures.homes;
        ways = some_ways (record {
          looking = c.looking.ensures;
          looks = c.named.ensures.looks;
          some = c.sends.ensures.some;
          one = c.sends.ensures.one;
          sends = c.named.ensures.sends;
          within = c.nexts.ensures.within;
        });
        fits = c.fits.ensures;
        nexts = c.one_list.ensures.nexts;
        sizes = c.one_size.ensures.same;
        graphs = c.one_graph.ensures.by_nexts;
      };
      states = record {
        like = c.alike-2.ensures.actions;
        left = c.alike_behind.ensures.left;
        first = c.first_values.ensures;
        kept = c.kept.ensures;
      };
      whole = c.joined.ensures;
    }) files program state date until inputs script late saved resumed for_save for_resume ran for_run (Ran unit nexts sizes until lists said) gives answers
