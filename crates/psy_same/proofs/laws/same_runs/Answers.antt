-- What is left of the proof of `laws::same_runs`.
use Rattle.std.proofs.Common.{refl}
use Rattle.psy_image.specs.Answers.{emptied}
use Rattle.psy_same.proofs.Executions.{answers}
use Rattle.psy_same.proofs.laws.same_runs.Goals as goal

pub returns : goal.returns
returns c files ran executed program image until inputs script unit status other text another run exec compiled silent imaged first second =
    c.one_answer.ensures.same ran files status other text another first
    (answers (record {
      of_text = c.programs.ensures;
      image = c.one_image.ensures.image;
      not_bad = c.one_image.ensures.not_both;
      verified = c.verified.ensures;
      emptied_too = λ unit code. c.alike-3.ensures unit (emptied unit) code refl refl refl;
      no_fault = c.rules.ensures.none;
      acts = λ unit is. c.alike.ensures unit (c.sound.ensures.unit is.text.0 unit is.text.1);
      ways = c.same_ways.ensures;
      paths = c.same_paths.ensures;
      mosts = c.sends.ensures.some;
      graphs = c.one_graph.ensures.by_nexts;
      causes = c.one_graph.ensures.causes_by_nexts;
      sizes = c.listed_sizes.ensures.sizes;
      counted = c.listed_sizes.ensures.counted;
      faults = c.listed_sizes.ensures.faults;
      supplied = c.supplies.ensures;
      inputs = c.lawful.ensures.inputs;
      histories = λ unit code nexts stalls inputs compiled are. record {
        lines = c.alike-2.ensures.lines unit code nexts stalls inputs compiled are;
        counts = c.alike-2.ensures.counts unit code nexts stalls inputs compiled are;
        slacks = c.alike-2.ensures.slacks unit code nexts stalls inputs compiled are;
        held = c.alike-2.ensures.held unit code nexts stalls inputs compiled are;
        reaches = c.alike-2.ensures.reaches unit code nexts stalls inputs compiled are;
      };
    }) files program image until inputs script unit compiled silent imaged ran executed run exec other another second)
