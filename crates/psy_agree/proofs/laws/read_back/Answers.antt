-- What is left of the proof of `laws::read_back`.
use Rattle.psy_agree.proofs.Given.{AreLaws, answer_read}
use Rattle.psy_agree.proofs.laws.read_back.Goals as goal

laws_of : goal.After-one_reading → AreLaws
laws_of c = record {
  of_text = c.programs.ensures;
  supplies = c.supplies.ensures;
  short = c.short.ensures;
  edges = c.one_graph.ensures.edges;
  near = c.one_graph.ensures.near;
  published_fit = c.values.ensures.published;
  messages_fit = c.values.ensures.messages;
  inputs = c.lawful.ensures.inputs;
  bounded = c.bounded.ensures;
  not_both = c.one_reading.ensures.not_both;
}

pub returns : goal.returns
returns c = answer_read (laws_of c)
