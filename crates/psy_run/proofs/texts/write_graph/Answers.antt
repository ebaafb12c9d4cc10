-- What is left of the proof of `texts::write_graph`.
use Rattle.psy_run.specs.Texts.{graph_lines}
use Rattle.psy_run.proofs.CutLemmas.{wrote_cut, wrote_text}
use Rattle.psy_run.proofs.texts.write_graph.Goals as goal

pub returns-clause-written : goal.returns-clause-written
returns-clause-written g c = wrote_text _ _ c.write_graph_lines.result (graph_lines c.args.unit.now.agents c.args.graphs.now c.args.costs.now) c.write_graph_lines.ensures.wrote

pub returns-clause-cut : goal.returns-clause-cut
returns-clause-cut g c = wrote_cut _ _ c.write_graph_lines.result (graph_lines c.args.unit.now.agents c.args.graphs.now c.args.costs.now) c.write_graph_lines.ensures.wrote
