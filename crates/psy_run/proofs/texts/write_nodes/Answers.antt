-- What is left of the proof of `texts::write_nodes`.
use Rattle.std.proofs.Common.{◌∙◌, arith}
use Rattle.psy_run.specs.Texts.{node_lines}
use Rattle.psy_run.proofs.CutLemmas.{cut_line, grew_line, grew_lines}
use Rattle.psy_run.proofs.TextLemmas.{node_at, node_length}
use Rattle.psy_run.proofs.texts.write_nodes.Goals as goal

pub returns-in-Err-clause-wrote : goal.returns-in-Err-clause-wrote
returns-in-Err-clause-wrote g c =
    let nodes = c.args.nodes.now in
    let costs = c.args.costs.now in
    let i = c.nodes.number in
    cut_line (node_lines costs 0 nodes) _ _ _ i _ (node_at costs nodes i _ c.nodes-test.true) c.nodes.invariant.grew _ c.in-Err.ensures.wrote

pub nodes-preserved : goal.nodes-preserved
nodes-preserved g c =
    let nodes = c.args.nodes.now in
    let costs = c.args.costs.now in
    let i = c.nodes.number in
    record {
      unfailed = c.in_default.ensures.unfailed ∙ c.nodes.invariant.unfailed;
      grew = grew_line (node_lines costs 0 nodes) _ _ _ i _ (node_at costs nodes i _ c.nodes-test.true) c.nodes.invariant.grew c.in_default.ensures.wrote;
    }

pub returns-clause-wrote : goal.returns-clause-wrote
returns-clause-wrote g c =
    let nodes = c.args.nodes.now in
    let costs = c.args.costs.now in
    grew_lines (node_lines costs 0 nodes) _ _ c.nodes.number (omega (arith, c.nodes-test.false, node_length costs 0 nodes)) c.nodes.invariant.grew
