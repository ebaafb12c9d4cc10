-- What is left of the proof of `texts::write_edges`.
use Rattle.std.proofs.Common.{◌∙◌, arith}
use Rattle.std.proofs.lemmas.List.{length-map}
use Rattle.psy_base.specs.declared.edge.Edge.{Edge}
use Rattle.psy_log.specs.Forms.{edge_line}
use Rattle.psy_run.specs.Texts.{edge_lines}
use Rattle.psy_run.proofs.CutLemmas.{cut_line, grew_line, grew_lines}
use Rattle.psy_run.proofs.TextLemmas.{mapped_at}
use Rattle.psy_run.proofs.texts.write_edges.Goals as goal

pub returns-in-Err-clause-wrote : goal.returns-in-Err-clause-wrote
returns-in-Err-clause-wrote g c =
    let edges = c.args.edges.now in
    let i = c.edges.edge-index in
    cut_line (edge_lines edges) _ _ _ i _ (mapped_at (λ (e : Edge). edge_line e.from e.to e.len) edges i _ c.edges-test.true) c.edges.invariant.grew _ c.in-Err.ensures.wrote

pub edges-preserved : goal.edges-preserved
edges-preserved g c =
    let edges = c.args.edges.now in
    let i = c.edges.edge-index in
    record {
      unfailed = c.in_default.ensures.unfailed ∙ c.edges.invariant.unfailed;
      grew = grew_line (edge_lines edges) _ _ _ i _ (mapped_at (λ (e : Edge). edge_line e.from e.to e.len) edges i _ c.edges-test.true) c.edges.invariant.grew c.in_default.ensures.wrote;
    }

pub returns-clause-wrote : goal.returns-clause-wrote
returns-clause-wrote g c =
    let edges = c.args.edges.now in
    grew_lines (edge_lines edges) _ _ c.edges.edge-index (omega (arith, c.edges-test.false, length-map edges (λ (e : Edge). edge_line e.from e.to e.len))) c.edges.invariant.grew
