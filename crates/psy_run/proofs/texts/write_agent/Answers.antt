-- What is left of the proof of `texts::write_agent`.
use Rattle.std.proofs.Common.{◌≡◌, ◌++◌, ◌∷◌, [], List, ℕ, subst, length}
use Rattle.psy_door.specs.Growth.{Grew}
use Rattle.psy_kernel.specs.Texts.{text_of}
use Rattle.psy_log.specs.Forms.{agent_graph_line}
use Rattle.psy_run.specs.Cuts.{IsCutAt, Wrote}
use Rattle.psy_run.specs.Texts.{edge_lines, node_lines}
use Rattle.psy_run.proofs.CutLemmas.{cut_before, cut_behind, wrote_behind}
use Rattle.psy_run.proofs.texts.write_agent.Goals as goal

-- An agent's first line, by what it counts
line_is : {name other : List ℕ} {n m e f : ℕ} → name ≡ other → n ≡ m → e ≡ f → ◌≡◌ {A = List (List ℕ)} (agent_graph_line name n e ∷ []) (agent_graph_line other m f ∷ [])
line_is p q r = λ i. agent_graph_line (p i) (q i) (r i) ∷ []

pub returns-in-Err-clause-wrote : goal.returns-in-Err-clause-wrote
returns-in-Err-clause-wrote g c =
    let agent = c.args.agent.now in
    let graph = c.args.graph.now in
    let first = agent_graph_line agent.name (length graph.nodes) (length graph.edges) ∷ [] in
    let cut = subst (λ ls. IsCutAt (g.S.Sink.held c.args.out.now) (g.S.Sink.held c.write_note.new.out) ls c.in-Err.fault.taken) (line_is c.bytes.ensures c.len.ensures c.len-2.ensures) c.in-Err.ensures.wrote in
    cut_before _ _ first (node_lines c.args.costs.now 0 graph.nodes ++ edge_lines graph.edges) _ cut

pub returns-in-Err-write_nodes-clause-wrote : goal.returns-in-Err-write_nodes-clause-wrote
returns-in-Err-write_nodes-clause-wrote g c =
    let agent = c.args.agent.now in
    let graph = c.args.graph.now in
    let costs = c.args.costs.now in
    let first = agent_graph_line agent.name (length graph.nodes) (length graph.edges) ∷ [] in
    let whole = subst (λ ls. Grew (g.S.Sink.held c.args.out.now) (g.S.Sink.held c.write_note.new.out) (text_of ls)) (line_is c.bytes.ensures c.len.ensures c.len-2.ensures) c.in_default.ensures.wrote in
    let cut = subst (λ ns. IsCutAt (g.S.Sink.held c.write_note.new.out) (g.S.Sink.held c.write_nodes.new.out) (node_lines costs 0 ns) c.in-Err-write_nodes.fault.taken) c.as_slice.ensures c.in-Err-write_nodes.ensures.wrote in
    cut_behind _ _ _ first _ _ whole (cut_before _ _ (node_lines costs 0 graph.nodes) (edge_lines graph.edges) _ cut)

pub returns-clause-wrote : goal.returns-clause-wrote
returns-clause-wrote g c =
    let agent = c.args.agent.now in
    let graph = c.args.graph.now in
    let costs = c.args.costs.now in
    let first = agent_graph_line agent.name (length graph.nodes) (length graph.edges) ∷ [] in
    let whole = subst (λ ls. Grew (g.S.Sink.held c.args.out.now) (g.S.Sink.held c.write_note.new.out) (text_of ls)) (line_is c.bytes.ensures c.len.ensures c.len-2.ensures) c.in_default.ensures.wrote in
    let nodes = subst (λ ns. Grew (g.S.Sink.held c.write_note.new.out) (g.S.Sink.held c.write_nodes.new.out) (text_of (node_lines costs 0 ns))) c.as_slice.ensures c.in_default-write_nodes.ensures.wrote in
    let edges = subst (λ es. Wrote (g.S.Sink.held c.write_nodes.new.out) (g.S.Sink.held c.write_edges.new.out) c.write_edges.result (edge_lines es)) c.as_slice-2.ensures c.write_edges.ensures.wrote in
    wrote_behind _ _ _ _ first (node_lines costs 0 graph.nodes ++ edge_lines graph.edges) whole (wrote_behind _ _ _ _ (node_lines costs 0 graph.nodes) (edge_lines graph.edges) nodes edges)
