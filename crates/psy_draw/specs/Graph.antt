-- Action graphs in the language DOT of Graphviz: a cluster for each agent, in it a box for each node and an arrow for each edge.
use Rattle.std.specs.Prelude.{ℕ, List, [], ◌∷◌, ◌++◌, decimal, Option, None, Some, unwrap_or}
use Rattle.psy_log.specs.declared.note.Note.{Note}
use Rattle.psy_log.specs.declared.note.Note.TheVariants as note
use Rattle.psy_draw.specs.declared.graph.TheConstants.{CLUSTER, CLUSTER_END, EDGE, GRAPHS, GRAPHS_END, NODE}
use Rattle.psy_draw.specs.Homes.{on_processor}
use Rattle.psy_page.specs.Templates.{fill}

-- What closes the cluster of an agent, where there is one
abbrev pub closing : Option (List ℕ) → List ℕ
closing None = []
closing (Some agent) = CLUSTER_END.now

-- What opens an agent's cluster: it has the agent's name, and its processor, where one is told
abbrev pub opening : List ℕ → Option ℕ → List ℕ
opening agent processor = fill CLUSTER.now (agent ∷ agent ∷ on_processor processor ∷ [])

-- A node: its number, its point and its phase; its worst cost and its budget; how many ticks behind its start it is due
abbrev pub node_text : List ℕ → ℕ → ℕ → ℕ → ℕ → ℕ → ℕ → List ℕ
node_text agent number point phase budget worst due =
    fill NODE.now (agent ∷ decimal number ∷ decimal number ∷ decimal point ∷ decimal phase ∷ decimal worst ∷ decimal budget ∷ decimal due ∷ [])

-- An edge, and how many ticks lie between the starts of its ends
abbrev pub edge_text : List ℕ → ℕ → ℕ → ℕ → List ℕ
edge_text agent from to len = fill EDGE.now (agent ∷ decimal from ∷ agent ∷ decimal to ∷ decimal len ∷ [])

-- What notes draw within the cluster of an agent, and the clusters behind it; other notes than a graph's draw nothing
abbrev pub clusters : Option (List ℕ) → List Note → List ℕ
clusters agent [] = closing agent
clusters agent (note.AgentGraph next nodes edges ∷ notes) = closing agent ++ opening next.now None ++ clusters (Some next.now) notes
clusters agent (note.Node number point phase budget worst due ∷ notes) =
    node_text (unwrap_or agent []) number point phase budget worst due ++ clusters agent notes
clusters agent (note.EdgeOf from to len ∷ notes) = edge_text (unwrap_or agent []) from to len ++ clusters agent notes
clusters agent (_ ∷ notes) = clusters agent notes

-- The whole text
abbrev pub dot_of : List Note → List ℕ
dot_of notes = GRAPHS.now ++ clusters None notes ++ GRAPHS_END.now
