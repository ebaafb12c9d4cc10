-- The notes of agents' graphs. Their lines are the text of what is drawn.
use Rattle.std.proofs.Common.{◌≡◌, refl, sym, ap, subst, ◌∙◌, ℕ, suc, ◌+◌, ◌-◌, ◌<◌, ◌≤◌, ◌==◌, ◌&&◌, List, [], ◌∷◌, ◌++◌, length, map, flat_map, get_or, Some, arith}
use Rattle.std.specs.Prelude.{nat_le, nat_lt, ⊤}
use Rattle.std.specs.List.{AllByRecursion}
use Rattle.std.proofs.lemmas.Bool.{and_from, eq-eqb, le-leb, lt-ltb}
use Rattle.std.proofs.lemmas.Grind.{flat_map-append}
use Rattle.std.proofs.lemmas.List.{length-map}
use Rattle.psy_base.specs.declared.edge.Edge.{Edge}
use Rattle.psy_base.specs.declared.limits.TheConstants.{AGENTS, EDGES, NODES}
use Rattle.psy_text.specs.Fronts.{IsName}
use Rattle.psy_graph.specs.declared.graph.Graph.{Graph}
use Rattle.psy_graph.specs.declared.graph.Node.{Node}
use Rattle.psy_log.specs.Forms.{line_of}
use Rattle.psy_log.specs.declared.note.Note.{Note}
use Rattle.psy_log.specs.declared.note.Note.TheVariants as note
use Rattle.psy_notes.specs.declared.stand.Stand.TheVariants as stand
use Rattle.psy_notes.specs.Notes.{IsLong, IsShort}
use Rattle.psy_notes.specs.Stands.{graph_begins}
use Rattle.psy_notes.specs.Texts.{IsText, text_of}
use Rattle.psy_tree.specs.declared.unit.AgentDecl.{AgentDecl}
use Rattle.psy_kernel.specs.Texts.{text_of as lines_text}
use Rattle.psy_run.specs.Texts as drawn
use Rattle.psy_agree.proofs.GraphsLead.{AreNodeLines, IsEdgeLine, IsGraphLines, IsHead, IsNodeLine, graphs_read}
use Rattle.psy_agree.proofs.RunNotes.{named}
use Rattle.psy_agree.proofs.RunsLead.{where_true}

-- ---- notes

abbrev node_note : List ℕ → ℕ → Node → Note
node_note costs number node = note.Node number node.point node.phase node.budget (get_or costs node.point 0) node.due

-- Those of nodes that are numbered from here on
abbrev node_notes : List ℕ → ℕ → List Node → List Note
node_notes costs number [] = []
node_notes costs number (node ∷ nodes) = node_note costs number node ∷ node_notes costs (number + 1) nodes

abbrev edge_note : Edge → Note
edge_note edge = note.EdgeOf edge.from edge.to edge.len

abbrev head_note : AgentDecl → Graph → Note
head_note agent graph = note.AgentGraph (named agent.name) (length graph.nodes) (length graph.edges)

-- Those of an agent
abbrev agent_notes : AgentDecl → Graph → List ℕ → List Note
agent_notes agent graph costs = head_note agent graph ∷ (node_notes costs 0 graph.nodes ++ map edge_note graph.edges)

-- Those of all agents, by agent
abbrev graph_notes : List AgentDecl → List Graph → List (List ℕ) → List (List Note)
graph_notes (agent ∷ agents) (graph ∷ graphs) (list ∷ costs) = agent_notes agent graph list ∷ graph_notes agents graphs costs
graph_notes _ _ _ = []

-- ---- their lines

nodes_same : (costs : List ℕ) (number : ℕ) (nodes : List Node) → text_of (node_notes costs number nodes) ≡ lines_text (drawn.node_lines costs number nodes)
nodes_same costs number [] = refl
nodes_same costs number (node ∷ nodes) = ap (λ rest. line_of (node_note costs number node) ++ rest) (nodes_same costs (number + 1) nodes)

edges_same : (edges : List Edge) → text_of (map edge_note edges) ≡ lines_text (drawn.edge_lines edges)
edges_same [] = refl
edges_same (edge ∷ edges) = ap (λ rest. line_of (edge_note edge) ++ rest) (edges_same edges)

agent_same : (agent : AgentDecl) (graph : Graph) (costs : List ℕ) → text_of (agent_notes agent graph costs) ≡ lines_text (drawn.agent_lines agent graph costs)
agent_same agent graph costs =
    ap (λ rest. line_of (head_note agent graph) ++ rest)
    (flat_map-append line_of (node_notes costs 0 graph.nodes) (map edge_note graph.edges) ∙ (λ i. nodes_same costs 0 graph.nodes i ++ edges_same graph.edges i)
    ∙ sym (flat_map-append (λ line. line) (drawn.node_lines costs 0 graph.nodes) (drawn.edge_lines graph.edges)))

graphs_same : (agents : List AgentDecl) (graphs : List Graph) (costs : List (List ℕ)) → text_of (flat_map (λ notes. notes) (graph_notes agents graphs costs)) ≡ drawn.graph_text agents graphs costs
graphs_same (agent ∷ agents) (graph ∷ graphs) (list ∷ costs) =
    flat_map-append line_of (agent_notes agent graph list) (flat_map (λ notes. notes) (graph_notes agents graphs costs))
    ∙ (λ i. agent_same agent graph list i ++ graphs_same agents graphs costs i)
    ∙ sym (flat_map-append (λ line. line) (drawn.agent_lines agent graph list) (drawn.graph_lines agents graphs costs))
graphs_same [] graphs costs = refl
graphs_same (agent ∷ agents) [] costs = refl
graphs_same (agent ∷ agents) (graph ∷ graphs) [] = refl

-- ---- what they need

-- The numbers of a node and of an edge have the bits of their places
abbrev pub IsTellableNode : Node → Type 0
IsTellableNode node = IsShort node.point × IsLong node.phase × IsShort node.budget × IsLong node.due

abbrev pub IsTellableEdge : ℕ → Edge → Type 0
IsTellableEdge nodes edge = (edge.from < nodes) × (edge.to < nodes) × IsLong edge.len

-- A graph keeps the limits, and its numbers have the bits of their places, as the costs have.
pub record IsTellableGraph (graph : Graph) (costs : List ℕ) : Type 0 where
  pub few_nodes : length graph.nodes ≤ NODES
  pub few_edges : length graph.edges ≤ EDGES
  pub nodes : AllByRecursion IsTellableNode graph.nodes
  pub edges : AllByRecursion (IsTellableEdge (length graph.nodes)) graph.edges
  pub worst : (point : ℕ) → IsLong (get_or costs point 0)

-- So do all graphs, and the agents' names are words.
abbrev pub AreTellableGraphs : List AgentDecl → List Graph → List (List ℕ) → Type 0
AreTellableGraphs (agent ∷ agents) (graph ∷ graphs) (list ∷ costs) = IsName agent.name × IsTellableGraph graph list × AreTellableGraphs agents graphs costs
AreTellableGraphs _ _ _ = ⊤

-- ---- an agent

module _ (graph : Graph) (costs : List ℕ) (its : IsTellableGraph graph costs) where
  node_line : (number : ℕ) (node : Node) → number < NODES → IsTellableNode node → IsNodeLine number (node_note costs number node)
  node_line number node few told = (
    (omega (arith, few), (told.0, (told.1, (told.2, (its.worst node.point, (told.3, tt)))))),
    λ agents nodes edges less. where_true (number == number && nat_lt number nodes) (stand.Graphs agents nodes (number + 1) edges) (and_from (number == number) (nat_lt number nodes) (eq-eqb number number refl) (lt-ltb number nodes less)),
  )

  node_lines : (number : ℕ) (nodes : List Node) → number + length nodes ≤ NODES → AllByRecursion IsTellableNode nodes → AreNodeLines number (node_notes costs number nodes)
  node_lines number [] few told = tt
  node_lines number (node ∷ nodes) few told = (node_line number node (omega (arith, few)) told.0, node_lines (number + 1) nodes (omega (arith, few)) told.1)

edge_line : (nodes : ℕ) (edge : Edge) → nodes ≤ NODES → IsTellableEdge nodes edge → IsEdgeLine nodes (edge_note edge)
edge_line nodes edge few told = (
  let from = told.0 in
      let into = told.1 in
      (omega (arith, from, few), (omega (arith, into, few), (told.2, tt))),
  λ agents edges. (
      let less : suc edges - 1 ≡ edges = omega arith in
      where_true ((nodes == nodes && nat_lt 0 (suc edges)) && (nat_lt edge.from nodes && nat_lt edge.to nodes)) (stand.Graphs agents nodes nodes (suc edges - 1))
      (and_from (nodes == nodes && nat_lt 0 (suc edges)) (nat_lt edge.from nodes && nat_lt edge.to nodes) (and_from (nodes == nodes) (nat_lt 0 (suc edges)) (eq-eqb nodes nodes refl) (lt-ltb 0 (suc edges) (omega arith)))
      (and_from (nat_lt edge.from nodes) (nat_lt edge.to nodes) (lt-ltb edge.from nodes told.0) (lt-ltb edge.to nodes told.1)))
      ∙ ap (λ n. Some (stand.Graphs agents nodes nodes n)) less),
)

edge_lines : (nodes : ℕ) (edges : List Edge) → nodes ≤ NODES → AllByRecursion (IsTellableEdge nodes) edges → AllByRecursion (IsEdgeLine nodes) (map edge_note edges)
edge_lines nodes [] few told = tt
edge_lines nodes (edge ∷ edges) few told = (edge_line nodes edge few told.0, edge_lines nodes edges few told.1)

head_line : (agent : AgentDecl) (graph : Graph) → IsName agent.name → length graph.nodes ≤ NODES → length graph.edges ≤ EDGES → IsHead (length graph.nodes) (length graph.edges) (head_note agent graph)
head_line agent graph named few_nodes few_edges =
    let nodes = length graph.nodes in
    let edges = length graph.edges in (
      (named, (omega (arith, few_nodes), (omega (arith, few_edges), tt))),
      λ agents told less. where_true ((told == told && 0 == 0) && (nat_lt agents AGENTS && (nat_le nodes NODES && nat_le edges EDGES))) (stand.Graphs (agents + 1) nodes 0 edges)
          (and_from (told == told && 0 == 0) (nat_lt agents AGENTS && (nat_le nodes NODES && nat_le edges EDGES)) (and_from (told == told) (0 == 0) (eq-eqb told told refl) refl)
          (and_from (nat_lt agents AGENTS) (nat_le nodes NODES && nat_le edges EDGES) (lt-ltb agents AGENTS less) (and_from (nat_le nodes NODES) (nat_le edges EDGES) (le-leb nodes NODES few_nodes) (le-leb edges EDGES few_edges)))),
    )

length_nodes : (costs : List ℕ) (number : ℕ) (nodes : List Node) → length (node_notes costs number nodes) ≡ length nodes
length_nodes costs number [] = refl
length_nodes costs number (node ∷ nodes) = ap suc (length_nodes costs (number + 1) nodes)

agent_lines : (agent : AgentDecl) (graph : Graph) (costs : List ℕ) → IsName agent.name → IsTellableGraph graph costs → IsGraphLines (agent_notes agent graph costs)
agent_lines agent graph costs named its =
    let nodes = sym (length_nodes costs 0 graph.nodes) in
    record {
      head = head_note agent graph;
      nodes = node_notes costs 0 graph.nodes;
      edges = map edge_note graph.edges;
      whole = refl;
      is_head = subst (λ n. IsHead n (length (map edge_note graph.edges)) (head_note agent graph)) nodes
          (subst (λ n. IsHead (length graph.nodes) n (head_note agent graph)) (sym (length-map graph.edges edge_note)) (head_line agent graph named its.few_nodes its.few_edges));
      are_nodes = node_lines graph costs its 0 graph.nodes (omega (arith, its.few_nodes)) its.nodes;
      are_edges = subst (λ n. AllByRecursion (IsEdgeLine n) (map edge_note graph.edges)) nodes (edge_lines (length graph.nodes) graph.edges its.few_nodes its.edges);
    }

-- ---- all agents

all_lines : (agents : List AgentDecl) (graphs : List Graph) (costs : List (List ℕ)) → AreTellableGraphs agents graphs costs → AllByRecursion IsGraphLines (graph_notes agents graphs costs)
all_lines (agent ∷ agents) (graph ∷ graphs) (list ∷ costs) told = (agent_lines agent graph list told.0 told.1, all_lines agents graphs costs told.2)
all_lines [] graphs costs told = tt
all_lines (agent ∷ agents) [] costs told = tt
all_lines (agent ∷ agents) (graph ∷ graphs) [] told = tt

few_lines : (agents : List AgentDecl) (graphs : List Graph) (costs : List (List ℕ)) → length (graph_notes agents graphs costs) ≤ length agents
few_lines (agent ∷ agents) (graph ∷ graphs) (list ∷ costs) = omega (arith, few_lines agents graphs costs)
few_lines [] graphs costs = omega arith
few_lines (agent ∷ agents) [] costs = omega arith
few_lines (agent ∷ agents) (graph ∷ graphs) [] = omega arith

-- What is drawn is read
pub graphs_are_read : (agents : List AgentDecl) (graphs : List Graph) (costs : List (List ℕ)) → length agents ≤ AGENTS → AreTellableGraphs agents graphs costs
    → (notes : List Note) × IsText graph_begins (drawn.graph_text agents graphs costs) notes
graphs_are_read agents graphs costs few told =
    let all = graph_notes agents graphs costs in
    let notes = flat_map (λ notes. notes) all in
    (notes, subst (λ text. IsText graph_begins text notes) (graphs_same agents graphs costs) (graphs_read all (omega (arith, few, few_lines agents graphs costs)) (all_lines agents graphs costs told)))
