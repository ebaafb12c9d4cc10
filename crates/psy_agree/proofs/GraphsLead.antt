-- Notes in a row: those of agents' graphs lead from the beginning of what is drawn to where its text may end.
use Rattle.std.proofs.Common.{◌≡◌, refl, sym, ap, subst, ℕ, suc, ◌+◌, ◌<◌, ◌≤◌, ◌==◌, List, [], ◌∷◌, ◌++◌, length, flat_map, Some, arith}
use Rattle.std.specs.Prelude.{IsTrue, ⊤}
use Rattle.std.specs.List.{AllByRecursion}
use Rattle.std.proofs.lemmas.Bool.{and_from, eq-eqb}
use Rattle.psy_base.specs.declared.limits.TheConstants.{AGENTS}
use Rattle.psy_log.specs.declared.note.Note.{Note}
use Rattle.psy_notes.specs.declared.stand.Stand.{Stand}
use Rattle.psy_notes.specs.declared.stand.Stand.TheVariants as stand
use Rattle.psy_notes.specs.Notes.{IsTold}
use Rattle.psy_notes.specs.Stands.{next_stand, may_end, graph_begins}
use Rattle.psy_notes.specs.Texts.{Leads, text_of, IsText}
use Rattle.psy_agree.proofs.RunsLead.{Leads-append}

-- The note of an edge in a graph of so many nodes
abbrev pub IsEdgeLine : ℕ → Note → Type 0
IsEdgeLine nodes note = IsTold note × ((agents edges : ℕ) → next_stand (stand.Graphs agents nodes nodes (suc edges)) note ≡ Some (stand.Graphs agents nodes nodes edges))

-- The note of a node with this number
abbrev pub IsNodeLine : ℕ → Note → Type 0
IsNodeLine number note = IsTold note × ((agents nodes edges : ℕ) → number < nodes → next_stand (stand.Graphs agents nodes number edges) note ≡ Some (stand.Graphs agents nodes (number + 1) edges))

-- Those of nodes that are numbered from here on
abbrev pub AreNodeLines : ℕ → List Note → Type 0
AreNodeLines number [] = ⊤
AreNodeLines number (note ∷ notes) = IsNodeLine number note × AreNodeLines (number + 1) notes

-- The note of an agent whose graph has so many nodes and edges
abbrev pub IsHead : ℕ → ℕ → Note → Type 0
IsHead nodes edges note = IsTold note × ((agents told : ℕ) → agents < AGENTS → next_stand (stand.Graphs agents told told 0) note ≡ Some (stand.Graphs (agents + 1) nodes 0 edges))

-- The notes of an agent's graph
pub record IsGraphLines (notes : List Note) : Type 0 where
  pub head : Note
  pub nodes : List Note
  pub edges : List Note
  pub whole : notes ≡ head ∷ (nodes ++ edges)
  pub is_head : IsHead (length nodes) (length edges) head
  pub are_nodes : AreNodeLines 0 nodes
  pub are_edges : AllByRecursion (IsEdgeLine (length nodes)) edges

edges_lead : (agents nodes : ℕ) (notes : List Note) → AllByRecursion (IsEdgeLine nodes) notes → Leads (stand.Graphs agents nodes nodes (length notes)) notes (stand.Graphs agents nodes nodes 0)
edges_lead agents nodes [] are = refl
edges_lead agents nodes (note ∷ notes) are = (stand.Graphs agents nodes nodes (length notes), (are.0.0, are.0.1 agents (length notes)), edges_lead agents nodes notes are.1)

nodes_lead : (agents nodes number edges : ℕ) (notes : List Note) → number + length notes ≡ nodes → AreNodeLines number notes → Leads (stand.Graphs agents nodes number edges) notes (stand.Graphs agents nodes nodes edges)
nodes_lead agents nodes number edges [] all are = let here : number ≡ nodes = omega (arith, all) in ap (λ n. stand.Graphs agents nodes n edges) here
nodes_lead agents nodes number edges (note ∷ notes) all are =
    let rest = nodes_lead agents nodes (number + 1) edges notes (omega (arith, all)) are.1 in
    (stand.Graphs agents nodes (number + 1) edges, (are.0.0, are.0.1 agents nodes edges (omega (arith, all))), rest)

-- An agent's graph, behind whole ones
graph_leads : (agents told : ℕ) (notes : List Note) → agents < AGENTS → (are : IsGraphLines notes) → Leads (stand.Graphs agents told told 0) notes (stand.Graphs (agents + 1) (length are.nodes) (length are.nodes) 0)
graph_leads agents told notes few are =
    let nodes = length are.nodes in
    let edges = length are.edges in
    let behind = Leads-append (stand.Graphs (agents + 1) nodes 0 edges) (stand.Graphs (agents + 1) nodes nodes edges) (stand.Graphs (agents + 1) nodes nodes 0) are.nodes are.edges
    (nodes_lead (agents + 1) nodes 0 edges are.nodes (omega arith) are.are_nodes) (edges_lead (agents + 1) nodes are.edges are.are_edges) in
    subst (λ ns. Leads (stand.Graphs agents told told 0) ns (stand.Graphs (agents + 1) nodes nodes 0)) (sym are.whole)
    (stand.Graphs (agents + 1) nodes 0 edges, (are.is_head.0, are.is_head.1 agents told few), behind)

all_told : (told : ℕ) → IsTrue (told == told)
all_told told = eq-eqb told told refl

-- The graphs of agents, behind so many others
pub graphs_lead : (agents told : ℕ) (graphs : List (List Note)) → agents + length graphs ≤ AGENTS → AllByRecursion IsGraphLines graphs
    → (to : Stand) × IsTrue (may_end to) × Leads (stand.Graphs agents told told 0) (flat_map (λ notes. notes) graphs) to
graphs_lead agents told [] few are = (stand.Graphs agents told told 0, and_from _ _ (all_told told) refl, refl)
graphs_lead agents told (notes ∷ graphs) few are =
    let nodes = length are.0.nodes in
    let rest = graphs_lead (agents + 1) nodes graphs (omega (arith, few)) are.1 in (
      rest.0,
      rest.1,
      Leads-append (stand.Graphs agents told told 0) (stand.Graphs (agents + 1) nodes nodes 0) rest.0 notes (flat_map (λ notes. notes) graphs)
          (graph_leads agents told notes (omega (arith, few)) are.0) rest.2,
    )

-- The text of agents' graphs is one of notes
pub graphs_read : (graphs : List (List Note)) → length graphs ≤ AGENTS → AllByRecursion IsGraphLines graphs → IsText graph_begins (text_of (flat_map (λ notes. notes) graphs)) (flat_map (λ notes. notes) graphs)
graphs_read graphs few are =
    let (to, ends, leads) = graphs_lead 0 0 graphs (omega (arith, few)) are in
    record { last = to; leads = leads; ends = ends; whole = refl }
