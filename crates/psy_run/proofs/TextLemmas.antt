-- Texts and lines item by item: so far, with one item more, and with what is behind.
use Rattle.std.proofs.Common.{◌≡◌, ◌∙◌, sym, ap, refl, ℕ, zero, suc, ◌+◌, ◌<◌, ◌≤◌, min, List, [], ◌∷◌, ◌++◌, append_assoc, append-nil, flat_map, map, take, drop, length, get_or, slice_get, Some, arith}
use Rattle.std.proofs.lemmas.Grind.{flat_map-append}
use Rattle.std.proofs.lemmas.List.{take_more, take-append-drop}
use Rattle.psy_tree.specs.declared.unit.AgentDecl.{AgentDecl}
use Rattle.psy_graph.specs.declared.graph.Graph.{Graph}
use Rattle.psy_graph.specs.declared.graph.Node.{Node}
use Rattle.psy_run.specs.Texts.{agent_lines, graph_lines, line_of_node, node_lines, paired_lines}

-- ---- texts of the items of one list

pub items_more : {X : Type 0} (text : X → List ℕ) (xs : List X) (i : ℕ) (x : X) → i < length xs → flat_map text (take (i + 1) xs) ≡ flat_map text (take i xs) ++ text (get_or xs i x)
items_more text xs i x less =
    ap (flat_map text) (take_more xs i x less) ∙ flat_map-append text (take i xs) (get_or xs i x ∷ []) ∙ ap (λ last. flat_map text (take i xs) ++ last) (append-nil (text (get_or xs i x)))

pub items_split : {X : Type 0} (text : X → List ℕ) (xs : List X) (n : ℕ) → flat_map text xs ≡ flat_map text (take n xs) ++ flat_map text (drop n xs)
items_split text xs n = ap (flat_map text) (sym (take-append-drop n xs)) ∙ flat_map-append text (take n xs) (drop n xs)

-- ---- what is declared, with what was found of it

module _ {X Y : Type 0} (line : X → Y → List ℕ) where
  paired_at : (xs : List X) (ys : List Y) (i : ℕ) (x : X) (y : Y) → i < length xs → i < length ys → slice_get (paired_lines line xs ys) i ≡ Some (line (get_or xs i x) (get_or ys i y))
  paired_at [] ys i x y less less' = absurd (omega (arith, less))
  paired_at (z ∷ xs) [] i x y less less' = absurd (omega (arith, less'))
  paired_at (z ∷ xs) (w ∷ ys) zero x y less less' = refl
  paired_at (z ∷ xs) (w ∷ ys) (suc i) x y less less' = paired_at xs ys i x y (omega (arith, less)) (omega (arith, less'))

  pub paired_length : (xs : List X) (ys : List Y) → length (paired_lines line xs ys) ≤ min (length xs) (length ys)
  paired_length [] ys = omega arith
  paired_length (z ∷ xs) [] = omega arith
  paired_length (z ∷ xs) (w ∷ ys) = omega (arith, paired_length xs ys)

-- The line that is written under a name is that of what has the name.
pub named_at : {X Y : Type 0} (name : X → List ℕ) (line : List ℕ → Y → List ℕ) (xs : List X) (ys : List Y) (i : ℕ) (x : X) (y : Y) (written : List ℕ) → i < min (length xs) (length ys) → written ≡ name x → x ≡ get_or xs i x
    → slice_get (paired_lines (λ x. line (name x)) xs ys) i ≡ Some (line written (get_or ys i y))
named_at name line xs ys i x y written less named is =
    paired_at (λ x. line (name x)) xs ys i x y (omega (arith, less)) (omega (arith, less)) ∙ ap (λ own. Some (line own (get_or ys i y))) (sym (named ∙ ap name is))

-- ---- nodes, which are numbered

node_from : (costs : List ℕ) (number : ℕ) (nodes : List Node) (i : ℕ) (node : Node) → i < length nodes → slice_get (node_lines costs number nodes) i ≡ Some (line_of_node costs (number + i) (get_or nodes i node))
node_from costs number [] i node less = absurd (omega (arith, less))
node_from costs number (n ∷ nodes) zero node less = ap (λ k. Some (line_of_node costs k n)) (omega arith)
node_from costs number (n ∷ nodes) (suc i) node less =
    let on : number + 1 + i ≡ number + suc i = omega arith in
    node_from costs (number + 1) nodes i node (omega (arith, less)) ∙ ap (λ k. Some (line_of_node costs k (get_or nodes i node))) on

pub node_at : (costs : List ℕ) (nodes : List Node) (i : ℕ) (node : Node) → i < length nodes → slice_get (node_lines costs 0 nodes) i ≡ Some (line_of_node costs i (get_or nodes i node))
node_at costs nodes i node less =
    let first : 0 + i ≡ i = omega arith in
    node_from costs 0 nodes i node less ∙ ap (λ k. Some (line_of_node costs k (get_or nodes i node))) first

pub node_length : (costs : List ℕ) (number : ℕ) (nodes : List Node) → length (node_lines costs number nodes) ≡ length nodes
node_length costs number [] = refl
node_length costs number (n ∷ nodes) = omega (arith, node_length costs (number + 1) nodes)

-- ---- edges

pub mapped_at : {X : Type 0} (line : X → List ℕ) (xs : List X) (i : ℕ) (x : X) → i < length xs → slice_get (map line xs) i ≡ Some (line (get_or xs i x))
mapped_at line [] i x less = absurd (omega (arith, less))
mapped_at line (y ∷ xs) zero x less = refl
mapped_at line (y ∷ xs) (suc i) x less = mapped_at line xs i x (omega (arith, less))

-- ---- agents, with graphs and costs

agents_next : (agents : List AgentDecl) (graphs : List Graph) (costs : List (List ℕ)) (i : ℕ) (agent : AgentDecl) (graph : Graph) (list : List ℕ)
    → i < length agents → i < length graphs → i < length costs
    → graph_lines (take (suc i) agents) (take (suc i) graphs) (take (suc i) costs)
    ≡ graph_lines (take i agents) (take i graphs) (take i costs) ++ agent_lines (get_or agents i agent) (get_or graphs i graph) (get_or costs i list)
agents_next [] graphs costs i agent graph list less less' less'' = absurd (omega (arith, less))
agents_next (a ∷ ms) [] costs i agent graph list less less' less'' = absurd (omega (arith, less'))
agents_next (a ∷ ms) (g ∷ gs) [] i agent graph list less less' less'' = absurd (omega (arith, less''))
agents_next (a ∷ ms) (g ∷ gs) (l ∷ ls) zero agent graph list less less' less'' = append-nil (agent_lines a g l)
agents_next (a ∷ ms) (g ∷ gs) (l ∷ ls) (suc i) agent graph list less less' less'' =
    ap (λ rest. agent_lines a g l ++ rest) (agents_next ms gs ls i agent graph list (omega (arith, less)) (omega (arith, less')) (omega (arith, less'')))
    ∙ sym (append_assoc (agent_lines a g l) (graph_lines (take i ms) (take i gs) (take i ls)) (agent_lines (get_or ms i agent) (get_or gs i graph) (get_or ls i list)))

pub agents_more : (agents : List AgentDecl) (graphs : List Graph) (costs : List (List ℕ)) (i : ℕ) (agent : AgentDecl) (graph : Graph) (list : List ℕ)
    → i < length agents → i < length graphs → i < length costs
    → graph_lines (take (i + 1) agents) (take (i + 1) graphs) (take (i + 1) costs)
    ≡ graph_lines (take i agents) (take i graphs) (take i costs) ++ agent_lines (get_or agents i agent) (get_or graphs i graph) (get_or costs i list)
agents_more agents graphs costs i agent graph list less less' less'' =
    let on : i + 1 ≡ suc i = omega arith in
    ap (λ n. graph_lines (take n agents) (take n graphs) (take n costs)) on ∙ agents_next agents graphs costs i agent graph list less less' less''

no_graphs : (agents : List AgentDecl) (costs : List (List ℕ)) → graph_lines agents [] costs ≡ []
no_graphs [] costs = refl
no_graphs (a ∷ ms) costs = refl

no_costs : (agents : List AgentDecl) (graphs : List Graph) → graph_lines agents graphs [] ≡ []
no_costs [] graphs = refl
no_costs (a ∷ ms) [] = refl
no_costs (a ∷ ms) (g ∷ gs) = refl

pub agents_split : (agents : List AgentDecl) (graphs : List Graph) (costs : List (List ℕ)) (n : ℕ)
    → graph_lines agents graphs costs ≡ graph_lines (take n agents) (take n graphs) (take n costs) ++ graph_lines (drop n agents) (drop n graphs) (drop n costs)
agents_split agents graphs costs zero = refl
agents_split [] graphs costs (suc n) = refl
agents_split (a ∷ ms) [] costs (suc n) = sym (no_graphs (drop n ms) (drop (suc n) costs))
agents_split (a ∷ ms) (g ∷ gs) [] (suc n) = sym (no_costs (drop n ms) (drop n gs))
agents_split (a ∷ ms) (g ∷ gs) (l ∷ ls) (suc n) =
    ap (λ rest. agent_lines a g l ++ rest) (agents_split ms gs ls n) ∙ sym (append_assoc (agent_lines a g l) (graph_lines (take n ms) (take n gs) (take n ls)) (graph_lines (drop n ms) (drop n gs) (drop n ls)))

-- The text of as many as the shortest list has is the whole
pub agents_all : (agents : List AgentDecl) (graphs : List Graph) (costs : List (List ℕ)) (n : ℕ) → n ≡ min (min (length agents) (length graphs)) (length costs)
    → graph_lines (take n agents) (take n graphs) (take n costs) ≡ graph_lines agents graphs costs
agents_all [] graphs costs zero is = refl
agents_all [] graphs costs (suc n) is = refl
agents_all (a ∷ ms) [] costs zero is = refl
agents_all (a ∷ ms) [] costs (suc n) is = refl
agents_all (a ∷ ms) (g ∷ gs) [] zero is = refl
agents_all (a ∷ ms) (g ∷ gs) [] (suc n) is = refl
agents_all (a ∷ ms) (g ∷ gs) (l ∷ ls) zero is = absurd (omega (arith, is))
agents_all (a ∷ ms) (g ∷ gs) (l ∷ ls) (suc n) is = ap (λ rest. agent_lines a g l ++ rest) (agents_all ms gs ls n (omega (arith, is)))
