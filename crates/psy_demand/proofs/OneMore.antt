-- The demand on a processor as agent after agent is taken in.
use Rattle.std.proofs.Common.{◌≡◌, ◌∙◌, ℕ, ◌+◌, ◌*◌, ◌<◌, ◌≤◌, ◌==◌, Bool, true, false, List, [], ◌∷◌, ◌++◌, All, map, length, get_or, slice_index, refl, sym, ap, subst, subst₂, le-mul_of_pos_right, mul_comm, arith}
use Rattle.std.specs.List.{range_with_len}
use Rattle.std.proofs.lemmas.List.{get_or-map, map-append}
use Rattle.std.proofs.lemmas.List.Elements.{All-contains}
use Rattle.psy_lists.proofs.lemmas.Ranges.{range_more}
use Rattle.psy_base.specs.declared.edge.Edge.{Edge}
use Rattle.psy_base.specs.declared.limits.TheConstants.{BUDGET, WINDOW_CELLS}
use Rattle.psy_base.specs.Paths.{DueBy, FitsDueLast, IsGreatestWeight, IsPath, IsPathFrom, weight_of}
use Rattle.psy_graph.specs.declared.graph.Graph.{Graph}
use Rattle.psy_meaning.specs.Demand.{IsDemand}
use Rattle.psy_window.specs.Windows.{IsEdge}
use Rattle.psy_demand.specs.Criterion.{AreWeights, HasCells, IsDrawn, edges_of}
use Rattle.psy_demand.specs.Sums.{HasTakenIn, first_edges, own_edges}

-- ---- one agent

-- A path that is due by a time has at most one edge for each tick until then.
path_due : (nodes : ℕ) (graph : List Edge) (by start node : ℕ) (e : Edge) (path : List Edge) → All (IsEdge nodes) graph → IsPathFrom graph node (e ∷ path) → DueBy by start (e ∷ path)
    → weight_of (e ∷ path) + BUDGET * start ≤ BUDGET * by
path_due nodes graph by start node e [] edges is due =
    let edge = All-contains (IsEdge nodes) graph e edges is.0 in
    omega (arith, edge.weight, edge.after, due)
path_due nodes graph by start node e (f ∷ path) edges is due =
    let edge = All-contains (IsEdge nodes) graph e edges is.0 in
    let rest = path_due nodes graph by (start + e.len) e.to f path edges is.2 due in
    omega (arith, edge.weight, edge.after, edge.due, rest)

-- So the demand of an agent is small where its table keeps its limit.
pub weight_small : (graph : Graph) (top within weight : ℕ) → IsDrawn graph → HasCells top graph → within < top + 1 → IsGreatestWeight graph.edges (FitsDueLast within) weight
    → weight ≤ BUDGET * WINDOW_CELLS
weight_small graph top within weight drawn cells below is = subst (λ w. w ≤ BUDGET * WINDOW_CELLS) is.one.3 (by is.one.0 is.one.1 is.one.2)
  where
    by : (path : List Edge) → IsPath graph.edges path → FitsDueLast within path → weight_of path ≤ BUDGET * WINDOW_CELLS
    by [] is fits = omega arith
    by (e ∷ path) is fits =
        let edge = All-contains (IsEdge (length graph.nodes)) graph.edges e drawn is.1.0 in
        let due = path_due (length graph.nodes) graph.edges within 0 is.0 e path drawn is.1 fits in
        let some : top + 1 ≤ (top + 1) * length graph.nodes = le-mul_of_pos_right (top + 1) (omega (arith, edge.from)) in
        omega (arith, due, some, mul_comm (top + 1) (length graph.nodes), cells, below)

-- Without edges the empty path alone is one.
pub greatest_none : (within : ℕ) → IsGreatestWeight [] (FitsDueLast within) 0
greatest_none within = record { one = ([], (0, tt), tt, refl); most = none }
  where
    none : (path : List Edge) → IsPath [] path → FitsDueLast within path → weight_of path ≤ 0
    none [] is fits = omega arith
    none (e ∷ path) is fits = absurd (omega (arith, is.1.0.1))

-- The sums take in its demand where it is the processor's own.
pub taken_own : (graph : Graph) (own : Bool) (top : ℕ) (row before sums : List ℕ) → own ≡ true → IsDrawn graph → HasCells top graph → AreWeights top graph row → length before ≡ top + 1 → length sums ≡ length before
    → ((at : ℕ) → at < length before → slice_index sums at ≡ slice_index before at + slice_index row at) → HasTakenIn graph own top before sums
taken_own graph own top row before sums is drawn cells weights long count added = record {
  count = count;
  grown = λ within below. (
    slice_index row within,
    subst (λ b. IsGreatestWeight (own_edges b graph.edges) (FitsDueLast within) (slice_index row within)) (sym is) (weights.greatest within below),
    weight_small graph top within (slice_index row within) drawn cells below (weights.greatest within below),
    added within (omega (arith, below, long)),
  );
}

-- They stay as they are where it isn't.
pub taken_none : (graph : Graph) (own : Bool) (top : ℕ) (sums : List ℕ) → own ≡ false → HasTakenIn graph own top sums sums
taken_none graph own top sums is = record {
  count = refl;
  grown = λ within below. (0, subst (λ b. IsGreatestWeight (own_edges b graph.edges) (FitsDueLast within) 0) (sym is) (greatest_none within), omega arith, omega arith);
}

-- ---- one agent more

-- Behind others, one more adds its own demand.
demand_more : (graphs : List (List Edge)) (edges : List Edge) (within demand weight : ℕ) → IsDemand graphs within demand → IsGreatestWeight edges (FitsDueLast within) weight
    → IsDemand (graphs ++ edges ∷ []) within (demand + weight)
demand_more [] edges within demand weight is its = (weight, 0, its, refl, omega (arith, is))
demand_more (graph ∷ rest) edges within demand weight is its =
    (is.0, is.1 + weight, is.2, demand_more rest edges within is.1 weight is.3 its, omega (arith, is.4))

first_more : (homes : List ℕ) (processor : ℕ) (graphs : List (List Edge)) (agent : ℕ)
    → first_edges homes processor graphs (agent + 1) ≡ first_edges homes processor graphs agent ++ own_edges (get_or homes agent 0 == processor) (get_or graphs agent []) ∷ []
first_more homes processor graphs agent =
    let own = λ (a : ℕ). own_edges (get_or homes a 0 == processor) (get_or graphs a []) in
    ap (map own) (range_more agent) ∙ map-append own (range_with_len 0 agent) (agent ∷ [])

pub taken_in : (homes : List ℕ) (processor : ℕ) (graphs : List (List Edge)) (agent within demand sum weight : ℕ) → IsDemand (first_edges homes processor graphs agent) within demand
    → IsGreatestWeight (own_edges (get_or homes agent 0 == processor) (get_or graphs agent [])) (FitsDueLast within) weight → sum ≡ demand + weight
    → IsDemand (first_edges homes processor graphs (agent + 1)) within sum
taken_in homes processor graphs agent within demand sum weight is its same =
    subst₂ (λ gs n. IsDemand gs within n) (sym (first_more homes processor graphs agent)) (sym same)
    (demand_more (first_edges homes processor graphs agent) (own_edges (get_or homes agent 0 == processor) (get_or graphs agent [])) within demand weight is its)

-- The edges of an agent's graph
pub edges_there : (graphs : List Graph) (agent : ℕ) (graph : Graph) → agent < length graphs → graph ≡ get_or graphs agent graph → graph.edges ≡ get_or (edges_of graphs) agent []
edges_there graphs agent graph less is = ap (λ g. g.edges) is ∙ sym (get_or-map (λ g. g.edges) graphs agent graph [] less)
