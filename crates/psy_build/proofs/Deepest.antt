-- How much an agent of a text's unit holds at most.
use Rattle.std.proofs.Common.{◌≡◌, ℕ, zero, suc, ◌+◌, ◌*◌, ◌≤◌, List, [], ◌∷◌, ◌++◌, map, length, Some, sym, ap, ◌∙◌, subst, arith}
use Rattle.std.specs.Prelude.{slice_get}
use Rattle.std.specs.List.{All}
use Rattle.psy_base.specs.declared.limits.TheConstants.{FUNCTIONS, NAMES}
use Rattle.psy_meaning.specs.Depths.{Depth, shallow, deeper, deepest, call_depth, call_depths_from, call_depths, agent_depth}
use Rattle.psy_meaning.specs.Sizes.{stmts_size, unit_size}
use Rattle.psy_meaning.specs.Units.{IsBareFunction, IsBare}
use Rattle.psy_tree.specs.declared.unit.AgentDecl.{AgentDecl}
use Rattle.psy_tree.specs.declared.unit.FunctionDecl.{FunctionDecl}
use Rattle.psy_tree.specs.declared.unit.Unit.{Unit as Whole}
use Rattle.psy_tree.specs.Paths.{total}
use Rattle.psy_build.proofs.Sizes.{Below, stmts_bounded, loops-le_size}

-- What a call holds at most, where those that it makes hold at most so much
abbrev with_call : Depth → FunctionDecl → Depth
with_call most f = record { operands = most.operands + (stmts_size f.stmts + 2); cells = most.cells + (stmts_size f.stmts + NAMES) }

-- What calls of these functions hold at most beside
abbrev with_calls : Depth → List FunctionDecl → Depth
with_calls most [] = most
with_calls most (f ∷ fs) = with_calls (with_call most f) fs

same : (a b : Depth) → a.operands ≡ b.operands → a.cells ≡ b.cells → a ≡ b
same a b p q = ap (λ n. depth n a.cells) p ∙ ap (depth b.operands) q
  where
    depth : ℕ → ℕ → Depth
    depth operands cells = record { operands = operands; cells = cells }

deepest-append : (ds : List Depth) (d : Depth) → deepest (ds ++ d ∷ []) ≡ deeper (deepest ds) d
deepest-append [] d = same (deeper d shallow) (deeper shallow d) (omega arith) (omega arith)
deepest-append (e ∷ ds) d =
    let before = deepest ds in
    ap (deeper e) (deepest-append ds d) ∙ same (deeper e (deeper before d)) (deeper (deeper e before) d) (omega arith) (omega arith)

call_below : (above : List Depth) (most : Depth) (f : FunctionDecl) → Below most (deepest above) → IsBareFunction f → Below (with_call most f) (call_depth above f)
call_below above most f b bare =
    let inside = stmts_bounded above most b f.stmts in
    let few = loops-le_size f.stmts in
    record { operands = omega (arith, inside.operands); cells = omega (arith, inside.cells, few, bare.slots) }

calls_below : (above : List Depth) (most : Depth) (fs : List FunctionDecl) → Below most (deepest above) → All IsBareFunction fs → Below (with_calls most fs) (deepest (call_depths_from above fs))
calls_below above most [] b bare = b
calls_below above most (f ∷ fs) b bare =
    let here = call_below above most f b (bare 0 f (omega arith)) in
    let more = subst (Below (with_call most f)) (sym (deepest-append above (call_depth above f))) (record { operands = omega (arith, here.operands, b.operands); cells = omega (arith, here.cells, b.cells) }) in
    calls_below (above ++ call_depth above f ∷ []) (with_call most f) fs more (λ k d less. bare (suc k) d (omega (arith, less)))

with_calls-operands : (most : Depth) (fs : List FunctionDecl) → (with_calls most fs).operands ≡ most.operands + total (map (λ f. stmts_size f.stmts + 2) fs)
with_calls-operands most [] = omega arith
with_calls-operands most (f ∷ fs) = omega (arith, with_calls-operands (with_call most f) fs)

with_calls-cells : (most : Depth) (fs : List FunctionDecl) → (with_calls most fs).cells ≤ most.cells + (total (map (λ f. stmts_size f.stmts + 2) fs) + NAMES * length fs)
with_calls-cells most [] = omega arith
with_calls-cells most (f ∷ fs) = omega (arith, with_calls-cells (with_call most f) fs)

pub agent-le : (agents : List AgentDecl) (i : ℕ) (a : AgentDecl) → slice_get agents i ≡ Some a → stmts_size a.stmts ≤ total (map (λ b. stmts_size b.stmts + 1) agents)
agent-le [] i a e = cc
agent-le (x ∷ agents) zero a e =
    let is : x ≡ a = cc in
    omega (arith, ap (λ (b : AgentDecl). stmts_size b.stmts) is)
agent-le (x ∷ agents) (suc i) a e = omega (arith, agent-le agents i a e)

-- An agent holds no more operands than its unit has instructions, and beside as many cells the names of all functions.
pub agent_below : (unit : Whole) (i : ℕ) (a : AgentDecl) → IsBare unit → slice_get unit.agents i ≡ Some a
    → ((agent_depth unit a).operands ≤ unit_size unit) × ((agent_depth unit a).cells ≤ unit_size unit + FUNCTIONS * NAMES)
agent_below unit i a bare e =
    let fs : List FunctionDecl = unit.functions in
    let few : length fs ≤ FUNCTIONS = bare.function_limit in
    let own = agent-le unit.agents i a e in
    let operands = with_calls-operands shallow fs in
    let cells = with_calls-cells shallow fs in
    let all = calls_below [] shallow fs (record { operands = omega arith; cells = omega arith }) bare.functions in
    let inside = stmts_bounded (call_depths fs) (with_calls shallow fs) all a.stmts in
    (omega (arith, own, operands, inside.operands), omega (arith, own, cells, inside.cells, few))
