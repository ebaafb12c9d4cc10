-- In the unit of a text nothing is so deep that it isn't counted to its end.
use Rattle.std.proofs.Common.{◌≡◌, ℕ, zero, suc, ◌+◌, ◌-◌, ◌*◌, ◌^◌, ◌≤◌, List, [], ◌∷◌, ◌++◌, map, length, Some, refl, sym, ap, subst, ◌∙◌, arith}
use Rattle.std.specs.Prelude.{slice_get}
use Rattle.std.specs.List.{All}
use Rattle.psy_base.specs.declared.limits.TheConstants.{FUNCTIONS, NAMES, UNIT_SIZE}
use Rattle.psy_tree.specs.declared.unit.Unit.{Unit as Whole}
use Rattle.psy_tree.specs.declared.unit.AgentDecl.{AgentDecl}
use Rattle.psy_tree.specs.declared.unit.FunctionDecl.{FunctionDecl}
use Rattle.psy_tree.specs.Paths.{total}
use Rattle.psy_meaning.specs.Sizes.{stmts_size, unit_size}
use Rattle.psy_meaning.specs.Depths.{Depth, shallow, deepest, stmts_depth, call_depth, call_depths_from, call_depths, agent_depth}
use Rattle.psy_meaning.specs.Units.{IsBareFunction, IsOfText}
use Rattle.psy_flow.specs.Counted.{capped_depth, counted_calls_from, counted_calls}
use Rattle.psy_flow.proofs.Capped.{same}
use Rattle.psy_flow.proofs.Lists.{deepest-append}
use Rattle.psy_flow.proofs.Sizes.{Below, stmts_bounded, loops-le_size}

-- What can be counted in 64 bits
abbrev most_counted : Depth
most_counted = record { operands = 2 ^ 64 - 1; cells = 2 ^ 64 - 1 }

-- What a call holds at most, where those that it makes hold at most so much
abbrev with_call : Depth → FunctionDecl → Depth
with_call most f = record { operands = most.operands + (stmts_size f.stmts + 2); cells = most.cells + (stmts_size f.stmts + NAMES) }

-- What calls of these functions hold at most beside
abbrev with_calls : Depth → List FunctionDecl → Depth
with_calls most [] = most
with_calls most (f ∷ fs) = with_calls (with_call most f) fs

-- What an agent of a unit holds at most
abbrev room : Whole → Depth
room unit = record { operands = unit_size unit; cells = unit_size unit + FUNCTIONS * NAMES }

whole : (d : Depth) → Below most_counted d → capped_depth d ≡ d
whole d b = same (capped_depth d) d (omega (arith, b.operands)) (omega (arith, b.cells))

call_below : (above : List Depth) (most : Depth) (f : FunctionDecl) → Below most (deepest above) → IsBareFunction f → Below (with_call most f) (call_depth above f)
call_below above most f b bare =
    let inside = stmts_bounded above most b f.stmts in
    let few = loops-le_size f.stmts in
    record { operands = omega (arith, inside.operands); cells = omega (arith, inside.cells, few, bare.slots) }

-- The functions' depths are counted to their ends, and bounded.
record Exact (above : List Depth) (most : Depth) (fs : List FunctionDecl) : Type 0 where
  pub counted : counted_calls_from above fs ≡ call_depths_from above fs
  pub below : Below (with_calls most fs) (deepest (call_depths_from above fs))

with_calls-operands : (most : Depth) (fs : List FunctionDecl) → (with_calls most fs).operands ≡ most.operands + total (map (λ f. stmts_size f.stmts + 2) fs)
with_calls-operands most [] = omega arith
with_calls-operands most (f ∷ fs) = omega (arith, with_calls-operands (with_call most f) fs)

with_calls-cells : (most : Depth) (fs : List FunctionDecl) → (with_calls most fs).cells ≤ most.cells + (total (map (λ f. stmts_size f.stmts + 2) fs) + NAMES * length fs)
with_calls-cells most [] = omega arith
with_calls-cells most (f ∷ fs) = omega (arith, with_calls-cells (with_call most f) fs)

with_calls-more : (most : Depth) (fs : List FunctionDecl) → Below (with_calls most fs) most
with_calls-more most [] = record { operands = omega arith; cells = omega arith }
with_calls-more most (f ∷ fs) = let more = with_calls-more (with_call most f) fs in record { operands = omega (arith, more.operands); cells = omega (arith, more.cells) }

below_of : (a b c : Depth) → Below a b → Below b c → Below a c
below_of a b c p q = record { operands = omega (arith, p.operands, q.operands); cells = omega (arith, p.cells, q.cells) }

exact : (above : List Depth) (most : Depth) (fs : List FunctionDecl) → Below most (deepest above) → All IsBareFunction fs → Below most_counted (with_calls most fs) → Exact above most fs
exact above most [] b bare small = record { counted = refl; below = b }
exact above most (f ∷ fs) b bare small =
    let call : Depth = call_depth above f in
    let more : Depth = with_call most f in
    let here : Below more call = call_below above most f b (bare 0 f (omega arith)) in
    let is_whole : capped_depth call ≡ call = whole call (below_of most_counted more call (below_of most_counted (with_calls more fs) more small (with_calls-more more fs)) here) in
    let next : List Depth = above ++ call ∷ [] in
    let b' : Below more (deepest next) = subst (Below more) (sym (deepest-append above call)) (record { operands = omega (arith, here.operands, b.operands); cells = omega (arith, here.cells, b.cells) }) in
    let rest : Exact next more fs = exact next more fs b' (λ k d less. bare (suc k) d (omega (arith, less))) small in
    record { counted = ap (λ d. counted_calls_from (above ++ d ∷ []) fs) is_whole ∙ rest.counted; below = rest.below }

agent-le : (agents : List AgentDecl) (i : ℕ) (a : AgentDecl) → slice_get agents i ≡ Some a → stmts_size a.stmts ≤ total (map (λ b. stmts_size b.stmts + 1) agents)
agent-le [] i a e = cc
agent-le (x ∷ agents) zero a e =
    let is : x ≡ a = cc in
    omega (arith, ap (λ (b : AgentDecl). stmts_size b.stmts) is)
agent-le (x ∷ agents) (suc i) a e = omega (arith, agent-le agents i a e)

-- The depth of an agent of a text's unit is counted to its end, and bounded.
pub record Known (unit : Whole) (a : AgentDecl) : Type 0 where
  pub counted : capped_depth (stmts_depth (counted_calls unit.functions) a.stmts) ≡ agent_depth unit a
  pub below : Below (room unit) (agent_depth unit a)

pub agent_known : (unit : Whole) (i : ℕ) (a : AgentDecl) → IsOfText unit → slice_get unit.agents i ≡ Some a → Known unit a
agent_known unit i a text e =
    let fs : List FunctionDecl = unit.functions in
    let few : length fs ≤ FUNCTIONS = text.bare.function_limit in
    let size : unit_size unit ≤ UNIT_SIZE = text.size in
    let own = agent-le unit.agents i a e in
    let operands = with_calls-operands shallow fs in
    let cells = with_calls-cells shallow fs in
    let small : Below most_counted (with_calls shallow fs) = record { operands = omega arith; cells = omega arith } in
    let all : Exact [] shallow fs = exact [] shallow fs (record { operands = omega arith; cells = omega arith }) text.bare.functions small in
    let inside = stmts_bounded (call_depths fs) (with_calls shallow fs) all.below a.stmts in
    let below : Below (room unit) (agent_depth unit a) = record { operands = omega (arith, inside.operands); cells = omega (arith, inside.cells) } in
    let counted = below_of most_counted (room unit) (agent_depth unit a) (record { operands = omega arith; cells = omega arith }) below in
    record { counted = ap (λ ds. capped_depth (stmts_depth ds a.stmts)) all.counted ∙ whole (agent_depth unit a) counted; below = below }
