-- How many operands an agent's machine holds at most, and how many cells and counters of open calls.
use Rattle.std.specs.Prelude.{ℕ, ◌+◌, max, List, [], ◌∷◌, ◌++◌, map, length, Option, Some, None, slice_index_or}
use Rattle.psy_tree.specs.Paths.{total}
use Rattle.psy_arith.specs.declared.operators.Op2.{Op2}
use Rattle.psy_arith.specs.declared.operators.Op2.TheVariants as op
use Rattle.psy_tree.specs.declared.unit.Unit.{Unit as Whole}
use Rattle.psy_tree.specs.declared.unit.AgentDecl.{AgentDecl}
use Rattle.psy_tree.specs.declared.unit.FunctionDecl.{FunctionDecl}
use Rattle.psy_tree.specs.declared.unit.Expr.{Expr, fold-Expr}
use Rattle.psy_tree.specs.declared.unit.Expr.TheOpen.{Expr-F}
use Rattle.psy_tree.specs.declared.unit.Stmt.{Stmt, fold-Stmt}
use Rattle.psy_tree.specs.declared.unit.Stmt.TheOpen.{Stmt-F}

-- What is held at most: operands, and cells and counters of open calls.
pub record Depth : Type 0 where
  pub operands : ℕ
  pub cells : ℕ

-- Nothing is held.
abbrev pub shallow : Depth
shallow = record { operands = 0; cells = 0 }

-- One operand
abbrev pub one_deep : Depth
one_deep = record { operands = 1; cells = 0 }

-- The greater of both, in each respect
abbrev pub deeper : Depth → Depth → Depth
deeper a b = record { operands = max a.operands b.operands; cells = max a.cells b.cells }

-- The same on top of so many operands
abbrev pub on_top_of : ℕ → Depth → Depth
on_top_of n d = record d { operands = n + d.operands }

-- The greatest of these
abbrev pub deepest : List Depth → Depth
deepest [] = shallow
deepest (d ∷ ds) = deeper d (deepest ds)

-- The greatest of these, each on top of the values of those before it
abbrev pub stacked : ℕ → List Depth → Depth
stacked n [] = shallow
stacked n (d ∷ ds) = deeper (on_top_of n d) (stacked (n + 1) ds)

-- The right side of `&&` and `||` finds nothing of the left one.
abbrev pub binary_depth : Op2 → Depth → Depth → Depth
binary_depth op.AndAnd left right = deeper left right
binary_depth op.OrOr left right = deeper left right
binary_depth operator left right = deeper left (on_top_of 1 right)

-- An expression's depth, once those of its parts and of the functions are known
abbrev pub expr_depth_step : List Depth → Expr-F Depth → Depth
expr_depth_step functions (Expr-F.Cell slot index) = index
expr_depth_step functions (Expr-F.Unary operator width operand) = operand
expr_depth_step functions (Expr-F.Cast width operand) = operand
expr_depth_step functions (Expr-F.Binary operator width left right) = binary_depth operator left right
expr_depth_step functions (Expr-F.Call function arguments) = deeper one_deep (deeper (stacked 0 arguments) (slice_index_or functions function shallow))
expr_depth_step functions _ = one_deep

-- An expression's depth
abbrev pub expr_depth : List Depth → Expr → Depth
expr_depth functions = fold-Expr Depth (expr_depth_step functions)

-- The second branch's depth
abbrev pub other_depth : Option (List Depth) → Depth
other_depth None = shallow
other_depth (Some other) = deepest other

-- A statement's depth, once those of its parts are known
abbrev pub stmt_depth_step : List Depth → Stmt-F Depth → Depth
stmt_depth_step functions (Stmt-F.Set slot value) = expr_depth functions value
stmt_depth_step functions (Stmt-F.SetCopy variable value) = expr_depth functions value
stmt_depth_step functions (Stmt-F.SetCell slot index value) = deeper (expr_depth functions index) (on_top_of 1 (expr_depth functions value))
stmt_depth_step functions (Stmt-F.If test branch other) = deeper (expr_depth functions test) (deeper (deepest branch) (other_depth other))
stmt_depth_step functions (Stmt-F.Bounded test most body) = deeper (expr_depth functions test) (deepest body)
stmt_depth_step functions (Stmt-F.Timed test body) = deeper (expr_depth functions test) (deepest body)
stmt_depth_step functions (Stmt-F.Send value stream after clock) = expr_depth functions value
stmt_depth_step functions (Stmt-F.Advance point) = shallow
stmt_depth_step functions (Stmt-F.Return value) = expr_depth functions value

-- A statement's depth
abbrev pub stmt_depth : List Depth → Stmt → Depth
stmt_depth functions = fold-Stmt Depth (stmt_depth_step functions)

-- The depth of a list of statements
abbrev pub stmts_depth : List Depth → List Stmt → Depth
stmts_depth functions stmts = deepest (map (stmt_depth functions) stmts)

-- What the second branch counts, where there is one
abbrev pub some_of : Option (List ℕ) → ℕ
some_of None = 0
some_of (Some ns) = total ns

-- How many bounded loops a statement is or holds, once those of its parts are known
abbrev pub loops_step : Stmt-F ℕ → ℕ
loops_step (Stmt-F.If test branch other) = total branch + some_of other
loops_step (Stmt-F.Bounded test most body) = total body + 1
loops_step (Stmt-F.Timed test body) = total body
loops_step _ = 0

-- How many bounded loops a statement is or holds
abbrev pub loops : Stmt → ℕ
loops = fold-Stmt ℕ loops_step

-- How many stand in statements
abbrev pub loops_in : List Stmt → ℕ
loops_in stmts = total (map loops stmts)

-- A call of a function: an operand at least, and beside what its statements hold a frame of its parameters, locals and
-- counters.
abbrev pub call_depth : List Depth → FunctionDecl → Depth
call_depth above f = let d = stmts_depth above f.stmts in record {
  operands = max 1 d.operands;
  cells = f.params + length f.locals + loops_in f.stmts + d.cells;
}

-- The depths of the functions' calls, in order; each function calls those above it.
abbrev pub call_depths_from : List Depth → List FunctionDecl → List Depth
call_depths_from above [] = above
call_depths_from above (f ∷ rest) = call_depths_from (above ++ call_depth above f ∷ []) rest

-- The depths of the calls of a unit's functions, by number
abbrev pub call_depths : List FunctionDecl → List Depth
call_depths functions = call_depths_from [] functions

-- An agent's depth: how many operands its machine holds at most, and how many cells and counters of open calls
abbrev pub agent_depth : Whole → AgentDecl → Depth
agent_depth unit agent = stmts_depth (call_depths unit.functions) agent.stmts
