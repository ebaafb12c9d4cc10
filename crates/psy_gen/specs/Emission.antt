-- The code of a unit. The instructions of each construct are a function of the place of the first one; their number is
-- the construct's size.
use Rattle.std.specs.Prelude.{ℕ, ◌+◌, List, [], ◌∷◌, ◌++◌, map, length, take, replicate, Option, Some, None, slice_index_or, pos}
use Rattle.std.specs.List.{flat_map}
use Rattle.psy_arith.specs.declared.operators.Op1.{Op1}
use Rattle.psy_arith.specs.declared.operators.Op1.TheVariants as one
use Rattle.psy_arith.specs.declared.operators.Op2.{Op2}
use Rattle.psy_arith.specs.declared.operators.Op2.TheVariants as op
use Rattle.psy_arith.specs.declared.width.Width.{Width}
use Rattle.psy_arith.specs.declared.width.Width.TheVariants as widths
use Rattle.psy_tree.specs.declared.unit.Unit.{Unit as Whole}
use Rattle.psy_tree.specs.declared.unit.AgentDecl.{AgentDecl}
use Rattle.psy_tree.specs.declared.unit.FunctionDecl.{FunctionDecl}
use Rattle.psy_tree.specs.declared.unit.Expr.{Expr, para-Expr}
use Rattle.psy_tree.specs.declared.unit.Expr.TheOpen.{Expr-F}
use Rattle.psy_tree.specs.declared.unit.Stmt.{Stmt, para-Stmt}
use Rattle.psy_tree.specs.declared.unit.Stmt.TheOpen.{Stmt-F}
use Rattle.psy_code.specs.declared.code.Code.{Code}
use Rattle.psy_code.specs.declared.code.AgentCode.{AgentCode}
use Rattle.psy_code.specs.declared.code.CopyInit.{CopyInit}
use Rattle.psy_code.specs.declared.code.FunctionCode.{FunctionCode}
use Rattle.psy_code.specs.declared.instr.Instr.{Instr}
use Rattle.psy_code.specs.declared.instr.Instr.TheVariants as instr
use Rattle.psy_code.specs.Execution.{Copy}
use Rattle.psy_tree.specs.Paths.{total}
use Rattle.psy_meaning.specs.Sizes.{expr_size, stmt_size, stmts_size}
use Rattle.psy_meaning.specs.Depths.{loops, loops_in, agent_depth}
use Rattle.psy_meaning.specs.Alike.{first_slots, first_copies}

-- Instructions, by the place of the first one
abbrev pub Emit : Type 0
Emit = ℕ → List Instr

-- By slot, how many cells it has; the cells of the slots stand one after the other.
abbrev pub Layout : Type 0
Layout = List ℕ

-- The first cell of a slot
abbrev pub base_of : Layout → ℕ → ℕ
base_of layout slot = total (take slot layout)

-- How many cells a slot has
abbrev pub cells_in_slot : Layout → ℕ → ℕ
cells_in_slot layout slot = slice_index_or layout slot 0

-- ---- expressions

-- An expression beside its code
abbrev pub Operand : Type 0
Operand = Expr × Emit

-- A test that leaves the right side to be evaluated, or jumps behind it
abbrev pub lazy_code : (ℕ → Instr) → Operand → Operand → Emit
lazy_code test left right p =
    let middle = p + expr_size left.0 + 1 in
    left.1 p ++ (test (middle + expr_size right.0 + 1) ∷ (right.1 middle ++ instr.Truth ∷ []))

-- Both operands, and the operator at its width
abbrev pub binary_code : Op2 → Width → Operand → Operand → Emit
binary_code op.AndAnd width left right p = lazy_code instr.AndTest left right p
binary_code op.OrOr width left right p = lazy_code instr.OrTest left right p
binary_code operator width left right p = left.1 p ++ (right.1 (p + expr_size left.0) ++ instr.Binary operator width ∷ [])

-- All arguments, from left to right, and what stands behind them
abbrev pub arguments_code : List Operand → List Instr → Emit
arguments_code [] behind p = behind
arguments_code (a ∷ rest) behind p = a.1 p ++ arguments_code rest behind (p + expr_size a.0)

-- The width at which code has an operator on one operand: `!`, which takes its operand whole, has the greatest one alone.
abbrev pub width_of_unary : Op1 → Width → Width
width_of_unary one.Not width = widths.W64
width_of_unary operator width = width

-- The operand, and the operator
abbrev pub unary_code : Op1 → Width → Operand → Emit
unary_code operator width operand p = operand.1 p ++ instr.Unary operator (width_of_unary operator width) ∷ []

-- The code of an expression, once that of its parts is known
abbrev pub expr_code_step : Layout → Expr-F Operand → Emit
expr_code_step layout (Expr-F.Number number) p = instr.Push number ∷ []
expr_code_step layout (Expr-F.Slot slot) p = instr.Load (base_of layout slot) ∷ []
expr_code_step layout (Expr-F.Copy variable) p = instr.LoadCopy variable ∷ []
expr_code_step layout (Expr-F.Cell slot index) p = index.1 p ++ instr.LoadCell (base_of layout slot) (cells_in_slot layout slot) ∷ []
expr_code_step layout (Expr-F.Past variable back) p = instr.Past variable back ∷ []
expr_code_step layout (Expr-F.Ready stream) p = instr.Ready stream ∷ []
expr_code_step layout (Expr-F.Take stream) p = instr.Take stream ∷ []
expr_code_step layout (Expr-F.Unary operator width operand) p = unary_code operator width operand p
expr_code_step layout (Expr-F.Binary operator width left right) p = binary_code operator width left right p
expr_code_step layout (Expr-F.Call function arguments) p = arguments_code arguments (instr.Call function ∷ []) p
expr_code_step layout (Expr-F.Cast width operand) p = operand.1 p ++ instr.Cast width ∷ []

-- The code of an expression
abbrev pub expr_code : Layout → Expr → Emit
expr_code layout = para-Expr Emit (expr_code_step layout)

-- The code of expressions, from left to right
abbrev pub exprs_code : Layout → List Expr → Emit
exprs_code layout exprs = arguments_code (map (λ e. (e, expr_code layout e)) exprs) []

-- ---- statements

-- Instructions, by the number of the first bounded loop and the place of the first instruction
abbrev pub Coded : Type 0
Coded = ℕ → Emit

-- A statement beside its code
abbrev pub Part : Type 0
Part = Stmt × Coded

-- Statements one after the other
abbrev pub block_code : List Part → Coded
block_code [] counter p = []
block_code (s ∷ rest) counter p = s.1 counter p ++ block_code rest (counter + loops s.0) (p + stmt_size s.0)

-- The size of a block
abbrev pub block_size : List Part → ℕ
block_size parts = total (map (λ s. stmt_size s.0) parts)

-- Its number of bounded loops
abbrev pub block_loops : List Part → ℕ
block_loops parts = total (map (λ s. loops s.0) parts)

-- A test, a jump to the second branch, the first branch, and where there is a second a jump behind it
abbrev pub if_code : Layout → Expr → List Part → Option (List Part) → Coded
if_code layout test branch None counter p =
    let first = p + expr_size test + 1 in
    expr_code layout test p ++ (instr.JumpZero (first + block_size branch) ∷ block_code branch counter first)
if_code layout test branch (Some other) counter p =
    let first = p + expr_size test + 1 in
    let second = first + block_size branch + 1 in
    expr_code layout test p ++ (instr.JumpZero second ∷ (block_code branch counter first
    ++ (instr.Jump (second + block_size other) ∷ block_code other (counter + block_loops branch) second)))

-- The counter at 0; the test, counted where it holds, a jump behind the loop, the body, and a jump back to the test
abbrev pub bounded_code : Layout → Expr → ℕ → List Part → Coded
bounded_code layout test most body counter p =
    let again = p + 1 in
    let first = again + expr_size test + 2 in
    instr.Zero counter ∷ (expr_code layout test again ++ (instr.Guard counter most
    ∷ (instr.JumpZero (first + block_size body + 1) ∷ (block_code body (counter + 1) first ++ instr.Jump again ∷ []))))

-- The test, a jump behind the loop, the body, and a jump back to the test
abbrev pub timed_code : Layout → Expr → List Part → Coded
timed_code layout test body counter p =
    let first = p + expr_size test + 1 in
    expr_code layout test p ++ (instr.JumpZero (first + block_size body + 1) ∷ (block_code body counter first ++ instr.Jump p ∷ []))

-- The code of a statement, once that of its parts is known
abbrev pub stmt_code_step : Layout → Stmt-F Part → Coded
stmt_code_step layout (Stmt-F.Set slot value) counter p = expr_code layout value p ++ instr.Store (base_of layout slot) ∷ []
stmt_code_step layout (Stmt-F.SetCopy variable value) counter p = expr_code layout value p ++ instr.StoreCopy variable ∷ []
stmt_code_step layout (Stmt-F.SetCell slot index value) counter p =
    expr_code layout index p ++ (expr_code layout value (p + expr_size index) ++ instr.StoreCell (base_of layout slot) (cells_in_slot layout slot) ∷ [])
stmt_code_step layout (Stmt-F.If test branch other) counter p = if_code layout test branch other counter p
stmt_code_step layout (Stmt-F.Bounded test most body) counter p = bounded_code layout test most body counter p
stmt_code_step layout (Stmt-F.Timed test body) counter p = timed_code layout test body counter p
stmt_code_step layout (Stmt-F.Send value stream after clock) counter p = expr_code layout value p ++ instr.Send stream after clock ∷ []
stmt_code_step layout (Stmt-F.Advance point) counter p = instr.Advance point ∷ []
stmt_code_step layout (Stmt-F.Return value) counter p = expr_code layout value p ++ instr.Return ∷ []

-- The code of a statement
abbrev pub stmt_code : Layout → Stmt → Coded
stmt_code layout = para-Stmt Coded (stmt_code_step layout)

-- The code of a list of statements
abbrev pub stmts_code : Layout → List Stmt → Coded
stmts_code layout stmts = block_code (map (λ s. (s, stmt_code layout s)) stmts)

-- ---- the places behind each `advance`, in order

-- Places, by that of the first instruction
abbrev pub Places : Type 0
Places = ℕ → List ℕ

-- A statement beside the places behind its `advance` statements
abbrev pub Placed : Type 0
Placed = Stmt × Places

-- Those of statements one after the other
abbrev pub places_in : List Placed → Places
places_in [] p = []
places_in (s ∷ rest) p = s.1 p ++ places_in rest (p + stmt_size s.0)

-- The size of a block
abbrev pub placed_size : List Placed → ℕ
placed_size placed = total (map (λ s. stmt_size s.0) placed)

-- The places behind the `advance` statements of a statement, once those of its parts are known
abbrev pub places_step : Stmt-F Placed → Places
places_step (Stmt-F.Advance point) p = (p + 1) ∷ []
places_step (Stmt-F.If test branch None) p = places_in branch (p + expr_size test + 1)
places_step (Stmt-F.If test branch (Some other)) p = let first = p + expr_size test + 1 in places_in branch first
    ++ places_in other (first + placed_size branch + 1)
places_step (Stmt-F.Bounded test most body) p = places_in body (p + 1 + expr_size test + 2)
places_step (Stmt-F.Timed test body) p = places_in body (p + expr_size test + 1)
places_step _ p = []

-- The places behind the `advance` statements of a statement
abbrev pub places_of : Stmt → Places
places_of = para-Stmt Places places_step

-- Those of a list of statements
abbrev pub stmts_places : List Stmt → Places
stmts_places stmts = places_in (map (λ s. (s, places_of s)) stmts)

-- ---- functions and agents

-- A function's slots have one cell each.
abbrev pub function_layout : FunctionDecl → Layout
function_layout f = replicate (f.params + length f.locals) 1

-- Its statements, and `return 0;` at their end
abbrev pub function_code : FunctionDecl → Emit
function_code f p = stmts_code (function_layout f) f.stmts 0 p ++ (instr.Push (pos 0) ∷ (instr.Return ∷ []))

-- How many instructions it has
abbrev pub function_size : FunctionDecl → ℕ
function_size f = stmts_size f.stmts + 2

-- What a call begins with, where the function's code begins at a place
abbrev pub function_entry : FunctionDecl → ℕ → FunctionCode
function_entry f p = record { entry = p; params = f.params; locals = map (λ l. l.init) f.locals; counters = loops_in f.stmts }

-- By slot of an agent, how many cells it has
abbrev pub agent_layout : AgentDecl → Layout
agent_layout agent = map (λ s. s.cells) agent.slots

-- The agent's body, and a jump back to it
abbrev pub agent_code : AgentDecl → Emit
agent_code agent p = stmts_code (agent_layout agent) agent.stmts 0 p ++ instr.Jump p ∷ []

-- How many instructions it has
abbrev pub agent_size : AgentDecl → ℕ
agent_size agent = stmts_size agent.stmts + 1

-- The variable and the value of a working copy
abbrev pub copy_init : Copy → CopyInit
copy_init c = record { variable = c.variable; init = c.value }

-- What the agent's machine is made from, where its code begins at a place
abbrev pub agent_entry : Whole → ℕ → AgentDecl → ℕ → AgentCode
agent_entry unit number agent p =
    let depth = agent_depth unit agent in
    record {
      points = p ∷ stmts_places agent.stmts p;
      cells = flat_map (λ cells. cells) (first_slots agent);
      counters = loops_in agent.stmts;
      copies = map copy_init (first_copies unit number);
      stack = depth.operands;
      frames = depth.cells;
    }

-- ---- the whole

-- The codes one after the other
abbrev pub codes_from : {X : Type 0} → (X → Emit) → (X → ℕ) → List X → Emit
codes_from code size [] p = []
codes_from code size (x ∷ rest) p = code x p ++ codes_from code size rest (p + size x)

-- What calls of these functions begin with, where their codes stand one after the other from a place on
abbrev pub function_entries : List FunctionDecl → ℕ → List FunctionCode
function_entries [] p = []
function_entries (f ∷ rest) p = function_entry f p ∷ function_entries rest (p + function_size f)

-- What the machines of these agents are made from, counted from a number on, and where their codes stand one after the other
abbrev pub agent_entries : Whole → ℕ → List AgentDecl → ℕ → List AgentCode
agent_entries unit number [] p = []
agent_entries unit number (a ∷ rest) p = agent_entry unit number a p ∷ agent_entries unit (number + 1) rest (p + agent_size a)

-- How many instructions all functions have
abbrev pub functions_size : List FunctionDecl → ℕ
functions_size functions = total (map function_size functions)

-- The functions' code, then the agents'
abbrev pub code_of : Whole → Code
code_of unit =
    let start = functions_size unit.functions in
    record {
      instrs = codes_from function_code function_size unit.functions 0 ++ codes_from agent_code agent_size unit.agents start;
      agents = agent_entries unit 0 unit.agents start;
      functions = function_entries unit.functions 0;
    }
