-- What statements do, and functions.
use Rattle.std.specs.Prelude.{ℕ, zero, suc, ◌+◌, ◌==◌, if◌then◌else◌, List, [], ◌∷◌, ◌++◌, map, length, Option, Some, None, ℤ, pos}
use Rattle.std.specs.Int.{w32, int_wrap}
use Rattle.psy_arith.specs.declared.operators.Trap.TheVariants as trap
use Rattle.psy_arith.specs.Operators.{is_zero}
use Rattle.psy_code.specs.Views.{Send}
use Rattle.psy_code.specs.Execution.{index_in}
use Rattle.psy_tree.specs.declared.unit.FunctionDecl.{FunctionDecl}
use Rattle.psy_tree.specs.declared.unit.Stmt.{Stmt, fold-Stmt}
use Rattle.psy_tree.specs.declared.unit.Stmt.TheOpen.{Stmt-F}
use Rattle.psy_meaning.specs.States.{Store, State, Final, Ended, Trapped, Got, Value, Stops, Outcome, Falls, Returns, Halts, Eval, Act, Callee}
use Rattle.psy_meaning.specs.States.{with_value, then_do, cost_1, asking, trapping, or_halt, cells_at, with_slot, with_copy_at}
use Rattle.psy_meaning.specs.Expressions.{eval}

-- A value into the cell of an array that an index names
abbrev pub set_element : ℕ → ℤ → ℤ → State → Outcome
set_element slot index v s = or_halt trap.Index (index_in (length (cells_at s.store slot)) index) s (λ i. Falls (with_slot slot i v (cost_1 s)))

-- One after the other, as long as they fall through
abbrev pub all_of : List Act → Act
all_of [] s = Falls s
all_of (a ∷ rest) s = then_do (a s) (all_of rest)

-- A test, and the choice that it makes
abbrev pub choose : Eval → Act → Act → Act
choose test holds fails s = with_value (test s) (λ v t. if is_zero v then fails (cost_1 t) else holds (cost_1 t))

-- A jump
abbrev pub hop : Act
hop s = Falls (cost_1 s)

-- The branches of an `if`: a jump follows a first branch that has a second.
abbrev pub branches : Eval → Act → Option (List Act) → Act
branches test branch None s = choose test branch Falls s
branches test branch (Some other) s = choose test (λ t. then_do (branch t) hop) (all_of other) s

-- At most so many turns more of a bounded loop: it traps where its test holds after the last.
abbrev pub turns : ℕ → Eval → Act → Act
turns zero test body s = with_value (test s) (λ v t. if is_zero v then Falls (cost_1 (cost_1 t)) else Halts (trapping trap.Loop t))
turns (suc more) test body s = with_value (test s) (λ v t. if is_zero v then Falls (cost_1 (cost_1 t))
    else then_do (body (cost_1 (cost_1 t))) (λ u. turns more test body (cost_1 u)))

-- What a statement does, once each of its parts is known to do something. A working copy and a message have 32 bits.
abbrev pub stmt_step : (ℕ → Callee) → Stmt-F Act → Act
stmt_step callees (Stmt-F.Set slot value) s = with_value (eval callees value s) (λ v t. Falls (with_slot slot 0 v (cost_1 t)))
stmt_step callees (Stmt-F.SetCopy variable value) s = with_value (eval callees value s) (λ v t. Falls (with_copy_at variable (int_wrap w32 v) (cost_1 t)))
stmt_step callees (Stmt-F.SetCell slot index value) s = with_value (eval callees index s)
    (λ i t. with_value (eval callees value t) (λ v u. set_element slot i v u))
stmt_step callees (Stmt-F.If test branch other) s = branches (eval callees test) (all_of branch) other s
stmt_step callees (Stmt-F.Bounded test most body) s = turns most (eval callees test) (all_of body) (cost_1 s)
stmt_step callees (Stmt-F.Timed test body) s = choose (eval callees test) (all_of body) Falls s
stmt_step callees (Stmt-F.Send value stream after clock) s =
    with_value (eval callees value s) (λ v t. Falls (asking (Send (record { stream = stream; value = int_wrap w32 v; after = after; clock = clock })) t))
stmt_step callees (Stmt-F.Advance point) s = Halts (Ended point (cost_1 s))
stmt_step callees (Stmt-F.Return value) s = with_value (eval callees value s) (λ v t. Returns v (cost_1 t))

-- What a statement does in a state.
abbrev pub act_by : (ℕ → Callee) → Stmt → Act
act_by callees = fold-Stmt Act (stmt_step callees)

-- What a list of statements does.
abbrev pub acts_by : (ℕ → Callee) → List Stmt → Act
acts_by callees stmts = all_of (map (act_by callees) stmts)

-- ---- functions

-- A function's parameters and locals: each slot has one cell.
abbrev pub function_frame : FunctionDecl → List ℤ → Store
function_frame function arguments = record { slots = map (λ v. v ∷ []) (arguments ++ map (λ l. l.init) function.locals); copies = [] }

-- The state with another store.
abbrev pub in_store : Store → State → State
in_store store s = record s { store = store }

-- The end of an action inside a function, in its caller's store.
abbrev pub final_in : Store → Final → Final
final_in store (Ended point s) = Ended point (in_store store s)
final_in store (Trapped kind s) = Trapped kind (in_store store s)

-- Back in the caller's store. Statements that fall through give 0, at the cost of `return 0;`.
abbrev pub back_in : Store → Outcome → Got
back_in store (Falls s) = Value (pos 0) (cost_1 (cost_1 (in_store store s)))
back_in store (Returns v s) = Value v (in_store store s)
back_in store (Halts final) = Stops (final_in store final)

-- What a function does with its arguments, where it calls these.
abbrev pub callee : (ℕ → Callee) → FunctionDecl → Callee
callee above function arguments s = back_in s.store (acts_by above function.stmts (in_store (function_frame function arguments) s))

-- There is no function of this number.
abbrev pub no_callee : ℕ → Callee
no_callee number arguments s = Value (pos 0) s

-- One function more, of this number
abbrev pub with_callee : ℕ → Callee → (ℕ → Callee) → ℕ → Callee
with_callee number last above function = if function == number then last else above function

-- The functions of these declarations, each of which calls those above it
abbrev pub callees_from : ℕ → (ℕ → Callee) → List FunctionDecl → ℕ → Callee
callees_from number above [] = above
callees_from number above (f ∷ rest) = callees_from (number + 1) (with_callee number (callee above f) above) rest

-- The functions of a unit, by number.
abbrev pub callees_of : List FunctionDecl → ℕ → Callee
callees_of functions = callees_from 0 no_callee functions

-- ---- pieces of a body

-- A statement, or a jump.
pub data Piece : Type 0 where
  Do : (stmt : Stmt) → Piece
  Hop : Piece

-- What a piece does.
abbrev pub piece_by : (ℕ → Callee) → Piece → Act
piece_by callees (Do stmt) = act_by callees stmt
piece_by callees Hop = hop

-- What a list of pieces does, with these functions
abbrev pub act : List FunctionDecl → List Piece → Act
act functions pieces = all_of (map (piece_by (callees_of functions)) pieces)
