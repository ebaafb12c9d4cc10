-- The greatest counts of the ways of statements, by how these end.
use Rattle.std.specs.Prelude.{ℕ, zero, suc, ◌+◌, min, max, Bool, true, ◌==◌, if◌then◌else◌, List, [], ◌∷◌, ◌++◌, map, Option, Some, None, slice_index_or}
use Rattle.std.specs.List.{count_by}
use Rattle.psy_base.specs.declared.limits.TheConstants.{COST, SENDS}
use Rattle.psy_arith.specs.declared.operators.Op2.{Op2}
use Rattle.psy_arith.specs.declared.operators.Op2.TheVariants as op
use Rattle.psy_tree.specs.declared.unit.Expr.{Expr, fold-Expr}
use Rattle.psy_tree.specs.declared.unit.Expr.TheOpen.{Expr-F}
use Rattle.psy_tree.specs.declared.unit.FunctionDecl.{FunctionDecl}
use Rattle.psy_tree.specs.declared.unit.Stmt.{Stmt, fold-Stmt}
use Rattle.psy_tree.specs.declared.unit.Stmt.TheOpen.{Stmt-F}
use Rattle.psy_tree.specs.Paths.{total}
use Rattle.psy_meaning.specs.Statements.{Piece, Do, Hop}
use Rattle.psy_meaning.specs.Ways.{Meter}
use Rattle.psy_flow.specs.declared.gauge.Gauge.{Gauge}
use Rattle.psy_flow.specs.declared.gauge.Gauge.TheVariants as gauge
use Rattle.psy_flow.specs.declared.tops.Tops.{Tops}

-- ---- what is counted

-- How far is counted
abbrev pub limit_of : Gauge → ℕ
limit_of gauge.Steps = COST
limit_of (gauge.Sends stream) = SENDS
limit_of (gauge.Looks variable) = 1

-- What an instruction counts that neither looks nor sends
abbrev pub in_step : Gauge → ℕ
in_step gauge.Steps = 1
in_step (gauge.Sends stream) = 0
in_step (gauge.Looks variable) = 0

-- What a look at a variable counts
abbrev pub in_look : Gauge → ℕ → ℕ
in_look gauge.Steps variable = 1
in_look (gauge.Sends stream) variable = 0
in_look (gauge.Looks counted) variable = if variable == counted then 1 else 0

-- What a send to a stream counts
abbrev pub in_send : Gauge → ℕ → ℕ
in_send gauge.Steps stream = 1
in_send (gauge.Sends counted) stream = if stream == counted then 1 else 0
in_send (gauge.Looks variable) stream = 0

-- What is counted of all that a way met
abbrev pub count_of : Gauge → Meter → ℕ
count_of gauge.Steps met = met.steps
count_of (gauge.Sends stream) met = count_by (λ s. s.stream == stream) met.sends
count_of (gauge.Looks variable) met = count_by (λ l. l.variable == variable) met.looks

-- ---- expressions

-- The right side of `&&` and `||` counts most where it is evaluated.
abbrev pub binary_most : Gauge → Op2 → ℕ → ℕ → ℕ
binary_most g op.AndAnd left right = left + (in_step g + (right + in_step g))
binary_most g op.OrOr left right = left + (in_step g + (right + in_step g))
binary_most g operator left right = left + (right + in_step g)

-- The greatest count of an expression, once those of its parts and of the functions are known
abbrev pub expr_most_step : Gauge → (ℕ → ℕ) → Expr-F ℕ → ℕ
expr_most_step g calls (Expr-F.Cell slot index) = index + in_step g
expr_most_step g calls (Expr-F.Past variable back) = in_look g variable
expr_most_step g calls (Expr-F.Unary operator width operand) = operand + in_step g
expr_most_step g calls (Expr-F.Cast width operand) = operand + in_step g
expr_most_step g calls (Expr-F.Binary operator width left right) = binary_most g operator left right
expr_most_step g calls (Expr-F.Call function arguments) = total arguments + (in_step g + calls function)
expr_most_step g calls _ = in_step g

-- The greatest count of an expression
abbrev pub expr_most : Gauge → (ℕ → ℕ) → Expr → ℕ
expr_most g calls = fold-Expr ℕ (expr_most_step g calls)

-- ---- words for tops

-- There is no way.
abbrev pub nowhere : Tops
nowhere = record { fell = None; back = None; to = None }

-- Behind the statements
abbrev pub falling : ℕ → Tops
falling n = record { fell = Some n; back = None; to = None }

-- Back in the caller
abbrev pub returning : ℕ → Tops
returning n = record { fell = None; back = Some n; to = None }

-- At a point
abbrev pub reaching : ℕ → Tops
reaching n = record { fell = None; back = None; to = Some n }

-- So much more
abbrev pub plus : ℕ → Option ℕ → Option ℕ
plus n None = None
plus n (Some m) = Some (n + m)

-- The greater of both, where there are both
abbrev pub greater : Option ℕ → Option ℕ → Option ℕ
greater None b = b
greater (Some a) None = Some a
greater (Some a) (Some b) = Some (max a b)

-- Behind a way with a count
abbrev pub behind : ℕ → Tops → Tops
behind n t = record { fell = plus n t.fell; back = plus n t.back; to = plus n t.to }

-- This way or that
abbrev pub or_else : Tops → Tops → Tops
or_else a b = record { fell = greater a.fell b.fell; back = greater a.back b.back; to = greater a.to b.to }

-- Those that don't fall through
abbrev pub leaving : Tops → Tops
leaving t = record t { fell = None }

-- Behind statements that fall through with a count, or don't
abbrev pub on_from : Option ℕ → Tops → Tops
on_from None second = nowhere
on_from (Some n) second = behind n second

-- The first, and where it falls through the second behind it
abbrev pub and_on : Tops → Tops → Tops
and_on first second = or_else (on_from first.fell second) (leaving first)

-- One after the other
abbrev pub tops_through : List Tops → Tops
tops_through [] = falling 0
tops_through (t ∷ ts) = and_on t (tops_through ts)

-- At most so many turns of a bounded loop, each behind its test
abbrev pub turning : Gauge → ℕ → ℕ → Tops → Tops
turning g zero test body = falling (test + (in_step g + in_step g))
turning g (suc more) test body =
    let tested = test + (in_step g + in_step g) in
    or_else (falling tested) (behind tested (and_on body (behind (in_step g) (turning g more test body))))

-- ---- statements

-- The point is the one that is asked for, or any is.
abbrev pub meets : Option ℕ → ℕ → Bool
meets None point = true
meets (Some wanted) point = point == wanted

-- A jump follows a first branch that has a second.
abbrev pub branching : Gauge → Tops → Option (List Tops) → Tops
branching g branch None = or_else branch (falling 0)
branching g branch (Some other) = or_else (and_on branch (falling (in_step g))) (tops_through other)

-- The tops of a statement, once those of its parts are known
abbrev pub stmt_tops_step : Gauge → Option ℕ → (ℕ → ℕ) → Stmt-F Tops → Tops
stmt_tops_step g wanted calls (Stmt-F.Set slot value) = falling (expr_most g calls value + in_step g)
stmt_tops_step g wanted calls (Stmt-F.SetCopy variable value) = falling (expr_most g calls value + in_step g)
stmt_tops_step g wanted calls (Stmt-F.SetCell slot index value) = falling (expr_most g calls index + (expr_most g calls value + in_step g))
stmt_tops_step g wanted calls (Stmt-F.If test branch other) = behind (expr_most g calls test + in_step g) (branching g (tops_through branch) other)
stmt_tops_step g wanted calls (Stmt-F.Bounded test most body) = behind (in_step g) (turning g most (expr_most g calls test) (tops_through body))
stmt_tops_step g wanted calls (Stmt-F.Timed test body) = behind (expr_most g calls test + in_step g) (or_else (tops_through body) (falling 0))
stmt_tops_step g wanted calls (Stmt-F.Send value stream after clock) = falling (expr_most g calls value + in_send g stream)
stmt_tops_step g wanted calls (Stmt-F.Advance point) = if meets wanted point then reaching (in_step g) else nowhere
stmt_tops_step g wanted calls (Stmt-F.Return value) = returning (expr_most g calls value + in_step g)

-- The tops of a statement
abbrev pub stmt_tops : Gauge → Option ℕ → (ℕ → ℕ) → Stmt → Tops
stmt_tops g wanted calls = fold-Stmt Tops (stmt_tops_step g wanted calls)

-- The tops of statements
abbrev pub stmts_tops : Gauge → Option ℕ → (ℕ → ℕ) → List Stmt → Tops
stmts_tops g wanted calls stmts = tops_through (map (stmt_tops g wanted calls) stmts)

-- The tops of a statement or a jump
abbrev pub piece_tops : Gauge → Option ℕ → (ℕ → ℕ) → Piece → Tops
piece_tops g wanted calls (Do stmt) = stmt_tops g wanted calls stmt
piece_tops g wanted calls Hop = falling (in_step g)

-- The tops of pieces
abbrev pub pieces_tops : Gauge → Option ℕ → (ℕ → ℕ) → List Piece → Tops
pieces_tops g wanted calls pieces = tops_through (map (piece_tops g wanted calls) pieces)

-- ---- functions

-- 0 where there is none
abbrev pub count_or_zero : Option ℕ → ℕ
count_or_zero None = 0
count_or_zero (Some n) = n

-- The greatest count of a call, from the tops of its function's statements: falling through counts two instructions more.
abbrev pub call_most : Gauge → Tops → ℕ
call_most g t = count_or_zero (greater t.back (plus (in_step g + in_step g) t.fell))

-- The entry of a function; 0 where there is none
abbrev pub called : List ℕ → ℕ → ℕ
called row function = slice_index_or row function 0

-- The greatest counts of the functions' calls, in order; each function calls those above it.
abbrev pub calls_from : Gauge → List ℕ → List FunctionDecl → List ℕ
calls_from g above [] = above
calls_from g above (f ∷ rest) = calls_from g (above ++ call_most g (stmts_tops g None (called above) f.stmts) ∷ []) rest

-- Those of all functions of a unit
abbrev pub calls_most : Gauge → List FunctionDecl → List ℕ
calls_most g functions = calls_from g [] functions

-- ---- as far as is counted

-- A count as far as is counted
abbrev pub capped_count : Gauge → Option ℕ → Option ℕ
capped_count g None = None
capped_count g (Some n) = Some (min n (limit_of g))

-- Each count as far as is counted
abbrev pub capped_tops : Gauge → Tops → Tops
capped_tops g t = record { fell = capped_count g t.fell; back = capped_count g t.back; to = capped_count g t.to }

-- The greatest counts of the functions' calls, each as far as is counted
abbrev pub capped_from : Gauge → List ℕ → List FunctionDecl → List ℕ
capped_from g above [] = above
capped_from g above (f ∷ rest) = capped_from g (above ++ min (call_most g (stmts_tops g None (called above) f.stmts)) (limit_of g) ∷ []) rest
