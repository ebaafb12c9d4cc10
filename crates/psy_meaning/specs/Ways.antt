-- The ways of an action, whatever its values: each test goes either way.
use Rattle.std.specs.Prelude.{map, ◌≡◌, ℕ, zero, suc, ◌+◌, ◌≤◌, List, [], ◌∷◌, ◌++◌, Option, Some, None, ◌⊎◌, ◌≢◌}
use Rattle.psy_arith.specs.declared.operators.Op2.{Op2}
use Rattle.psy_arith.specs.declared.operators.Op2.TheVariants as op
use Rattle.psy_code.specs.declared.look.Sent.{Sent}
use Rattle.psy_code.specs.Views.{Looked, Deeds}
use Rattle.psy_tree.specs.declared.unit.Expr.{Expr, rec-Expr}
use Rattle.psy_tree.specs.declared.unit.Expr.TheOpen.{Expr-F}
use Rattle.psy_tree.specs.declared.unit.FunctionDecl.{FunctionDecl}
use Rattle.psy_tree.specs.declared.unit.Stmt.{Stmt, rec-Stmt}
use Rattle.psy_tree.specs.declared.unit.Stmt.TheOpen.{Stmt-F}
use Rattle.psy_meaning.specs.Statements.{Piece, Do, Hop}

-- A send as a way knows it: all but its value.
pub record Sending : Type 0 where
  pub stream : ℕ
  pub after : ℕ
  pub clock : ℕ

-- What a way meets: its instructions, its looks, and its sends, in order.
pub record Meter : Type 0 where
  pub steps : ℕ
  pub looks : List Looked
  pub sends : List Sending

-- Nothing met yet.
abbrev pub unmetered : Meter
unmetered = record { steps = 0; looks = []; sends = [] }

-- A send without its value
abbrev pub sending_of : Sent → Sending
sending_of sent = record { stream = sent.stream; after = sent.after; clock = sent.clock }

-- What an action met
abbrev pub met_by : Deeds → Meter
met_by deeds = record { steps = deeds.steps; looks = deeds.looks; sends = map sending_of deeds.sends }

-- From what was met before to what is met with it
abbrev pub Way : Type 1
Way = Meter → Meter → Type 0

-- ---- words for ways

-- There is none.
abbrev pub no_way : Way
no_way before now = ⊥

-- Nothing is executed.
abbrev pub here : Way
here before now = now ≡ before

-- One instruction
abbrev pub one : Way
one before now = now ≡ record before { steps = before.steps + 1 }

-- One instruction that looks at a variable
abbrev pub looking : ℕ → ℕ → Way
looking variable back before now =
    now ≡ record before { steps = before.steps + 1; looks = before.looks ++ record { number = before.steps; variable = variable; back = back } ∷ [] }

-- One instruction that sends
abbrev pub sending : Sending → Way
sending send before now = now ≡ record before { steps = before.steps + 1; sends = before.sends ++ send ∷ [] }

-- One after the other
abbrev pub both : Way → Way → Way
both first second before now = (between : Meter) × first before between × second between now

-- This or that
abbrev pub either : Way → Way → Way
either this that before now = this before now ⊎ that before now

-- ---- expressions

-- Through all of them, from left to right
abbrev pub ways_through : {X : Type 0} → (X → Way) → List X → Way
ways_through way [] = here
ways_through way (x ∷ rest) = both (way x) (ways_through way rest)

-- `&&` and `||` evaluate their right side or don't.
abbrev pub binary_way : Op2 → Way → Way → Way
binary_way op.AndAnd left right = both left (both one (either here (both right one)))
binary_way op.OrOr left right = both left (both one (either here (both right one)))
binary_way operator left right = both left (both right one)

-- The ways of an expression, once those of its parts are known.
abbrev pub expr_way_step : (ℕ → Way) → (X : Type 0) → (X → Expr) → (X → Way) → Expr-F X → Way
expr_way_step callees X tree way (Expr-F.Number number) = one
expr_way_step callees X tree way (Expr-F.Slot slot) = one
expr_way_step callees X tree way (Expr-F.Copy variable) = one
expr_way_step callees X tree way (Expr-F.Cell slot index) = both (way index) one
expr_way_step callees X tree way (Expr-F.Past variable back) = looking variable back
expr_way_step callees X tree way (Expr-F.Ready stream) = one
expr_way_step callees X tree way (Expr-F.Take stream) = one
expr_way_step callees X tree way (Expr-F.Unary operator width operand) = both (way operand) one
expr_way_step callees X tree way (Expr-F.Cast width operand) = both (way operand) one
expr_way_step callees X tree way (Expr-F.Binary operator width left right) = binary_way operator (way left) (way right)
expr_way_step callees X tree way (Expr-F.Call function arguments) = both (ways_through way arguments) (both one (callees function))

-- The ways of an expression.
abbrev pub expr_way : (ℕ → Way) → Expr → Way
expr_way callees = rec-Expr Way (expr_way_step callees)

-- ---- statements

-- Where a way ends: behind the statements, back in the caller, or at a point.
pub data End : Type 0 where
  Fell : End
  Back : End
  To : (point : ℕ) → End

-- The ways to each end
abbrev pub Course : Type 1
Course = End → Way

-- Ways that fall through
abbrev pub falling : Way → Course
falling way Fell = way
falling way _ = no_way

-- Ways that end back in the caller
abbrev pub returning : Way → Course
returning way Back = way
returning way _ = no_way

-- Ways that end at a point
abbrev pub reaching : ℕ → Way → Course
reaching point way end before now = (end ≡ To point) × way before now

-- A course that doesn't fall through
abbrev pub leaving : Course → Course
leaving course Fell = no_way
leaving course end = course end

-- A course behind a way
abbrev pub behind : Way → Course → Course
behind way course end = both way (course end)

-- Falls through the first into the second, or leaves the first
abbrev pub and_on : Course → Course → Course
and_on first second end = either (both (first Fell) (second end)) (leaving first end)

-- This course or that
abbrev pub or_else : Course → Course → Course
or_else this that end = either (this end) (that end)

-- One after the other
abbrev pub courses_through : {X : Type 0} → (X → Course) → List X → Course
courses_through course [] = falling here
courses_through course (x ∷ rest) = and_on (course x) (courses_through course rest)

-- At most so many turns of a bounded loop, each behind its test
abbrev pub turning : ℕ → Way → Course → Course
turning zero test body = falling (both test (both one one))
turning (suc more) test body = or_else (falling (both test (both one one)))
    (behind (both test (both one one)) (and_on body (behind one (turning more test body))))

-- The ways of an `if` behind its test: a jump follows a first branch that has a second.
abbrev pub branching : {X : Type 0} → (X → Course) → Course → Option (List X) → Course
branching course branch None = or_else branch (falling here)
branching course branch (Some other) = or_else (and_on branch (falling one)) (courses_through course other)

-- The course of a statement, once those of its parts are known.
abbrev pub course_step : (ℕ → Way) → (X : Type 0) → (X → Stmt) → (X → Course) → Stmt-F X → Course
course_step callees X tree course (Stmt-F.Set slot value) = falling (both (expr_way callees value) one)
course_step callees X tree course (Stmt-F.SetCopy variable value) = falling (both (expr_way callees value) one)
course_step callees X tree course (Stmt-F.SetCell slot index value) = falling (both (expr_way callees index) (both (expr_way callees value) one))
course_step callees X tree course (Stmt-F.If test branch other) = behind (both (expr_way callees test) one)
    (branching course (courses_through course branch) other)
course_step callees X tree course (Stmt-F.Bounded test most body) = behind one (turning most (expr_way callees test) (courses_through course body))
course_step callees X tree course (Stmt-F.Timed test body) = behind (both (expr_way callees test) one) (or_else (courses_through course body) (falling here))
course_step callees X tree course (Stmt-F.Send value stream after clock) = falling
    (both (expr_way callees value) (sending (record { stream = stream; after = after; clock = clock })))
course_step callees X tree course (Stmt-F.Advance point) = reaching point one
course_step callees X tree course (Stmt-F.Return value) = returning (both (expr_way callees value) one)

-- The course of a statement.
abbrev pub course_by : (ℕ → Way) → Stmt → Course
course_by callees = rec-Stmt Course (course_step callees)

-- ---- functions

-- Back in the caller by a `return`, or by falling through, which costs two instructions
abbrev pub back_way : Course → Way
back_way course = either (course Back) (both (course Fell) (both one one))

-- The ways of a function, where it calls these.
abbrev pub callee_way : (ℕ → Way) → FunctionDecl → Way
callee_way above function = back_way (courses_through (course_by above) function.stmts)

-- One function more, of this number
abbrev pub with_way : ℕ → Way → (ℕ → Way) → ℕ → Way
with_way number last above function before now = ((function ≡ number) × last before now) ⊎ ((function ≢ number) × above function before now)

-- The ways of these functions, counted from a number on
abbrev pub callee_ways_from : ℕ → (ℕ → Way) → List FunctionDecl → ℕ → Way
callee_ways_from number above [] = above
callee_ways_from number above (f ∷ rest) = callee_ways_from (number + 1) (with_way number (callee_way above f) above) rest

-- The ways of a unit's functions, by number.
abbrev pub callee_ways : List FunctionDecl → ℕ → Way
callee_ways functions = callee_ways_from 0 (λ function. here) functions

-- ---- pieces of a body

-- The course of a piece.
abbrev pub piece_course : (ℕ → Way) → Piece → Course
piece_course callees (Do stmt) = course_by callees stmt
piece_course callees Hop = falling one

-- A way through the pieces to the first `advance`, that of the point
abbrev pub IsWay : List FunctionDecl → List Piece → ℕ → Meter → Type 0
IsWay functions pieces point met = courses_through (piece_course (callee_ways functions)) pieces (To point) unmetered met

-- What was met is the front of what a way meets: no more instructions, and the first of its looks and sends.
pub record IsFrontOf (some all : Meter) : Type 0 where
  pub steps : some.steps ≤ all.steps
  pub looks : (more : List Looked) × (all.looks ≡ some.looks ++ more)
  pub sends : (more : List Sending) × (all.sends ≡ some.sends ++ more)
