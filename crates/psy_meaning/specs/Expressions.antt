-- The value of an expression, what it costs, asks and takes, from left to right (ISO C 6.5).
use Rattle.std.specs.Prelude.{ℕ, not, if◌then◌else◌, List, [], ◌∷◌, length, Option, Some, None, ℤ, pos}
use Rattle.std.specs.Int.{int_wrap}
use Rattle.psy_arith.specs.declared.operators.Op2.{Op2}
use Rattle.psy_arith.specs.declared.operators.Op2.TheVariants as op
use Rattle.psy_arith.specs.declared.operators.Trap.TheVariants as trap
use Rattle.psy_arith.specs.declared.width.Width.{Width}
use Rattle.psy_arith.specs.Operators.{truth, is_zero}
use Rattle.psy_arith.specs.Types.{taken1, taken2}
use Rattle.psy_arith.specs.Widths.{of_type}
use Rattle.psy_code.specs.Views.{View, Past, Ready, Take, past_of, messages_of, count_as_value, next_in}
use Rattle.psy_code.specs.Execution.{index_in}
use Rattle.psy_tree.specs.declared.unit.Expr.{Expr, fold-Expr}
use Rattle.psy_tree.specs.declared.unit.Expr.TheOpen.{Expr-F}
use Rattle.psy_meaning.specs.States.{State, Got, Value, Eval, Callee, and_then, cost_1, asking, or_stop, cells_at, value_at, copy_at, value_or_zero}

-- The cell of an array that an index names
abbrev pub element : ℕ → ℤ → State → Got
element slot index s = or_stop trap.Index (index_in (length (cells_at s.store slot)) index) s (λ i. Value (value_at s.store slot i) (cost_1 s))

-- No messages, where there are none to see
abbrev pub or_none : Option (List ℤ) → List ℤ
or_none None = []
or_none (Some messages) = messages

-- The messages of a stream that aren't yet taken
abbrev pub messages_at : View → ℕ → List ℤ
messages_at view stream = or_none (messages_of view stream)

-- The first message of a stream
abbrev pub take_from : ℕ → State → Got
take_from stream s = or_stop trap.Take (next_in s.view stream) s (λ v. Value v (asking (Take stream) s))

-- An operator that has both its operands, at its width
abbrev pub applied : Op2 → Width → ℤ → ℤ → State → Got
applied operator width a b s = or_stop trap.Divide (taken2 (of_type width) operator a b) s (λ v. Value v (cost_1 s))

-- 1 where the value isn't 0
abbrev pub truth_of : Got → Got
truth_of got = and_then got (λ v s. Value (truth (not (is_zero v))) (cost_1 s))

-- `a && b` doesn't evaluate b where a is 0, and `a || b` doesn't where a isn't 0.
abbrev pub binary : Op2 → Width → Eval → Eval → Eval
binary op.AndAnd width left right s = and_then (left s) (λ a t. if is_zero a then Value (pos 0) (cost_1 t) else truth_of (right (cost_1 t)))
binary op.OrOr width left right s = and_then (left s) (λ a t. if is_zero a then truth_of (right (cost_1 t)) else Value (pos 1) (cost_1 t))
binary operator width left right s = and_then (left s) (λ a t. and_then (right t) (λ b u. applied operator width a b u))

-- All arguments, from left to right
abbrev pub in_order : List Eval → State → (List ℤ → State → Got) → Got
in_order [] s go = go [] s
in_order (e ∷ es) s go = and_then (e s) (λ v t. in_order es t (λ vs u. go (v ∷ vs) u))

-- What an expression gives, once each of its parts is known to give something.
abbrev pub expr_step : (ℕ → Callee) → Expr-F Eval → Eval
expr_step callees (Expr-F.Number number) s = Value number (cost_1 s)
expr_step callees (Expr-F.Slot slot) s = Value (value_at s.store slot 0) (cost_1 s)
expr_step callees (Expr-F.Copy variable) s = Value (copy_at s.store variable) (cost_1 s)
expr_step callees (Expr-F.Cell slot index) s = and_then (index s) (λ i t. element slot i t)
expr_step callees (Expr-F.Past variable back) s = Value (value_or_zero (past_of s.view variable back)) (asking (Past variable back) s)
expr_step callees (Expr-F.Ready stream) s = Value (count_as_value (messages_at s.view stream)) (asking (Ready stream) s)
expr_step callees (Expr-F.Take stream) s = take_from stream s
expr_step callees (Expr-F.Unary operator width operand) s = and_then (operand s) (λ a t. Value (taken1 (of_type width) operator a) (cost_1 t))
expr_step callees (Expr-F.Binary operator width left right) s = binary operator width left right s
expr_step callees (Expr-F.Call function arguments) s = in_order arguments s (λ values t. callees function values (cost_1 t))
expr_step callees (Expr-F.Cast width operand) s = and_then (operand s) (λ a t. Value (int_wrap (of_type width) a) (cost_1 t))

-- What an expression gives in a state.
abbrev pub eval : (ℕ → Callee) → Expr → Eval
eval callees = fold-Expr Eval (expr_step callees)
