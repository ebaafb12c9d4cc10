-- Which agents an agent's values depend on: those that feed it, those that feed these, and so on.
use Rattle.std.specs.Prelude.{◌≡◌, ℕ, ◌↔◌, List, [], ◌∷◌, ◌++◌, map, Some, None, slice_get, ⊤}
use Rattle.std.specs.List.{Contains, flat_map}
use Rattle.psy_tree.specs.declared.unit.Expr.{Expr, fold-Expr}
use Rattle.psy_tree.specs.declared.unit.Expr.TheOpen.{Expr-F}
use Rattle.psy_tree.specs.declared.unit.Stmt.{Stmt, fold-Stmt}
use Rattle.psy_tree.specs.declared.unit.Stmt.TheOpen.{Stmt-F}
use Rattle.psy_tree.specs.declared.unit.StreamDecl.{StreamDecl}
use Rattle.psy_tree.specs.declared.unit.Unit.{Unit as Whole}
use Rattle.psy_tree.specs.declared.unit.VarDecl.{VarDecl}
use Rattle.psy_history.specs.Actions.{Action, Overran}
use Rattle.psy_tree.specs.Parts.{agent_at}
use Rattle.psy_meaning.specs.Sendings.{sendings_in}
use Rattle.psy_history.specs.Visible.{taken}
use Rattle.psy_meaning.specs.Ways.{Sending}

-- ---- the variables that a text looks at

-- Lists one behind the other
abbrev pub all_pasts : List (List ℕ) → List ℕ
all_pasts = flat_map (λ variables. variables)

-- The variables that an expression looks at by `past`, once those of its parts are known
abbrev pub expr_pasts_step : Expr-F (List ℕ) → List ℕ
expr_pasts_step (Expr-F.Past variable back) = variable ∷ []
expr_pasts_step (Expr-F.Cell slot index) = index
expr_pasts_step (Expr-F.Unary operator width operand) = operand
expr_pasts_step (Expr-F.Binary operator width left right) = left ++ right
expr_pasts_step (Expr-F.Cast width operand) = operand
expr_pasts_step (Expr-F.Call function arguments) = all_pasts arguments
expr_pasts_step _ = []

-- The variables that an expression looks at
abbrev pub expr_pasts : Expr → List ℕ
expr_pasts = fold-Expr (List ℕ) expr_pasts_step

-- The variables that a statement looks at, once those of its parts are known
abbrev pub stmt_pasts_step : Stmt-F (List ℕ) → List ℕ
stmt_pasts_step (Stmt-F.Set slot value) = expr_pasts value
stmt_pasts_step (Stmt-F.SetCopy variable value) = expr_pasts value
stmt_pasts_step (Stmt-F.SetCell slot index value) = expr_pasts index ++ expr_pasts value
stmt_pasts_step (Stmt-F.If test branch None) = expr_pasts test ++ all_pasts branch
stmt_pasts_step (Stmt-F.If test branch (Some other)) = expr_pasts test ++ (all_pasts branch ++ all_pasts other)
stmt_pasts_step (Stmt-F.Bounded test most body) = expr_pasts test ++ all_pasts body
stmt_pasts_step (Stmt-F.Timed test body) = expr_pasts test ++ all_pasts body
stmt_pasts_step (Stmt-F.Send value stream after clock) = expr_pasts value
stmt_pasts_step (Stmt-F.Advance point) = []
stmt_pasts_step (Stmt-F.Return value) = expr_pasts value

-- The variables that a statement looks at
abbrev pub stmt_pasts : Stmt → List ℕ
stmt_pasts = fold-Stmt (List ℕ) stmt_pasts_step

-- The variables that statements look at
abbrev pub pasts_in : List Stmt → List ℕ
pasts_in stmts = all_pasts (map stmt_pasts stmts)

-- ---- who feeds whom

-- An agent feeds another directly: the other's text holds a `past` of a variable of the first, or the first one's text holds a
-- `send` to a stream of which the other is the receiver.
pub data Feeds (unit : Whole) (from to : ℕ) : Type 0 where
  by_variable : (variable : ℕ) (v : VarDecl) → slice_get unit.variables variable ≡ Some v → v.owner ≡ Some from
      → Contains (pasts_in (agent_at unit to).stmts) variable → Feeds unit from to
  by_stream : (sending : Sending) (s : StreamDecl) → Contains (sendings_in (agent_at unit from).stmts) sending
      → slice_get unit.streams sending.stream ≡ Some s → s.receiver ≡ to → Feeds unit from to

-- An agent reaches another: it is that one, or a chain of direct feedings leads to it.
pub data Reaches (unit : Whole) (to : ℕ) : ℕ → Type 0 where
  itself : Reaches unit to to
  by_chain : (from via : ℕ) → Feeds unit from via → Reaches unit to via → Reaches unit to from

-- ---- actions that differ in their charges alone

-- Of two lists of actions those with the same number both overran or both didn't.
abbrev pub OverranAlike : List Action → List Action → Type 0
OverranAlike rs qs = (r q : Action) → Contains rs r → Contains qs q → r.number ≡ q.number → (r.verdict ≡ Overran) ↔ (q.verdict ≡ Overran)

-- Two actions are the same but for their charges: where and when they start, their budgets and deadlines, their costs, looks, sends
-- and takes, how and when they end, and what is carried behind them.
pub record IsSame (r q : Action) : Type 0 where
  pub agent : r.agent ≡ q.agent
  pub number : r.number ≡ q.number
  pub point : r.point ≡ q.point
  pub start : r.start ≡ q.start
  pub budget : r.budget ≡ q.budget
  pub deadline : r.deadline ≡ q.deadline
  pub before : r.before ≡ q.before
  pub deeds : r.deeds ≡ q.deeds
  pub taken : (stream : ℕ) → taken r stream ≡ taken q stream
  pub verdict : r.verdict ≡ q.verdict
  pub after : r.after ≡ q.after

-- The same of the actions of an agent, one by one
abbrev pub AreSame : List Action → List Action → Type 0
AreSame [] [] = ⊤
AreSame (r ∷ rs) (q ∷ qs) = IsSame r q × AreSame rs qs
AreSame _ _ = ⊥
