-- The unit that a program stands for: the program with numbers for names.
use Rattle.std.specs.Prelude.{◌≡◌, ℕ, ◌+◌, Bool, true, false, nat_lt, if◌then◌else◌, List, [], ◌∷◌, ◌++◌, map, take, length, Option, Some, None}
use Rattle.std.specs.Prelude.{option_to_list, slice_get, ℤ, pos}
use Rattle.std.specs.List.{count_by, find, list_any, flat_map}
use Rattle.std.specs.Int.{w32, cast_signed, int_wrapping_neg}
use Rattle.psy_arith.specs.declared.operators.Op2.{Op2}
use Rattle.psy_arith.specs.declared.width.Width.{Width}
use Rattle.psy_arith.specs.declared.width.Width.TheVariants.{W32}
use Rattle.psy_arith.specs.Types.{type1, type2}
use Rattle.psy_arith.specs.Widths.{is_narrower, wider}
use Rattle.psy_base.specs.declared.limits.TheConstants.{CLOCKS, AGENTS, VARIABLES, STREAMS, FUNCTIONS, NAMES, POINTS}
use Rattle.psy_tree.specs.declared.raw.Name.{Name}
use Rattle.psy_tree.specs.declared.raw.Lit.{Lit}
use Rattle.psy_tree.specs.declared.raw.Init.{Init}
use Rattle.psy_tree.specs.declared.raw.Local.{Local}
use Rattle.psy_tree.specs.declared.raw.Local.TheVariants as local
use Rattle.psy_tree.specs.declared.raw.Item.{Item}
use Rattle.psy_tree.specs.declared.raw.Item.TheVariants as item
use Rattle.psy_tree.specs.declared.raw.Raw.{Raw}
use Rattle.psy_tree.specs.declared.raw.RawExpr.{RawExpr, fold-RawExpr}
use Rattle.psy_tree.specs.declared.raw.RawExpr.TheOpen.{RawExpr-F}
use Rattle.psy_tree.specs.declared.raw.RawStmt.{RawStmt, fold-RawStmt}
use Rattle.psy_tree.specs.declared.raw.RawStmt.TheOpen.{RawStmt-F}
use Rattle.psy_tree.specs.declared.reach.Found.{Found}
use Rattle.psy_tree.specs.declared.reach.Found.TheVariants as found
use Rattle.psy_tree.specs.declared.rules.Count.{Count}
use Rattle.psy_tree.specs.declared.rules.Count.TheVariants as counted
use Rattle.psy_tree.specs.declared.unit.Unit.{Unit as Whole}
use Rattle.psy_tree.specs.declared.unit.VarDecl.{VarDecl}
use Rattle.psy_tree.specs.declared.unit.StreamDecl.{StreamDecl}
use Rattle.psy_tree.specs.declared.unit.FunctionDecl.{FunctionDecl}
use Rattle.psy_tree.specs.declared.unit.LocalDecl.{LocalDecl}
use Rattle.psy_tree.specs.declared.unit.AgentDecl.{AgentDecl}
use Rattle.psy_tree.specs.declared.unit.Slots.{Slots}
use Rattle.psy_tree.specs.declared.unit.Point.{Point}
use Rattle.psy_tree.specs.declared.unit.Expr.{Expr, roll-Expr}
use Rattle.psy_tree.specs.declared.unit.Expr.TheOpen.{Expr-F}
use Rattle.psy_tree.specs.declared.unit.Stmt.{Stmt, roll-Stmt}
use Rattle.psy_tree.specs.declared.unit.Stmt.TheOpen.{Stmt-F}
use Rattle.psy_tree.specs.Paths.{advances_list}
use Rattle.psy_tree.specs.Scope.{Site, SlotName, own_slots, slots_of, stands_for, stands_globally}
use Rattle.psy_tree.specs.Rules.{is_clock, is_agent, is_function, is_stream, sound_clocks, NoFault}

-- ---- counts and their limits

-- There is a declaration, and it is a temporal variable or an input.
abbrev pub is_variable : Option Item → Bool
is_variable (Some (item.Temporal name owner clock init depth)) = true
is_variable (Some (item.Input name clock init depth)) = true
is_variable _ = false

-- How many of the declarations are such.
abbrev pub counting : (Option Item → Bool) → List Item → ℕ
counting p items = count_by (λ i. p (Some i)) items

-- The points of an agent: the head of its body, and each `advance`.
abbrev pub points_of : Item → ℕ
points_of (item.Agent name clock processor budget locals body stmts) = 1 + advances_list stmts
points_of _ = 0

-- A count passes its limit.
abbrev pub passes : List Item → Count → Bool
passes items counted.Clocks = nat_lt CLOCKS (counting is_clock items)
passes items counted.Agents = nat_lt AGENTS (counting is_agent items)
passes items counted.Variables = nat_lt VARIABLES (counting is_variable items)
passes items counted.Streams = nat_lt STREAMS (counting is_stream items)
passes items counted.Functions = nat_lt FUNCTIONS (counting is_function items)
passes items counted.Names = list_any (λ i. nat_lt NAMES (length (slots_of i))) items
passes items counted.Points = list_any (λ i. nat_lt POINTS (points_of i)) items

-- The counts in the order in which they are judged
abbrev pub counts : List Count
counts =
    counted.Clocks ∷ (counted.Agents ∷ (counted.Variables ∷ (counted.Streams ∷ (counted.Functions ∷ (counted.Names ∷ (counted.Points ∷ []))))))

-- The first count that passes its limit, in their order.
abbrev pub first_passed : Raw → Option Count
first_passed raw = find (passes raw.items) counts

-- ---- numbers for names

-- A literal as a signed number of 32 bits: itself, since it is at most 2,147,483,647.
abbrev pub signed : Lit → ℤ
signed l = cast_signed w32 l.value

-- A first value as a signed number of 32 bits.
abbrev pub first_value : Init → ℤ
first_value i = if i.minus then int_wrapping_neg w32 (signed i.value) else signed i.value

-- The number of a declaration among those of its kind.
abbrev pub number_of_item : (Option Item → Bool) → List Item → Option Found → ℕ
number_of_item p items (Some (found.Item k)) = counting p (take k items)
number_of_item p items _ = 0

-- The number of the one that a name stands for among the program's declarations alone.
abbrev pub global_number : (Option Item → Bool) → List Item → Name → ℕ
global_number p items name = number_of_item p items (stands_globally items name.text)

-- The number of the one that a name stands for at a site.
abbrev pub number_at : (Option Item → Bool) → Site → Name → ℕ
number_at p site name = number_of_item p site.items (stands_for site name.text)

-- The number of a slot, and 0 where none was found.
abbrev pub slot_number : Option Found → ℕ
slot_number (Some (found.Slot k)) = k
slot_number _ = 0

-- ---- types (ISO C 6.3.1.3, 6.5.4; nothing is promoted to `int`)

-- The type of a slot, `int` where there is none.
abbrev pub width_of_slot : Option SlotName → Width
width_of_slot None = W32
width_of_slot (Some slot) = slot.width

-- The type of what a name stands for at a site: a slot has its own, and a temporal variable is an `int`.
abbrev pub width_at : Site → Option Found → Width
width_at site (Some (found.Slot k)) = width_of_slot (slice_get (own_slots site) k)
width_at site _ = W32

-- An expression of the unit, and the type that the text gives it.
pub record Typed : Type 0 where
  pub expr : Expr
  pub width : Width

-- An expression of type `int`.
abbrev pub int_typed : Expr → Typed
int_typed e = record { expr = e; width = W32 }

-- Where a value of a type goes: narrowed where that type is narrower than the expression's own. Widening leaves no node.
abbrev pub into : Width → Typed → Expr
into width e = if is_narrower width e.width then roll-Expr (Expr-F.Cast width e.expr) else e.expr

-- ---- expressions

-- A slot, or a variable that the agent owns
abbrev pub value_of : Site → Option Found → Expr
value_of site (Some (found.Item k)) = roll-Expr (Expr-F.Copy (counting is_variable (take k site.items)))
value_of site f = roll-Expr (Expr-F.Slot (slot_number f))

-- An operator on two operands is done in the wider of their types.
abbrev pub binary_of_typed : Op2 → Width → Expr → Expr → Typed
binary_of_typed op width left right = record { expr = roll-Expr (Expr-F.Binary op width left right); width = type2 op width }

-- An expression with its type, given those that its parts stand for
abbrev pub expr_step : Site → RawExpr-F Typed → Typed
expr_step site (RawExpr-F.Number number) = int_typed (roll-Expr (Expr-F.Number (signed number)))
expr_step site (RawExpr-F.Var name) = record { expr = value_of site (stands_for site name.text); width = width_at site (stands_for site name.text) }
expr_step site (RawExpr-F.Cell name index) = record {
  expr = roll-Expr (Expr-F.Cell (slot_number (stands_for site name.text)) index.expr);
  width = width_at site (stands_for site name.text);
}
expr_step site (RawExpr-F.Past token name back) = int_typed (roll-Expr (Expr-F.Past (number_at is_variable site name) back.value))
expr_step site (RawExpr-F.Ready token name) = int_typed (roll-Expr (Expr-F.Ready (number_at is_stream site name)))
expr_step site (RawExpr-F.Take token name) = int_typed (roll-Expr (Expr-F.Take (number_at is_stream site name)))
expr_step site (RawExpr-F.Unary op operand) =
    record { expr = roll-Expr (Expr-F.Unary op operand.width operand.expr); width = type1 op operand.width }
expr_step site (RawExpr-F.Binary op left right) = binary_of_typed op (wider left.width right.width) left.expr right.expr
expr_step site (RawExpr-F.Call name arguments) = int_typed (roll-Expr (Expr-F.Call (number_at is_function site name) (map (into W32) arguments)))
expr_step site (RawExpr-F.Cast width operand) = record { expr = into width operand; width = width }

-- What an expression of the program's text stands for at a site, with its type
abbrev pub typed_of : Site → RawExpr → Typed
typed_of site = fold-RawExpr Typed (expr_step site)

-- What an index or a test stands for at a site, which may have any type
abbrev pub expr_of : Site → RawExpr → Expr
expr_of site e = (typed_of site e).expr

-- What an expression stands for at a site where a value of a type is asked for
abbrev pub expr_into : Site → Width → RawExpr → Expr
expr_into site width e = into width (typed_of site e)

-- ---- statements: each with the points before it, and these with its own behind them

-- Given the points before it, what something stands for, and these points with its own behind them.
abbrev pub Numbering : Type 0 → Type 0
Numbering A = List Point → A × List Point

-- Something made of the first, with the same points.
abbrev pub with_value : {A B : Type 0} → (A → B) → A × List Point → B × List Point
with_value f r = (f r.0, r.1)

-- One more at the front of the list, with the same points.
abbrev pub and_more : {A : Type 0} → A → List A × List Point → List A × List Point
and_more a r = (a ∷ r.0, r.1)

-- All of them in a row: each is given the points that the one before it leaves.
abbrev pub in_turn : {A : Type 0} → List (Numbering A) → Numbering (List A)
in_turn [] points = ([], points)
in_turn (n ∷ ns) points = and_more (n points).0 (in_turn ns (n points).1)

-- The budget of an agent, 0 where it is none.
abbrev pub agent_budget : Option Item → ℕ
agent_budget (Some (item.Agent name clock processor budget locals body stmts)) = budget.value
agent_budget _ = 0

-- The budget that an `advance` gives the next action: its own, or the agent's.
abbrev pub budget_of : Site → Option Lit → ℕ
budget_of site None = agent_budget (slice_get site.items site.at)
budget_of site (Some budget) = budget.value

-- An assignment to a variable that the agent owns, or else to a slot, of a value that has its type.
abbrev pub set_by : Site → Option Found → Expr → Stmt
set_by site (Some (found.Item k)) value = roll-Stmt (Stmt-F.SetCopy (counting is_variable (take k site.items)) value)
set_by site f value = roll-Stmt (Stmt-F.Set (slot_number f) value)

-- A loop without `max`, or one with its greatest number of turns.
abbrev pub while_of : Option Lit → Expr → List Stmt → Stmt
while_of None test body = roll-Stmt (Stmt-F.Timed test body)
while_of (Some most) test body = roll-Stmt (Stmt-F.Bounded test most.value body)

-- A statement, given what the statements inside it stand for
abbrev pub stmt_step : Site → RawStmt-F (Numbering Stmt) → Numbering Stmt
stmt_step site (RawStmt-F.Set name value) points =
    (set_by site (stands_for site name.text) (expr_into site (width_at site (stands_for site name.text)) value), points)
stmt_step site (RawStmt-F.SetCell name index value) points = (
  roll-Stmt (Stmt-F.SetCell (slot_number (stands_for site name.text)) (expr_of site index)
      (expr_into site (width_at site (stands_for site name.text)) value)),
  points,
)
stmt_step site (RawStmt-F.If test branch None) points =
    with_value (λ ss. roll-Stmt (Stmt-F.If (expr_of site test) ss None)) (in_turn branch points)
stmt_step site (RawStmt-F.If test branch (Some other)) points =
    with_value (λ ts. roll-Stmt (Stmt-F.If (expr_of site test) (in_turn branch points).0 (Some ts))) (in_turn other (in_turn branch points).1)
stmt_step site (RawStmt-F.While token test most body) points =
    with_value (while_of most (expr_of site test)) (in_turn body points)
stmt_step site (RawStmt-F.Send token value stream after clock) points =
    (roll-Stmt (Stmt-F.Send (expr_into site W32 value) (number_at is_stream site stream) after.value (number_at is_clock site clock)), points)
stmt_step site (RawStmt-F.Advance token count clock budget) points = (
  roll-Stmt (Stmt-F.Advance (length points)),
  points ++ record { count = count.value; clock = number_at is_clock site clock; budget = budget_of site budget } ∷ [],
)
stmt_step site (RawStmt-F.Return token value) points = (roll-Stmt (Stmt-F.Return (expr_into site W32 value)), points)

-- What a statement of the program's text stands for at a site
abbrev pub stmt_of : Site → RawStmt → Numbering Stmt
stmt_of site = fold-RawStmt (Numbering Stmt) (stmt_step site)

-- What a list of statements stands for at a site
abbrev pub stmts_of : Site → List RawStmt → Numbering (List Stmt)
stmts_of site stmts = in_turn (map (stmt_of site) stmts)

-- ---- declarations

-- An agent's local with its cells: a variable has one, with its first value, and those of an array begin at 0.
abbrev pub slot_of : Local → Slots
slot_of (local.Scalar width name init) = record { name = name.text; cells = 1; init = first_value init; array = false; width = width }
slot_of (local.Array width name cells) = record { name = name.text; cells = cells.value; init = pos 0; array = true; width = width }

-- A function's local: its first value, 0 where it is an array, and its type.
abbrev pub local_of : Local → LocalDecl
local_of (local.Scalar width name init) = record { init = first_value init; width = width }
local_of (local.Array width name cells) = record { init = pos 0; width = width }

-- The name of a clock, where the declaration is one.
abbrev pub clock_names : Item → List (List ℕ)
clock_names (item.Clock name by parent shift) = name.text ∷ []
clock_names _ = []

-- The temporal variable or input that a declaration is, where it is one. An input has no owner.
abbrev pub variables : List Item → Item → List VarDecl
variables items (item.Temporal name owner clock init depth) =
    record {
      name = name.text;
      owner = Some
          (global_number is_agent items owner);
      clock = global_number is_clock items clock;
      init = first_value init;
      depth = depth.value;
    } ∷ []
variables items (item.Input name clock init depth) =
    record { name = name.text; owner = None; clock = global_number is_clock items clock; init = first_value init; depth = depth.value } ∷ []
variables items _ = []

-- The stream that a declaration is, where it is one.
abbrev pub streams : List Item → Item → List StreamDecl
streams items (item.Stream name receiver keep clock) =
    record { name = name.text; receiver = global_number is_agent items receiver; keep = keep.value; clock = global_number is_clock items clock } ∷ []
streams items _ = []

-- The site inside declaration number k.
abbrev pub inside_of : List Item → ℕ → Site
inside_of items k = record { items = items; at = k; inside = true }

-- The function that declaration number k is, where it is one.
abbrev pub functions : List Item → ℕ → Item → List FunctionDecl
functions items k (item.Function name params locals stmts) =
    record { name = name.text; params = length params; locals = map local_of locals; stmts = (stmts_of (inside_of items k) stmts []).0 } ∷ []
functions items k _ = []

-- Point 0 is the head of the body.
abbrev pub head_point : ℕ → ℕ → Point
head_point clock budget = record { count = 0; clock = clock; budget = budget }

-- The processor that an agent names, 0 where it names none.
abbrev pub named_processor : Option Lit → ℕ
named_processor None = 0
named_processor (Some processor) = processor.value

-- An agent with its statements and its points.
abbrev pub agent_with : List Item → Name → Name → Option Lit → Lit → List Local → List Stmt × List Point → AgentDecl
agent_with items name clock processor budget locals body = record {
  name = name.text;
  clock = global_number is_clock items clock;
  processor = named_processor processor;
  budget = budget.value;
  slots = map slot_of locals;
  points = body.1;
  stmts = body.0;
}

-- The agent that declaration number k is, where it is one.
abbrev pub agents : List Item → ℕ → Item → List AgentDecl
agents items k (item.Agent name clock processor budget locals body stmts) =
    agent_with items name clock processor budget locals
    (stmts_of (inside_of items k) stmts (head_point (global_number is_clock items clock) budget.value ∷ [])) ∷ []
agents items k _ = []

-- What each declaration gives, from number k on
abbrev pub each_from : {A : Type 0} → (ℕ → Item → List A) → ℕ → List Item → List A
each_from f k [] = []
each_from f k (i ∷ is) = f k i ++ each_from f (k + 1) is

-- The unit of a program: its declarations by kind, each kind in the order of the text.
abbrev pub unit_of : Raw → Whole
unit_of raw = record {
  quantum = raw.quantum.value;
  clocks = flat_map option_to_list (sound_clocks raw.items (length raw.items));
  clock_names = flat_map clock_names raw.items;
  variables = flat_map (variables raw.items) raw.items;
  streams = flat_map (streams raw.items) raw.items;
  functions = each_from (functions raw.items) 0 raw.items;
  agents = each_from (agents raw.items) 0 raw.items;
}

-- The unit is that of a program without a fault, no count of which passes its limit.
pub record Stands (unit : Whole) (raw : Raw) : Type 0 where
  pub no_fault : NoFault raw
  pub within_limits : first_passed raw ≡ None
  pub numbered : unit ≡ unit_of raw
