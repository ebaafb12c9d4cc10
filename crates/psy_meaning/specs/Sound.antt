-- What expressions and statements may name where they stand.
use Rattle.std.specs.Prelude.{◌≡◌, ℕ, ◌<◌, ◌≤◌, Bool, true, false, ◌==◌, List, [], ◌∷◌, ◌++◌, ◌+◌, map, replicate, length, Option, Some, None}
use Rattle.std.specs.Prelude.{slice_get, get_or, FitsSigned, ⊤}
use Rattle.std.specs.Int.{w32}
use Rattle.std.specs.List.{All, range_with_len}
use Rattle.psy_arith.specs.declared.width.Width.{Width}
use Rattle.psy_arith.specs.declared.width.Width.TheVariants.{W32}
use Rattle.psy_arith.specs.Types.{type1, type2}
use Rattle.psy_arith.specs.Widths.{is_narrower, of_type}
use Rattle.psy_base.specs.declared.limits.TheConstants.{AFTER, FUNCTIONS, TURNS}
use Rattle.psy_tree.specs.declared.unit.Unit.{Unit as Whole}
use Rattle.psy_tree.specs.declared.unit.AgentDecl.{AgentDecl}
use Rattle.psy_tree.specs.declared.unit.FunctionDecl.{FunctionDecl}
use Rattle.psy_tree.specs.declared.unit.Expr.{Expr, fold-Expr, rec-Expr}
use Rattle.psy_tree.specs.declared.unit.Expr.TheOpen.{Expr-F}
use Rattle.psy_tree.specs.declared.unit.Stmt.{Stmt, rec-Stmt}
use Rattle.psy_tree.specs.declared.unit.Stmt.TheOpen.{Stmt-F}
use Rattle.psy_meaning.specs.Alike.{first_copies}
use Rattle.psy_meaning.specs.Paths.{advances_in, holds_advance, quiet_list}

-- What can be named in an agent or a function.
pub record Scope : Type 0 where
  -- by slot, how many cells it has
  pub layout : List ℕ
  -- by slot, the type of its cells
  pub widths : List Width
  -- the temporal variables that the agent owns
  pub copies : List ℕ
  -- by variable, how many of its dates can be looked back
  pub depths : List ℕ
  -- by stream, whether the agent receives it
  pub streams : List Bool
  -- how many clocks there are
  pub clocks : ℕ
  -- the functions that can be called
  pub functions : List FunctionDecl
  -- how many points the agent has
  pub points : ℕ
  -- whether messages may be sent
  pub sends : Bool
  -- whether a value may be returned
  pub returns : Bool

-- A slot with a cell
abbrev pub HasSlot : Scope → ℕ → Type 0
HasSlot scope slot = (cells : ℕ) × (slice_get scope.layout slot ≡ Some cells) × (0 < cells)

-- A variable that the agent owns
abbrev pub HasCopy : Scope → ℕ → Type 0
HasCopy scope variable = (place : ℕ) × (slice_get scope.copies place ≡ Some variable)

-- A look that isn't too deep
abbrev pub HasPast : Scope → ℕ → ℕ → Type 0
HasPast scope variable back = (depth : ℕ) × (slice_get scope.depths variable ≡ Some depth) × (back < depth)

-- A stream that the agent receives
abbrev pub HasStream : Scope → ℕ → Type 0
HasStream scope stream = slice_get scope.streams stream ≡ Some true

-- A function that can be called with so many arguments
abbrev pub HasFunction : Scope → ℕ → ℕ → Type 0
HasFunction scope function arguments = (decl : FunctionDecl) × (slice_get scope.functions function ≡ Some decl) × (arguments ≡ decl.params)

-- A message that can be sent: its stream and its clock exist, and it isn't delayed too long.
pub record CanSend (scope : Scope) (stream after clock : ℕ) : Type 0 where
  pub allowed : scope.sends ≡ true
  pub target : stream < length scope.streams
  pub by : clock < scope.clocks
  pub delay : after ≤ AFTER

-- The type that an expression gives by its form, once those of its parts are known: that of the text, or a narrower one, since
-- widening leaves no node
abbrev pub width_step : List Width → Expr-F Width → Width
width_step widths (Expr-F.Slot slot) = get_or widths slot W32
width_step widths (Expr-F.Cell slot index) = get_or widths slot W32
width_step widths (Expr-F.Unary operator width operand) = type1 operator width
width_step widths (Expr-F.Binary operator width left right) = type2 operator width
width_step widths (Expr-F.Cast width operand) = width
width_step widths _ = W32

-- The type that an expression gives by its form, where the slots have these types
abbrev pub expr_width : List Width → Expr → Width
expr_width widths = fold-Expr Width (width_step widths)

-- An expression that can stand where a value of this type goes: its own type isn't wider.
abbrev pub GoesInto : Scope → Width → Expr → Type 0
GoesInto scope width value = is_narrower width (expr_width scope.widths value) ≡ false

-- An expression that can stand where a value of a slot goes
abbrev pub GoesIntoSlot : Scope → ℕ → Expr → Type 0
GoesIntoSlot scope slot value = GoesInto scope (get_or scope.widths slot W32) value

-- Each of them is sound.
abbrev pub Each : {X : Type 0} → (X → Type 0) → List X → Type 0
Each sound [] = ⊤
Each sound (x ∷ rest) = sound x × Each sound rest

-- An expression is sound, once it is known which of its parts are.
abbrev pub sound_expr_step : Scope → (X : Type 0) → (X → Expr) → (X → Type 0) → Expr-F X → Type 0
sound_expr_step scope X tree sound (Expr-F.Number number) = FitsSigned w32 number
sound_expr_step scope X tree sound (Expr-F.Slot slot) = HasSlot scope slot
sound_expr_step scope X tree sound (Expr-F.Copy variable) = HasCopy scope variable
sound_expr_step scope X tree sound (Expr-F.Cell slot index) = HasSlot scope slot × sound index
sound_expr_step scope X tree sound (Expr-F.Past variable back) = HasPast scope variable back
sound_expr_step scope X tree sound (Expr-F.Ready stream) = HasStream scope stream
sound_expr_step scope X tree sound (Expr-F.Take stream) = HasStream scope stream
sound_expr_step scope X tree sound (Expr-F.Unary operator width operand) = sound operand
sound_expr_step scope X tree sound (Expr-F.Binary operator width left right) = sound left × sound right
sound_expr_step scope X tree sound (Expr-F.Call function arguments) = HasFunction scope function (length arguments) × Each sound arguments
    × Each (λ x. GoesInto scope W32 (tree x)) arguments
sound_expr_step scope X tree sound (Expr-F.Cast width operand) = sound operand

-- All that an expression names can be named, and arguments are of type `int`.
abbrev pub IsSoundExpr : Scope → Expr → Type 0
IsSoundExpr scope = rec-Expr (Type 0) (sound_expr_step scope)

-- ---- statements

-- All of them are sound, or there are none.
abbrev pub EachOr : {X : Type 0} → (X → Type 0) → Option (List X) → Type 0
EachOr sound None = ⊤
EachOr sound (Some xs) = Each sound xs

-- A statement is sound, once it is known which of its parts are. A loop without bound ends the action in each turn, and a
-- bounded one in none.
abbrev pub sound_stmt_step : Scope → (X : Type 0) → (X → Stmt) → (X → Type 0) → Stmt-F X → Type 0
sound_stmt_step scope X tree sound (Stmt-F.Set slot value) = HasSlot scope slot × IsSoundExpr scope value × GoesIntoSlot scope slot value
sound_stmt_step scope X tree sound (Stmt-F.SetCopy variable value) = HasCopy scope variable × IsSoundExpr scope value × GoesInto scope W32 value
sound_stmt_step scope X tree sound (Stmt-F.SetCell slot index value) = HasSlot scope slot × IsSoundExpr scope index × IsSoundExpr scope value
    × GoesIntoSlot scope slot value
sound_stmt_step scope X tree sound (Stmt-F.If test branch other) = IsSoundExpr scope test × Each sound branch × EachOr sound other
sound_stmt_step scope X tree sound (Stmt-F.Bounded test most body) = IsSoundExpr scope test × ((1 ≤ most) × (most ≤ TURNS)) × Each sound body
    × (holds_advance (map tree body) ≡ false)
sound_stmt_step scope X tree sound (Stmt-F.Timed test body) = IsSoundExpr scope test × (quiet_list (map tree body) ≡ false) × Each sound body
sound_stmt_step scope X tree sound (Stmt-F.Send value stream after clock) =
    CanSend scope stream after clock × IsSoundExpr scope value × GoesInto scope W32 value
sound_stmt_step scope X tree sound (Stmt-F.Advance point) = point < scope.points
sound_stmt_step scope X tree sound (Stmt-F.Return value) = (scope.returns ≡ true) × IsSoundExpr scope value × GoesInto scope W32 value

-- All that a statement names can be named, and a value that it stores, sends or returns is of the type of where it goes.
abbrev pub IsSoundStmt : Scope → Stmt → Type 0
IsSoundStmt scope = rec-Stmt (Type 0) (sound_stmt_step scope)

-- All that statements name can be named.
abbrev pub AreSound : Scope → List Stmt → Type 0
AreSound scope stmts = Each (IsSoundStmt scope) stmts

-- What can be named in a function: its own slots, and the functions above it
abbrev pub function_scope : List FunctionDecl → List ℕ → List Bool → FunctionDecl → Scope
function_scope above depths streams f =
    record {
      layout = replicate (f.params + length f.locals) 1;
      widths = replicate f.params W32 ++ map (λ l. l.width) f.locals;
      copies = [];
      depths = depths;
      streams = streams;
      clocks = 0;
      functions = above;
      points = 0;
      sends = false;
      returns = true;
    }

-- ---- units

-- A function names what it can name, whatever the variables and streams, and its locals begin with numbers of their types.
pub record IsSoundFunction (above : List FunctionDecl) (f : FunctionDecl) : Type 0 where
  pub stmts : (depths : List ℕ) (streams : List Bool) → AreSound (function_scope above depths streams f) f.stmts
  pub locals : All (λ l. FitsSigned (of_type l.width) l.init) f.locals

-- Functions are sound, where each calls those above it.
abbrev pub AreSoundFunctions : List FunctionDecl → List FunctionDecl → Type 0
AreSoundFunctions above [] = ⊤
AreSoundFunctions above (f ∷ rest) = IsSoundFunction above f × AreSoundFunctions (above ++ f ∷ []) rest

-- What can be named in an agent
abbrev pub agent_scope : Whole → ℕ → AgentDecl → Scope
agent_scope unit number agent = record {
  layout = map (λ s. s.cells) agent.slots;
  widths = map (λ s. s.width) agent.slots;
  copies = map (λ c. c.variable) (first_copies unit number);
  depths = map (λ v. v.depth) unit.variables;
  streams = map (λ s. s.receiver == number) unit.streams;
  clocks = length unit.clocks;
  functions = unit.functions;
  points = length agent.points;
  sends = true;
  returns = false;
}

-- An agent's statements name what it can name, each path through its body meets an `advance`, and its points beside the head
-- of its body are its `advance` statements, numbered from 1 in the order of the text.
pub record IsSoundAgent (unit : Whole) (number : ℕ) (agent : AgentDecl) : Type 0 where
  pub stmts : AreSound (agent_scope unit number agent) agent.stmts
  pub ends : quiet_list agent.stmts ≡ false
  pub points : length agent.points ≡ length (advances_in agent.stmts) + 1
  pub numbered : advances_in agent.stmts ≡ range_with_len 1 (length (advances_in agent.stmts))
  -- its variables and arrays begin with numbers of their types
  pub values : All (λ s. FitsSigned (of_type s.width) s.init) agent.slots

-- A unit whose statements name what they can name, and whose first values are numbers of their types
pub record IsSoundUnit (unit : Whole) : Type 0 where
  pub functions : AreSoundFunctions [] unit.functions
  pub few : length unit.functions ≤ FUNCTIONS
  pub agents : (number : ℕ) (agent : AgentDecl) → slice_get unit.agents number ≡ Some agent → IsSoundAgent unit number agent
  pub values : All (λ v. FitsSigned w32 v.init) unit.variables
