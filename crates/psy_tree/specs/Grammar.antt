-- The grammar of a program's text, one case for each production.
-- In each relation the tokens of the first list, up to where those of the last list begin, spell the tree between them.
use Rattle.std.specs.Prelude.{◌≡◌, ℕ, suc, List, [], ◌∷◌, Option, Some, None, true, false}
use Rattle.psy_arith.specs.declared.operators.Op1.{Op1}
use Rattle.psy_arith.specs.declared.operators.Op1.TheVariants.{Neg, Flip, Not}
use Rattle.psy_arith.specs.declared.operators.Op2.{Op2}
use Rattle.psy_arith.specs.declared.operators.Op2.TheVariants as operators
use Rattle.psy_arith.specs.declared.width.Width.{Width}
use Rattle.psy_arith.specs.declared.width.Width.TheVariants.{W8, W16, W32, W64}
use Rattle.psy_tree.specs.declared.token.Token.{Token}
use Rattle.psy_tree.specs.declared.token.Kind.{Kind}
use Rattle.psy_tree.specs.declared.token.Kind.TheVariants as kinds
use Rattle.psy_tree.specs.declared.token.Word.{Word}
use Rattle.psy_tree.specs.declared.token.Word.TheVariants as words
use Rattle.psy_tree.specs.declared.token.Sign.{Sign}
use Rattle.psy_tree.specs.declared.token.Sign.TheVariants as signs
use Rattle.psy_tree.specs.declared.raw.Name.{Name}
use Rattle.psy_tree.specs.declared.raw.Lit.{Lit}
use Rattle.psy_tree.specs.declared.raw.Init.{Init}
use Rattle.psy_tree.specs.declared.raw.Raw.{Raw}
use Rattle.psy_tree.specs.declared.raw.Item.{Item}
use Rattle.psy_tree.specs.declared.raw.Item.TheVariants.{Clock, Temporal, Input, Stream, Function, Agent}
use Rattle.psy_tree.specs.declared.raw.Local.{Local}
use Rattle.psy_tree.specs.declared.raw.Local.TheVariants.{Scalar, Array}
use Rattle.psy_tree.specs.declared.raw.RawStmt.{RawStmt}
use Rattle.psy_tree.specs.declared.raw.RawStmt.TheVariants.{Set, SetCell, If, While, Send, Advance, Return}
use Rattle.psy_tree.specs.declared.raw.RawExpr.{RawExpr}
use Rattle.psy_tree.specs.declared.raw.RawExpr.TheVariants.{Number, Var, Cell, Past, Ready, Take, Unary, Binary, Call, Cast}

-- A token without its place: its number in the text, and what it is
abbrev pub Numbered : Type 0
Numbered = ℕ × Kind

-- The tokens with their numbers, from n on
abbrev pub numbered : ℕ → List Token → List Numbered
numbered n [] = []
numbered n (token ∷ tokens) = (n, token.kind) ∷ numbered (suc n) tokens

-- The token of a name
abbrev pub named : Name → Numbered
named x = (x.token, kinds.Name x.text)

-- The token of a number
abbrev pub numeral : Lit → Numbered
numeral k = (k.token, kinds.Number k.value)

-- Token number n, where it is a reserved word
abbrev pub word : ℕ → Word → Numbered
word n w = (n, kinds.Word w)

-- Token number n, where it is a sign
abbrev pub sign : ℕ → Sign → Numbered
sign n s = (n, kinds.Sign s)

-- The type that a word names; `int` is `int32`.
abbrev pub type_of : Word → Option Width
type_of words.Int = Some W32
type_of words.Int8 = Some W8
type_of words.Int16 = Some W16
type_of words.Int32 = Some W32
type_of words.Int64 = Some W64
type_of _ = None

-- The operator before an operand
abbrev pub unary_of : Sign → Option Op1
unary_of signs.Minus = Some Neg
unary_of signs.Tilde = Some Flip
unary_of signs.Bang = Some Not
unary_of _ = None

-- The operator between two operands, and its level, of which 0 is the tightest and 9 the loosest
abbrev pub binary_of : Sign → Option (ℕ × Op2)
binary_of signs.Star = Some (0, operators.Mul)
binary_of signs.Slash = Some (0, operators.Div)
binary_of signs.Percent = Some (0, operators.Rem)
binary_of signs.Plus = Some (1, operators.Add)
binary_of signs.Minus = Some (1, operators.Sub)
binary_of signs.ShiftLeft = Some (2, operators.Shl)
binary_of signs.ShiftRight = Some (2, operators.Shr)
binary_of signs.Less = Some (3, operators.Lt)
binary_of signs.LessEqual = Some (3, operators.Le)
binary_of signs.Greater = Some (3, operators.Gt)
binary_of signs.GreaterEqual = Some (3, operators.Ge)
binary_of signs.Equal = Some (4, operators.Eq)
binary_of signs.NotEqual = Some (4, operators.Ne)
binary_of signs.Amp = Some (5, operators.And)
binary_of signs.Caret = Some (6, operators.Xor)
binary_of signs.Bar = Some (7, operators.Or)
binary_of signs.AmpAmp = Some (8, operators.AndAnd)
binary_of signs.BarBar = Some (9, operators.OrOr)
binary_of _ = None

mutual
  -- an expression whose operators between operands, brackets aside, are of levels below this number
  pub data Expr : ℕ → List Numbered → RawExpr → List Numbered → Type 0 where
    number : {k : Lit} {rest : List Numbered} → Expr 0 (numeral k ∷ rest) (Number k) rest
    variable : {x : Name} {rest : List Numbered} → Expr 0 (named x ∷ rest) (Var x) rest
    cell : {x : Name} {index : RawExpr} {a b : ℕ} {ts rest : List Numbered}
        → Expr 10 ts index (sign b signs.CloseSquare ∷ rest)
        → Expr 0 (named x ∷ sign a signs.OpenSquare ∷ ts) (Cell x index) rest
    call_of_none : {f : Name} {a b : ℕ} {rest : List Numbered}
        → Expr 0 (named f ∷ sign a signs.OpenRound ∷ sign b signs.CloseRound ∷ rest) (Call f []) rest
    call : {f : Name} {first : RawExpr} {others : List RawExpr} {a : ℕ} {ts us rest : List Numbered}
        → Expr 10 ts first us → Others us others rest
        → Expr 0 (named f ∷ sign a signs.OpenRound ∷ ts) (Call f (first ∷ others)) rest
    past : {x : Name} {back : Lit} {n a b c : ℕ} {rest : List Numbered}
        → Expr 0 (word n words.Past ∷ sign a signs.OpenRound ∷ named x ∷ sign b signs.Comma ∷ numeral back ∷ sign c signs.CloseRound ∷ rest)
        (Past n x back) rest
    ready : {x : Name} {n a b : ℕ} {rest : List Numbered}
        → Expr 0 (word n words.Ready ∷ sign a signs.OpenRound ∷ named x ∷ sign b signs.CloseRound ∷ rest) (Ready n x) rest
    take : {x : Name} {n a b : ℕ} {rest : List Numbered}
        → Expr 0 (word n words.Take ∷ sign a signs.OpenRound ∷ named x ∷ sign b signs.CloseRound ∷ rest) (Take n x) rest
    cast : {width : Width} {w : Word} {e : RawExpr} {n a b : ℕ} {ts rest : List Numbered}
        → type_of w ≡ Some width → Expr 10 ts e (sign b signs.CloseRound ∷ rest)
        → Expr 0 (word n w ∷ sign a signs.OpenRound ∷ ts) (Cast width e) rest
    -- parentheses leave no node
    in_parentheses : {e : RawExpr} {a b : ℕ} {ts rest : List Numbered}
        → Expr 10 ts e (sign b signs.CloseRound ∷ rest)
        → Expr 0 (sign a signs.OpenRound ∷ ts) e rest
    unary : {op : Op1} {e : RawExpr} {s : Sign} {n : ℕ} {ts rest : List Numbered}
        → unary_of s ≡ Some op → Expr 0 ts e rest
        → Expr 0 (sign n s ∷ ts) (Unary op e) rest
    tighter : {level : ℕ} {e : RawExpr} {ts rest : List Numbered}
        → Expr level ts e rest
        → Expr (suc level) ts e rest
    -- the left side is of the same or a tighter level, the right side of a tighter level
    binary : {level : ℕ} {op : Op2} {left right : RawExpr} {s : Sign} {n : ℕ} {ts us rest : List Numbered}
        → binary_of s ≡ Some (level, op) → Expr (suc level) ts left (sign n s ∷ us) → Expr level us right rest
        → Expr (suc level) ts (Binary op left right) rest

  -- the arguments after the first, and the closing bracket
  pub data Others : List Numbered → List RawExpr → List Numbered → Type 0 where
    no_more : {n : ℕ} {rest : List Numbered} → Others (sign n signs.CloseRound ∷ rest) [] rest
    one_more : {e : RawExpr} {others : List RawExpr} {n : ℕ} {ts us rest : List Numbered}
        → Expr 10 ts e us → Others us others rest
        → Others (sign n signs.Comma ∷ ts) (e ∷ others) rest

mutual
  -- a statement
  pub data Stmt : List Numbered → RawStmt → List Numbered → Type 0 where
    set : {x : Name} {e : RawExpr} {a b : ℕ} {ts rest : List Numbered}
        → Expr 10 ts e (sign b signs.Semicolon ∷ rest)
        → Stmt (named x ∷ sign a signs.Assign ∷ ts) (Set x e) rest
    set_cell : {x : Name} {index e : RawExpr} {a b c d : ℕ} {ts us rest : List Numbered}
        → Expr 10 ts index (sign b signs.CloseSquare ∷ sign c signs.Assign ∷ us) → Expr 10 us e (sign d signs.Semicolon ∷ rest)
        → Stmt (named x ∷ sign a signs.OpenSquare ∷ ts) (SetCell x index e) rest
    if_alone : {test : RawExpr} {body : List RawStmt} {n a b c : ℕ} {ts us rest : List Numbered}
        → Expr 10 ts test (sign b signs.CloseRound ∷ sign c signs.OpenBrace ∷ us) → Block us body rest
        → Stmt (word n words.If ∷ sign a signs.OpenRound ∷ ts) (If test body None) rest
    if_else : {test : RawExpr} {body other : List RawStmt} {n a b c d e : ℕ} {ts us vs rest : List Numbered}
        → Expr 10 ts test (sign b signs.CloseRound ∷ sign c signs.OpenBrace ∷ us)
        → Block us body (word d words.Else ∷ sign e signs.OpenBrace ∷ vs) → Block vs other rest
        → Stmt (word n words.If ∷ sign a signs.OpenRound ∷ ts) (If test body (Some other)) rest
    while_timed : {test : RawExpr} {body : List RawStmt} {n a b c : ℕ} {ts us rest : List Numbered}
        → Expr 10 ts test (sign b signs.CloseRound ∷ sign c signs.OpenBrace ∷ us) → Block us body rest
        → Stmt (word n words.While ∷ sign a signs.OpenRound ∷ ts) (While n test None body) rest
    while_bounded : {test : RawExpr} {most : Lit} {body : List RawStmt} {n a b c d : ℕ} {ts us rest : List Numbered}
        → Expr 10 ts test (sign b signs.CloseRound ∷ word c words.Max ∷ numeral most ∷ sign d signs.OpenBrace ∷ us) → Block us body rest
        → Stmt (word n words.While ∷ sign a signs.OpenRound ∷ ts) (While n test (Some most) body) rest
    send : {e : RawExpr} {stream clock : Name} {after : Lit} {n a b c d : ℕ} {ts rest : List Numbered}
        → Expr 10 ts e (word a words.To ∷ named stream ∷ word b words.After ∷ numeral after ∷ word c words.On ∷ named clock ∷ sign d signs.Semicolon ∷ rest)
        → Stmt (word n words.Send ∷ ts) (Send n e stream after clock) rest
    advance : {count : Lit} {clock : Name} {n a b : ℕ} {rest : List Numbered}
        → Stmt (word n words.Advance ∷ numeral count ∷ word a words.On ∷ named clock ∷ sign b signs.Semicolon ∷ rest) (Advance n count clock None) rest
    advance_budget : {count budget : Lit} {clock : Name} {n a b c : ℕ} {rest : List Numbered}
        → Stmt (word n words.Advance ∷ numeral count ∷ word a words.On ∷ named clock ∷ word b words.Budget ∷ numeral budget ∷ sign c signs.Semicolon
        ∷ rest) (Advance n count clock (Some budget)) rest
    return : {e : RawExpr} {n a : ℕ} {ts rest : List Numbered}
        → Expr 10 ts e (sign a signs.Semicolon ∷ rest)
        → Stmt (word n words.Return ∷ ts) (Return n e) rest

  -- the statements of a block behind its opening brace, and the closing one
  pub data Block : List Numbered → List RawStmt → List Numbered → Type 0 where
    close : {n : ℕ} {rest : List Numbered} → Block (sign n signs.CloseBrace ∷ rest) [] rest
    next : {first : RawStmt} {others : List RawStmt} {ts us rest : List Numbered}
        → Stmt ts first us → Block us others rest
        → Block ts (first ∷ others) rest

-- A first value
pub data Start : List Numbered → Init → List Numbered → Type 0 where
  plain : {k : Lit} {rest : List Numbered} → Start (numeral k ∷ rest) (record { minus = false; value = k }) rest
  negated : {k : Lit} {n : ℕ} {rest : List Numbered} → Start (sign n signs.Minus ∷ numeral k ∷ rest) (record { minus = true; value = k }) rest

-- The local of a function: a variable with its type and its first value
pub data FunctionLocal : List Numbered → Local → List Numbered → Type 0 where
  scalar : {width : Width} {w : Word} {x : Name} {init : Init} {n a b : ℕ} {ts rest : List Numbered}
      → type_of w ≡ Some width → Start ts init (sign b signs.Semicolon ∷ rest)
      → FunctionLocal (word n w ∷ named x ∷ sign a signs.Assign ∷ ts) (Scalar width x init) rest

-- The local of an agent: a variable, or an array with its number of cells
pub data AgentLocal : List Numbered → Local → List Numbered → Type 0 where
  variable : {x : Local} {ts rest : List Numbered} → FunctionLocal ts x rest → AgentLocal ts x rest
  array : {width : Width} {w : Word} {x : Name} {cells : Lit} {n a b c : ℕ} {rest : List Numbered}
      → type_of w ≡ Some width
      → AgentLocal (word n w ∷ named x ∷ sign a signs.OpenSquare ∷ numeral cells ∷ sign b signs.CloseSquare ∷ sign c signs.Semicolon ∷ rest)
      (Array width x cells) rest

-- None or more locals, one after another
pub data Many (One : List Numbered → Local → List Numbered → Type 0) : List Numbered → List Local → List Numbered → Type 0 where
  none : {rest : List Numbered} → Many One rest [] rest
  more : {first : Local} {others : List Local} {ts us rest : List Numbered}
      → One ts first us → Many One us others rest
      → Many One ts (first ∷ others) rest

-- The parameters behind the first, and the closing bracket
pub data Further : List Numbered → List Name → List Numbered → Type 0 where
  no_more : {n : ℕ} {rest : List Numbered} → Further (sign n signs.CloseRound ∷ rest) [] rest
  one_more : {x : Name} {others : List Name} {a b : ℕ} {ts rest : List Numbered}
      → Further ts others rest
      → Further (sign a signs.Comma ∷ word b words.Int ∷ named x ∷ ts) (x ∷ others) rest

-- The parameters behind the opening bracket, and the closing one
pub data Params : List Numbered → List Name → List Numbered → Type 0 where
  without : {n : ℕ} {rest : List Numbered} → Params (sign n signs.CloseRound ∷ rest) [] rest
  with_first : {x : Name} {others : List Name} {n : ℕ} {ts rest : List Numbered}
      → Further ts others rest
      → Params (word n words.Int ∷ named x ∷ ts) (x ∷ others) rest

-- What a clock counts: ticks, or the dates of another clock
pub data Parent : List Numbered → Option Name → List Numbered → Type 0 where
  the_tick : {n : ℕ} {rest : List Numbered} → Parent (word n words.Tick ∷ rest) None rest
  a_clock : {x : Name} {rest : List Numbered} → Parent (named x ∷ rest) (Some x) rest

-- A clock's shift, and the semicolon
pub data Shift : List Numbered → Option Lit → List Numbered → Type 0 where
  without : {n : ℕ} {rest : List Numbered} → Shift (sign n signs.Semicolon ∷ rest) None rest
  shifted : {k : Lit} {a b : ℕ} {rest : List Numbered} → Shift (sign a signs.Plus ∷ numeral k ∷ sign b signs.Semicolon ∷ rest) (Some k) rest

-- A declaration
pub data Declaration : List Numbered → Item → List Numbered → Type 0 where
  clock : {name : Name} {by : Lit} {parent : Option Name} {shift : Option Lit} {n a b : ℕ} {ts us rest : List Numbered}
      → Parent ts parent us → Shift us shift rest
      → Declaration (word n words.Clock ∷ named name ∷ sign a signs.Assign ∷ numeral by ∷ sign b signs.Star ∷ ts) (Clock name by parent shift) rest
  temporal : {name owner clock : Name} {init : Init} {depth : Lit} {n a b c d e : ℕ} {ts rest : List Numbered}
      → Start ts init (word d words.Depth ∷ numeral depth ∷ sign e signs.Semicolon ∷ rest)
      → Declaration (word n words.Temporal ∷ named name ∷ word a words.Of ∷ named owner ∷ word b words.On ∷ named clock ∷ sign c signs.Assign ∷ ts)
      (Temporal name owner clock init depth) rest
  input : {name clock : Name} {init : Init} {depth : Lit} {n a b c d : ℕ} {ts rest : List Numbered}
      → Start ts init (word c words.Depth ∷ numeral depth ∷ sign d signs.Semicolon ∷ rest)
      → Declaration (word n words.Input ∷ named name ∷ word a words.On ∷ named clock ∷ sign b signs.Assign ∷ ts) (Input name clock init depth) rest
  stream : {name receiver clock : Name} {keep : Lit} {n a b c d : ℕ} {rest : List Numbered}
      → Declaration (word n words.Stream ∷ named name ∷ word a words.To ∷ named receiver ∷ word b words.Keep ∷ numeral keep ∷ word c words.On
      ∷ named clock ∷ sign d signs.Semicolon ∷ rest) (Stream name receiver keep clock) rest
  function : {name : Name} {params : List Name} {locals : List Local} {stmts : List RawStmt} {n a b : ℕ} {ts us vs rest : List Numbered}
      → Params ts params (sign b signs.OpenBrace ∷ us) → Many FunctionLocal us locals vs → Block vs stmts rest
      → Declaration (word n words.Int ∷ named name ∷ sign a signs.OpenRound ∷ ts) (Function name params locals stmts) rest
  agent : {name clock : Name} {budget : Lit} {locals : List Local} {stmts : List RawStmt} {n a b c body d e : ℕ} {ts us rest : List Numbered}
      → Many AgentLocal ts locals (word body words.Body ∷ sign d signs.OpenBrace ∷ us) → Block us stmts (sign e signs.CloseBrace ∷ rest)
      → Declaration (word n words.Agent ∷ named name ∷ word a words.On ∷ named clock ∷ word b words.Budget ∷ numeral budget ∷ sign c signs.OpenBrace
      ∷ ts) (Agent name clock None budget locals body stmts) rest
  agent_on_processor : {name clock : Name} {processor budget : Lit} {locals : List Local} {stmts : List RawStmt} {n a p b c body d e : ℕ}
      {ts us rest : List Numbered}
      → Many AgentLocal ts locals (word body words.Body ∷ sign d signs.OpenBrace ∷ us) → Block us stmts (sign e signs.CloseBrace ∷ rest)
      → Declaration (word n words.Agent ∷ named name ∷ word a words.On ∷ named clock ∷ word p words.Processor ∷ numeral processor
      ∷ word b words.Budget ∷ numeral budget ∷ sign c signs.OpenBrace ∷ ts) (Agent name clock (Some processor) budget locals body stmts) rest

-- Declarations up to the end of the text
pub data Program : List Numbered → List Item → Type 0 where
  end : Program [] []
  next : {first : Item} {others : List Item} {ts us : List Numbered}
      → Declaration ts first us → Program us others
      → Program ts (first ∷ others)

-- The tree has these tokens: all of them, with their numbers in the tree
pub data Spells : Raw → List Token → Type 0 where
  program : {quantum : Lit} {items : List Item} {n a : ℕ} {ts : List Numbered} {tokens : List Token}
      → numbered 0 tokens ≡ word n words.Tick ∷ numeral quantum ∷ sign a signs.Semicolon ∷ ts → Program ts items
      → Spells (record { quantum = quantum; items = items }) tokens
