-- Reading from left to right. Where it can't go on, the number of the tokens that are left is the answer.
use Rattle.std.specs.Prelude.{◌≡◌, ℕ, zero, suc, List, [], ◌∷◌, ◌++◌, length, Option, Some, None, Result, Ok, Err, Bool, true, false, nat_le}
use Rattle.std.specs.Prelude.{if◌then◌else◌}
use denote.Enum.Bare.{sameb}
use Rattle.psy_arith.specs.declared.operators.Op1.{Op1}
use Rattle.psy_arith.specs.declared.operators.Op2.{Op2}
use Rattle.psy_arith.specs.declared.width.Width.{Width}
use Rattle.psy_tree.specs.declared.token.Kind.TheVariants as kinds
use Rattle.psy_tree.specs.declared.token.Word.{Word}
use Rattle.psy_tree.specs.declared.token.Word.TheVariants as words
use Rattle.psy_tree.specs.declared.token.Sign.{Sign}
use Rattle.psy_tree.specs.declared.token.Sign.TheVariants as signs
use Rattle.psy_tree.specs.contracts.token.Word as word_kind
use Rattle.psy_tree.specs.contracts.token.Sign as sign_kind
use Rattle.psy_tree.specs.declared.raw.Name.{Name}
use Rattle.psy_tree.specs.declared.raw.Lit.{Lit}
use Rattle.psy_tree.specs.declared.raw.Init.{Init}
use Rattle.psy_tree.specs.declared.raw.Raw.{Raw}
use Rattle.psy_tree.specs.declared.raw.Item.{Item}
use Rattle.psy_tree.specs.declared.raw.Item.TheVariants.{Clock, Temporal, Input, Stream, Function, Agent}
use Rattle.psy_tree.specs.declared.raw.Local.{Local}
use Rattle.psy_tree.specs.declared.raw.Local.TheVariants.{Scalar, Array}
use Rattle.psy_tree.specs.declared.raw.RawStmt.{RawStmt}
use Rattle.psy_tree.specs.declared.raw.RawStmt.TheVariants.{Set, SetCell, If, While, Send, Advance, Return}
use Rattle.psy_tree.specs.declared.raw.RawExpr.{RawExpr}
use Rattle.psy_tree.specs.declared.raw.RawExpr.TheVariants.{Number, Var, Cell, Past, Ready, Take, Unary, Binary, Call, Cast}
use Rattle.psy_tree.specs.Grammar.{Numbered, numbered, type_of, unary_of, binary_of}
use Rattle.psy_parse.specs.declared.cursor.Cursor.{Cursor}
use Rattle.psy_parse.specs.declared.fault.Failure.{Failure}
use Rattle.psy_parse.specs.declared.fault.Failure.TheVariants as faults

infixl 10 ◌>>=◌
-- Goes on with what was read, or stays stuck
abbrev pub ◌>>=◌ : {A B : Type 0} → Result A ℕ → (A → Result B ℕ) → Result B ℕ
(Ok x) >>= f = f x
(Err e) >>= f = Err e

-- Goes on with what was found, or with the other
abbrev pub given : {A B : Type 0} → Option A → (A → B) → B → B
given (Some x) f other = f x
given None f other = other

-- The failure is want of memory, or says where reading is stuck
abbrev pub Fails : {Y : Type 0} → Failure → Result Y ℕ → Type 0
Fails faults.Memory read = Unit {0}
Fails (faults.Stuck n) read = read ≡ Err n

-- What a function returned, seen by view, is what reading gives, unless memory ran out
abbrev pub Gives : {X Y : Type 0} → (X → Y) → Result X Failure → Result Y ℕ → Type 0
Gives view (Ok x) read = read ≡ Ok (view x)
Gives view (Err e) read = Fails e read

-- What a function found, seen by view, is what reading finds, or both find nothing
abbrev pub Finds : {X Y : Type 0} → (X → Y) → Option X → Option Y → Type 0
Finds view (Some x) found = found ≡ Some (view x)
Finds view None found = found ≡ None

-- The tokens that are left, with their numbers
abbrev pub left : Cursor → List Numbered
left c = numbered c.number c.rest.now

-- Reading can't go on, with these tokens left
abbrev pub stuck : {A : Type 0} → List Numbered → Result A ℕ
stuck ts = Err (length ts)

-- What is found, or else reading can't go on
abbrev pub or_stuck : {A : Type 0} → List Numbered → Option A → Result A ℕ
or_stuck ts (Some x) = Ok x
or_stuck ts None = stuck ts

-- One token

-- The name that has to stand at the front, and the tokens behind it
unfoldable pub name_at : List Numbered → Result (Name × List Numbered) ℕ
name_at [] = stuck []
name_at ((n, kinds.Name t) ∷ ts) = Ok (record { text = t; token = n }, ts)
name_at ((n, kinds.Word w) ∷ ts) = stuck ((n, kinds.Word w) ∷ ts)
name_at ((n, kinds.Number v) ∷ ts) = stuck ((n, kinds.Number v) ∷ ts)
name_at ((n, kinds.Sign s) ∷ ts) = stuck ((n, kinds.Sign s) ∷ ts)

-- The number at the front and the tokens behind it, if a number stands there
unfoldable pub after_number : List Numbered → Option (Lit × List Numbered)
after_number ((n, kinds.Number v) ∷ ts) = Some (record { value = v; token = n }, ts)
after_number _ = None

-- The number of this word's token and the tokens behind it, if the word stands at the front
unfoldable pub after_word : Word → List Numbered → Option (ℕ × List Numbered)
after_word w ((n, kinds.Word v) ∷ ts) = if sameb word_kind.the_type v w then Some (n, ts) else None
after_word w _ = None

-- The tokens behind this sign, if it stands at the front
unfoldable pub after_sign : Sign → List Numbered → Option (List Numbered)
after_sign s ((n, kinds.Sign r) ∷ ts) = if sameb sign_kind.the_type r s then Some ts else None
after_sign s _ = None

-- The number that has to stand at the front, and the tokens behind it
unfoldable pub number_at : List Numbered → Result (Lit × List Numbered) ℕ
number_at ts = or_stuck ts (after_number ts)

-- The number of the token of this word, which has to stand at the front, and the tokens behind it
unfoldable pub word_at : Word → List Numbered → Result (ℕ × List Numbered) ℕ
word_at w ts = or_stuck ts (after_word w ts)

-- The tokens behind this sign, which has to stand at the front
unfoldable pub sign_at : Sign → List Numbered → Result (List Numbered) ℕ
sign_at s ts = or_stuck ts (after_sign s ts)

-- The type that the word at the front names and the tokens behind it, if one of those words stands there
unfoldable pub after_type : List Numbered → Option (Width × List Numbered)
after_type ((n, kinds.Word w) ∷ ts) = given (type_of w) (λ width. Some (width, ts)) None
after_type _ = None

-- The operator before an operand and the tokens behind it, if one stands at the front
unfoldable pub unary_at_front : List Numbered → Option (Op1 × List Numbered)
unary_at_front ((n, kinds.Sign s) ∷ ts) = given (unary_of s) (λ op. Some (op, ts)) None
unary_at_front _ = None

-- The level, the operator between operands and the tokens behind it, if one of a level below this stands at the front
unfoldable pub binary_at_front : ℕ → List Numbered → Option (ℕ × Op2 × List Numbered)
binary_at_front level ((n, kinds.Sign s) ∷ ts) = given (binary_of s) (λ o. if nat_le level o.0 then None else Some (o.0, o.1, ts)) None
binary_at_front level _ = None

-- No tokens are left
unfoldable pub is_end : List Numbered → Bool
is_end [] = true
is_end (t ∷ ts) = false

-- A part of the text: what it spells, and the tokens behind it
abbrev pub Reads : Type 0 → Type 0
Reads A = List Numbered → Result (A × List Numbered) ℕ

-- `WORD N` or nothing, for this word: the number, if the word stands there
unfoldable pub optional_at : Word → Reads (Option Lit)
optional_at w ts = given (after_word w ts) (λ u. number_at u.1 >>= λ k. Ok (Some k.0, k.1)) (Ok (None, ts))

-- Expressions

-- `(NAME)`
unfoldable pub in_brackets_at : Reads Name
in_brackets_at ts = do
  us ← sign_at signs.OpenRound ts
  x ← name_at us
  vs ← sign_at signs.CloseRound x.1
  Ok (x.0, vs)

-- `past(NAME, N)` behind its first word, token n
unfoldable pub past_at : ℕ → Reads RawExpr
past_at n ts = do
  us ← sign_at signs.OpenRound ts
  x ← name_at us
  vs ← sign_at signs.Comma x.1
  k ← number_at vs
  ws ← sign_at signs.CloseRound k.1
  Ok (Past n x.0 k.0, ws)

-- `TYPE(E)` behind its first word
unfoldable pub cast_at : Reads RawExpr → Width → Reads RawExpr
cast_at expr width ts = do
  us ← sign_at signs.OpenRound ts
  e ← expr us
  vs ← sign_at signs.CloseRound e.1
  Ok (Cast width e.0, vs)

-- `E, E)`: the arguments of a call, of which there may be none, and the closing bracket
unfoldable pub args_at : Reads RawExpr → (List RawExpr → Reads (List RawExpr)) → Reads (List RawExpr)
args_at expr others ts =
    given (after_sign signs.CloseRound ts) (λ us. Ok ([], us))
    (expr ts >>= λ e. others (e.0 ∷ []) e.1)

-- What begins with this name, behind it: `NAME[E]`, `NAME(E, E)` or `NAME` alone
unfoldable pub behind_name_at : Reads RawExpr → (List RawExpr → Reads (List RawExpr)) → Name → Reads RawExpr
behind_name_at expr others x ts =
    given (after_sign signs.OpenSquare ts) (λ us. expr us >>= λ e. sign_at signs.CloseSquare e.1 >>= λ vs. Ok (Cell x e.0, vs))
    (given (after_sign signs.OpenRound ts) (λ us. args_at expr others us >>= λ es. Ok (Call x es.0, es.1))
    (Ok (Var x, ts)))

-- An operand with no operators before it: `(E)`, a cast, `past`, `ready`, `take`, a number, or what begins with a name
unfoldable pub primary_at : Reads RawExpr → (List RawExpr → Reads (List RawExpr)) → Reads RawExpr
primary_at expr others ts =
    given (after_sign signs.OpenRound ts) (λ us. expr us >>= λ e. sign_at signs.CloseRound e.1 >>= λ vs. Ok (e.0, vs))
    (given (after_type ts) (λ t. cast_at expr t.0 t.1)
    (given (after_word words.Past ts) (λ w. past_at w.0 w.1)
    (given (after_word words.Ready ts) (λ w. in_brackets_at w.1 >>= λ x. Ok (Ready w.0 x.0, x.1))
    (given (after_word words.Take ts) (λ w. in_brackets_at w.1 >>= λ x. Ok (Take w.0 x.0, x.1))
    (given (after_number ts) (λ k. Ok (Number k.0, k.1))
    (name_at ts >>= λ x. behind_name_at expr others x.0 x.1))))))

-- An operand with the operators before it
unfoldable pub operand_at : (ℕ → Reads RawExpr) → (List RawExpr → Reads (List RawExpr)) → Reads RawExpr
operand_at expr others ts =
    given (unary_at_front ts) (λ o. expr 0 o.1 >>= λ e. Ok (Unary o.0 e.0, e.1))
    (primary_at (expr 10) others ts)

unfoldable mutual
  -- an expression with operators of levels below the second number, in less turns than the first
  pub expr_at : ℕ → ℕ → Reads RawExpr
  expr_at zero level ts = stuck ts
  expr_at (suc n) level ts = operand_at (expr_at n) (others_at n) ts >>= λ e. climb_at n level e.0 e.1

  -- the operators behind a left side, each with its right side
  pub climb_at : ℕ → ℕ → RawExpr → Reads RawExpr
  climb_at zero level e ts = stuck ts
  climb_at (suc n) level e ts =
      given (binary_at_front level ts) (λ o. expr_at n o.0 o.2 >>= λ r. climb_at n level (Binary o.1 e r.0) r.1)
      (Ok (e, ts))

  -- the arguments behind these, and the closing bracket
  pub others_at : ℕ → List RawExpr → Reads (List RawExpr)
  others_at zero front ts = stuck ts
  others_at (suc n) front ts =
      given (after_sign signs.CloseRound ts) (λ us. Ok (front, us))
      (sign_at signs.Comma ts >>= λ us. expr_at n 10 us >>= λ e. others_at n (front ++ e.0 ∷ []) e.1)

-- Statements

-- `(E)`, the test of an `if` or a `while`
unfoldable pub test_at : Reads RawExpr → Reads RawExpr
test_at expr ts = do
  us ← sign_at signs.OpenRound ts
  e ← expr us
  vs ← sign_at signs.CloseRound e.1
  Ok (e.0, vs)

-- `{ STATEMENTS }`, where what is given reads all behind the opening brace
unfoldable pub block_in_braces_at : Reads (List RawStmt) → Reads (List RawStmt)
block_in_braces_at block ts = sign_at signs.OpenBrace ts >>= λ us. block us

-- `if (E) { STATEMENTS } else { STATEMENTS }` behind its first word; the `else` with its block may be missing
unfoldable pub if_at : Reads RawExpr → Reads (List RawStmt) → Reads RawStmt
if_at expr block ts = do
  e ← test_at expr ts
  body ← block_in_braces_at block e.1
  given (after_word words.Else body.1) (λ w. block_in_braces_at block w.1 >>= λ other. Ok (If e.0 body.0 (Some other.0), other.1))
      (Ok (If e.0 body.0 None, body.1))

-- `while (E) max N { STATEMENTS }` behind its first word, token n; `max N` may be missing
unfoldable pub while_at : Reads RawExpr → Reads (List RawStmt) → ℕ → Reads RawStmt
while_at expr block n ts = do
  e ← test_at expr ts
  most ← optional_at words.Max e.1
  body ← block_in_braces_at block most.1
  Ok (While n e.0 most.0 body.0, body.1)

-- `send E to STREAM after N on CLOCK;` behind its first word, token n
unfoldable pub send_at : Reads RawExpr → ℕ → Reads RawStmt
send_at expr n ts = do
  e ← expr ts
  a ← word_at words.To e.1
  stream ← name_at a.1
  b ← word_at words.After stream.1
  after ← number_at b.1
  c ← word_at words.On after.1
  clock ← name_at c.1
  us ← sign_at signs.Semicolon clock.1
  Ok (Send n e.0 stream.0 after.0 clock.0, us)

-- `advance N on CLOCK budget M;` behind its first word, token n; `budget M` may be missing
unfoldable pub advance_at : ℕ → Reads RawStmt
advance_at n ts = do
  count ← number_at ts
  a ← word_at words.On count.1
  clock ← name_at a.1
  budget ← optional_at words.Budget clock.1
  us ← sign_at signs.Semicolon budget.1
  Ok (Advance n count.0 clock.0 budget.0, us)

-- `return E;` behind its first word, token n
unfoldable pub return_at : Reads RawExpr → ℕ → Reads RawStmt
return_at expr n ts = do
  e ← expr ts
  us ← sign_at signs.Semicolon e.1
  Ok (Return n e.0, us)

-- `NAME = E;` behind its name
unfoldable pub set_at : Reads RawExpr → Name → Reads RawStmt
set_at expr x ts = do
  us ← sign_at signs.Assign ts
  e ← expr us
  vs ← sign_at signs.Semicolon e.1
  Ok (Set x e.0, vs)

-- `NAME[E] = E;` behind its opening bracket
unfoldable pub set_cell_at : Reads RawExpr → Name → Reads RawStmt
set_cell_at expr x ts = do
  i ← expr ts
  us ← sign_at signs.CloseSquare i.1
  vs ← sign_at signs.Assign us
  e ← expr vs
  ws ← sign_at signs.Semicolon e.1
  Ok (SetCell x i.0 e.0, ws)

-- A statement, by its first word; where none of those words stands, an assignment
unfoldable pub stmt_at : Reads RawExpr → Reads (List RawStmt) → Reads RawStmt
stmt_at expr block ts =
    given (after_word words.If ts) (λ w. if_at expr block w.1)
    (given (after_word words.While ts) (λ w. while_at expr block w.0 w.1)
    (given (after_word words.Send ts) (λ w. send_at expr w.0 w.1)
    (given (after_word words.Advance ts) (λ w. advance_at w.0 w.1)
    (given (after_word words.Return ts) (λ w. return_at expr w.0 w.1)
    (name_at ts >>= λ x. given (after_sign signs.OpenSquare x.1) (λ us. set_cell_at expr x.0 us) (set_at expr x.0 x.1))))))

-- The statements behind these, and the closing brace
unfoldable pub block_at : ℕ → List RawStmt → Reads (List RawStmt)
block_at zero front ts = stuck ts
block_at (suc n) front ts =
    given (after_sign signs.CloseBrace ts) (λ us. Ok (front, us))
    (stmt_at (expr_at n 10) (block_at n []) ts >>= λ s. block_at n (front ++ s.0 ∷ []) s.1)

-- Declarations

-- A first value: `N` or `-N`
unfoldable pub start_at : Reads Init
start_at ts =
    given (after_sign signs.Minus ts) (λ us. number_at us >>= λ k. Ok (record { minus = true; value = k.0 }, k.1))
    (number_at ts >>= λ k. Ok (record { minus = false; value = k.0 }, k.1))

-- `TYPE NAME[N];` behind its opening bracket
unfoldable pub array_at : Width → Name → Reads Local
array_at width x ts = do
  k ← number_at ts
  us ← sign_at signs.CloseSquare k.1
  vs ← sign_at signs.Semicolon us
  Ok (Array width x k.0, vs)

-- `TYPE NAME = FIRST;` behind its name
unfoldable pub scalar_at : Width → Name → Reads Local
scalar_at width x ts = do
  us ← sign_at signs.Assign ts
  i ← start_at us
  vs ← sign_at signs.Semicolon i.1
  Ok (Scalar width x i.0, vs)

-- A local behind its first word, which names its type
unfoldable pub local_at : Bool → Width → Reads Local
local_at arrays width ts = do
  x ← name_at ts
  given (if arrays then after_sign signs.OpenSquare x.1 else None) (λ us. array_at width x.0 us) (scalar_at width x.0 x.1)

-- The locals behind these
unfoldable pub locals_at : Bool → ℕ → List Local → Reads (List Local)
locals_at arrays zero front ts = stuck ts
locals_at arrays (suc n) front ts =
    given (after_type ts) (λ t. local_at arrays t.0 t.1 >>= λ x. locals_at arrays n (front ++ x.0 ∷ []) x.1)
    (Ok (front, ts))

-- `int NAME`, a parameter
unfoldable pub param_at : Reads Name
param_at ts = word_at words.Int ts >>= λ w. name_at w.1

-- The parameters behind these, and the closing bracket
unfoldable pub further_at : ℕ → List Name → Reads (List Name)
further_at zero front ts = stuck ts
further_at (suc n) front ts =
    given (after_sign signs.CloseRound ts) (λ us. Ok (front, us))
    (sign_at signs.Comma ts >>= λ us. param_at us >>= λ x. further_at n (front ++ x.0 ∷ []) x.1)

-- `int NAME, int NAME)`: the parameters of a function, of which there may be none, and the closing bracket
unfoldable pub params_at : ℕ → Reads (List Name)
params_at n ts =
    given (after_sign signs.CloseRound ts) (λ us. Ok ([], us))
    (param_at ts >>= λ x. further_at n (x.0 ∷ []) x.1)

-- The parent of a clock: `NAME`, or `tick`, for which there is none
unfoldable pub parent_at : Reads (Option Name)
parent_at ts =
    given (after_word words.Tick ts) (λ w. Ok (None, w.1))
    (name_at ts >>= λ x. Ok (Some x.0, x.1))

-- `+ M;` or `;`: the shift of a clock, if it has one, and the semicolon
unfoldable pub shift_at : Reads (Option Lit)
shift_at ts =
    given (after_sign signs.Plus ts) (λ us. number_at us >>= λ k. sign_at signs.Semicolon k.1 >>= λ vs. Ok (Some k.0, vs))
    (sign_at signs.Semicolon ts >>= λ us. Ok (None, us))

-- `clock NAME = N * PARENT + M;` behind its first word; `+ M` may be missing
unfoldable pub clock_at : Reads Item
clock_at ts = do
  name ← name_at ts
  us ← sign_at signs.Assign name.1
  by ← number_at us
  vs ← sign_at signs.Star by.1
  parent ← parent_at vs
  shift ← shift_at parent.1
  Ok (Clock name.0 by.0 parent.0 shift.0, shift.1)

-- `temporal NAME of AGENT on CLOCK = FIRST depth N;` behind its first word
unfoldable pub temporal_at : Reads Item
temporal_at ts = do
  name ← name_at ts
  a ← word_at words.Of name.1
  owner ← name_at a.1
  b ← word_at words.On owner.1
  clock ← name_at b.1
  us ← sign_at signs.Assign clock.1
  init ← start_at us
  c ← word_at words.Depth init.1
  depth ← number_at c.1
  vs ← sign_at signs.Semicolon depth.1
  Ok (Temporal name.0 owner.0 clock.0 init.0 depth.0, vs)

-- `input NAME on CLOCK = FIRST depth N;` behind its first word
unfoldable pub input_at : Reads Item
input_at ts = do
  name ← name_at ts
  b ← word_at words.On name.1
  clock ← name_at b.1
  us ← sign_at signs.Assign clock.1
  init ← start_at us
  c ← word_at words.Depth init.1
  depth ← number_at c.1
  vs ← sign_at signs.Semicolon depth.1
  Ok (Input name.0 clock.0 init.0 depth.0, vs)

-- `stream NAME to AGENT keep N on CLOCK;` behind its first word
unfoldable pub stream_at : Reads Item
stream_at ts = do
  name ← name_at ts
  a ← word_at words.To name.1
  receiver ← name_at a.1
  b ← word_at words.Keep receiver.1
  keep ← number_at b.1
  c ← word_at words.On keep.1
  clock ← name_at c.1
  us ← sign_at signs.Semicolon clock.1
  Ok (Stream name.0 receiver.0 keep.0 clock.0, us)

-- `int NAME(PARAMETERS) { LOCALS STATEMENTS }` behind its first word; its locals are no arrays
unfoldable pub function_at : ℕ → Reads Item
function_at n ts = do
  name ← name_at ts
  us ← sign_at signs.OpenRound name.1
  params ← params_at n us
  vs ← sign_at signs.OpenBrace params.1
  locals ← locals_at false n [] vs
  stmts ← block_at n [] locals.1
  Ok (Function name.0 params.0 locals.0 stmts.0, stmts.1)

-- `agent NAME on CLOCK processor N budget M { LOCALS body { STATEMENTS } }` behind its first word; `processor N` may be missing
unfoldable pub agent_at : ℕ → Reads Item
agent_at n ts = do
  name ← name_at ts
  a ← word_at words.On name.1
  clock ← name_at a.1
  processor ← optional_at words.Processor clock.1
  b ← word_at words.Budget processor.1
  budget ← number_at b.1
  us ← sign_at signs.OpenBrace budget.1
  locals ← locals_at true n [] us
  body ← word_at words.Body locals.1
  vs ← sign_at signs.OpenBrace body.1
  stmts ← block_at n [] vs
  ws ← sign_at signs.CloseBrace stmts.1
  Ok (Agent name.0 clock.0 processor.0 budget.0 locals.0 body.0 stmts.0, ws)

-- A declaration, by its first word
unfoldable pub declaration_at : ℕ → Reads Item
declaration_at n ts =
    given (after_word words.Clock ts) (λ w. clock_at w.1)
    (given (after_word words.Temporal ts) (λ w. temporal_at w.1)
    (given (after_word words.Input ts) (λ w. input_at w.1)
    (given (after_word words.Stream ts) (λ w. stream_at w.1)
    (given (after_word words.Int ts) (λ w. function_at n w.1)
    (given (after_word words.Agent ts) (λ w. agent_at n w.1)
    (stuck ts))))))

-- The declarations behind these, up to the end
unfoldable pub program_at : ℕ → List Item → List Numbered → Result (List Item) ℕ
program_at zero front ts = stuck ts
program_at (suc n) front ts =
    if is_end ts then Ok front
    else (declaration_at n ts >>= λ x. program_at n (front ++ x.0 ∷ []) x.1)

-- The length of the tick, behind which the declarations stand
unfoldable pub quantum_at : Reads Lit
quantum_at ts = do
  w ← word_at words.Tick ts
  quantum ← number_at w.1
  us ← sign_at signs.Semicolon quantum.1
  Ok (quantum.0, us)

-- A whole program: `tick N;` and the declarations up to the end
unfoldable pub text_at : ℕ → List Numbered → Result Raw ℕ
text_at n ts = do
  quantum ← quantum_at ts
  items ← program_at n [] quantum.1
  Ok (record { quantum = quantum.0; items = items })
