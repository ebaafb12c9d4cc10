-- Each step of a declaration and of a program that is read.
use Rattle.std.proofs.Common.{◌≡◌, ℕ, zero, suc, ◌≤◌, List, [], ◌∷◌, ◌++◌, Option, Some, Result, Ok, Err, Bool, true, false, cond, refl, sym, ap, ◌∙◌, arith}
use Rattle.psy_arith.specs.declared.width.Width.{Width}
use Rattle.psy_tree.specs.declared.token.Kind.TheVariants as kinds
use Rattle.psy_tree.specs.declared.token.Word.TheVariants as words
use Rattle.psy_tree.specs.declared.token.Sign.TheVariants as signs
use Rattle.psy_tree.specs.declared.raw.Name.{Name}
use Rattle.psy_tree.specs.declared.raw.Lit.{Lit}
use Rattle.psy_tree.specs.declared.raw.Local.{Local}
use Rattle.psy_tree.specs.declared.raw.RawStmt.{RawStmt}
use Rattle.psy_tree.specs.declared.raw.Raw.{Raw}
use Rattle.psy_tree.specs.declared.raw.Item.{Item}
use Rattle.psy_tree.specs.declared.raw.Item.TheVariants.{Agent}
use Rattle.psy_tree.specs.Grammar.{Numbered, named, numeral, word, sign, type_of, Start, FunctionLocal, AgentLocal, Many, Further, Params, Parent, Shift, Block, Declaration, Program}
use Rattle.psy_tree.specs.Grammar as grammar
use Rattle.psy_parse.specs.Reading.{◌>>=◌, Reads, stuck, name_at, start_at, array_at, scalar_at, local_at, locals_at, param_at, further_at, params_at, parent_at, shift_at, clock_at, temporal_at, input_at, stream_at, function_at, agent_at, declaration_at, program_at, is_end, quantum_at, text_at}
use Rattle.psy_parse.proofs.Steps.{Front, through, Anything, Whatever, Ends, Step, Part, Listed, listed, nothing_listed, one_listed, IsText, text, done_step, stuck_step, out_of_turns, same_step, bind_step, last_step, end_step}
use Rattle.psy_parse.proofs.Heads.{TypeWord, sign_step, word_step, number_step, name_step, given_sign, given_word, given_type}
use Rattle.psy_parse.proofs.StmtSteps.{Optional, without, with_number, optional_part, block_part}

start_part : (enough : ℕ) → Part (Whatever Start) Anything 1 enough start_at start_at
unfolding start_at
start_part enough pre ends ts =
    given_sign _ _ _ _ _ (λ _. number_step _ _ (λ k. done_step ends (omega arith) (λ us _. tt) (λ rest. grammar.Start.negated)))
    (number_step _ _ (λ k. done_step ends (omega arith) (λ us _. tt) (λ rest. grammar.Start.plain)))

-- Locals

-- A function's local, or an agent's
abbrev OneLocal : Bool → List Numbered → Local → List Numbered → Type 0
OneLocal false = FunctionLocal
OneLocal true = AgentLocal

-- A local behind a word that names its type
abbrev BehindType : Bool → Width → Front → Local → Type 0
BehindType arrays width mid x = (t : TypeWord) → t.width ≡ width → (rest : List Numbered) → OneLocal arrays (word t.number t.word_of ∷ mid rest) x rest

-- Its word names that type
names_it : (t : TypeWord) (width : Width) → t.width ≡ width → type_of t.word_of ≡ Some width
names_it t width e = t.is ∙ ap (λ (v : Width). Some v) e

module _ (enough : ℕ) (pre : Front) {ts : List Numbered} {other : Reads Local} (width : Width) where
  scalar_steps : (arrays : Bool) → Ends pre (BehindType arrays width) → ((ts rest : List Numbered) (l : Local) → FunctionLocal ts l rest → OneLocal arrays ts l rest)
      → (x : Name) → Step pre (BehindType arrays width) Anything ts other 1 enough (λ us. named x ∷ us) 1 Anything (scalar_at width x) (scalar_at width x)
  unfolding scalar_at
  scalar_steps arrays ends one x =
      sign_step _ _ _ (λ _. bind_step _ _ (start_part enough) (omega arith) (λ _ i is. sign_step _ _ _ (λ _.
      done_step ends (omega arith) (λ us _. tt) (λ t e rest. one _ _ _ (grammar.FunctionLocal.scalar (names_it t width e) (is _))))))

  array_steps : Ends pre (BehindType true width) → (x : Name) (m : ℕ)
      → Step pre (BehindType true width) Anything ts other 1 enough (λ us. named x ∷ sign m signs.OpenSquare ∷ us) 2 Anything (array_at width x) (array_at width x)
  unfolding array_at
  array_steps ends x m =
      number_step _ _ (λ k. sign_step _ _ _ (λ _. sign_step _ _ _ (λ _. done_step ends (omega arith) (λ us _. tt) (λ t e rest. grammar.AgentLocal.array (names_it t width e)))))

local_part : (arrays : Bool) (width : Width) (enough : ℕ) → Part (BehindType arrays width) Anything 1 enough (local_at arrays width) (local_at arrays width)
unfolding local_at
local_part false width enough pre ends ts = name_step _ _ (λ x. scalar_steps enough pre width false ends (λ _ _ _ l. l) x)
local_part true width enough pre ends ts =
    name_step _ _ (λ x. given_sign _ _ _ _ _ (λ m. array_steps enough pre width ends x m) (scalar_steps enough pre width true ends (λ _ _ _ l. grammar.AgentLocal.variable l) x))

locals_parts : (arrays : Bool) (n m : ℕ) → n ≤ m → (front : List Local) → Part (Listed (Whatever (Many (OneLocal arrays))) front) Anything 0 n (locals_at arrays n front) (locals_at arrays m front)
unfolding locals_at
locals_parts arrays zero m le front pre ends ts = out_of_turns (ends (λ us. us) front (nothing_listed front (λ rest. grammar.Many.none))) (omega arith)
locals_parts arrays (suc n) zero le front pre ends ts = absurd (omega arith)
locals_parts arrays (suc n) (suc m) le front pre ends ts =
    given_type _ _ _ _ (λ t. bind_step _ _ (local_part arrays t.width (suc n)) (omega arith) (λ one x is.
    last_step ends (locals_parts arrays n m (omega arith) (front ++ x ∷ [])) (omega arith) (omega arith) (λ us _. tt)
    (λ _ all l. one_listed front x (λ us. word t.number t.word_of ∷ one us) (λ others o rest. grammar.Many.more (is t refl _) (o rest)) l)))
    (done_step ends (omega arith) (λ us _. tt) (nothing_listed front (λ rest. grammar.Many.none)))

all_locals : (arrays : Bool) {mid : Front} {all : List Local} → Listed (Whatever (Many (OneLocal arrays))) [] mid all → Whatever (Many (OneLocal arrays)) mid all
all_locals arrays (listed m) = m

-- Parameters

data IsName : List Numbered → Name → List Numbered → Type 0 where
  is_name : {x : Name} {rest : List Numbered} → IsName (named x ∷ rest) x rest

data IsParam : List Numbered → Name → List Numbered → Type 0 where
  param : {n : ℕ} {x : Name} {rest : List Numbered} → IsParam (word n words.Int ∷ named x ∷ rest) x rest

no_more_read : {A : Type 0} (r : Result A ℕ) → (r >>= λ x. Ok x) ≡ r
no_more_read (Ok x) = refl
no_more_read (Err e) = refl

name_part : (enough : ℕ) → Part (Whatever IsName) Anything 1 enough name_at name_at
name_part enough pre ends ts =
    same_step (λ us. no_more_read (name_at us)) (λ us. no_more_read (name_at us)) (name_step _ _ (λ x. done_step ends (omega arith) (λ us _. tt) (λ rest. is_name)))

param_of : {n : ℕ} {x : Name} {ts rest : List Numbered} → IsName ts x rest → IsParam (word n words.Int ∷ ts) x rest
param_of is_name = param

param_part : (enough : ℕ) → Part (Whatever IsParam) Anything 1 enough param_at param_at
unfolding param_at
param_part enough pre ends ts = word_step _ _ _ (λ _. last_step ends (name_part enough) (omega arith) (omega arith) (λ us _. tt) (λ _ x is rest. param_of (is rest)))

further_of : {n : ℕ} {x : Name} {others : List Name} {ts us rest : List Numbered} → IsParam ts x us → Further us others rest → Further (sign n signs.Comma ∷ ts) (x ∷ others) rest
further_of param f = grammar.Further.one_more f

further_parts : (n m : ℕ) → n ≤ m → (front : List Name) → Part (Listed (Whatever Further) front) Anything 1 n (further_at n front) (further_at m front)
unfolding further_at
further_parts zero m le front pre ends ts =
    out_of_turns (through pre (kinds.Sign signs.CloseRound) (λ n. ends (λ us. sign n signs.CloseRound ∷ us) front (nothing_listed front (λ rest. grammar.Further.no_more)))) (omega arith)
further_parts (suc n) zero le front pre ends ts = absurd (omega arith)
further_parts (suc n) (suc m) le front pre ends ts =
    given_sign _ _ _ _ _ (λ _. done_step ends (omega arith) (λ us _. tt) (nothing_listed front (λ rest. grammar.Further.no_more)))
    (sign_step _ _ _ (λ a. bind_step _ _ (param_part (suc n)) (omega arith) (λ one x is.
    last_step ends (further_parts n m (omega arith) (front ++ x ∷ [])) (omega arith) (omega arith) (λ us _. tt)
    (λ _ all l. one_listed front x (λ us. sign a signs.Comma ∷ one us) (λ others o rest. further_of (is _) (o rest)) l))))

params_by : {x : Name} {others : List Name} {ts us rest : List Numbered} → IsParam ts x us → Further us others rest → Params ts (x ∷ others) rest
params_by param f = grammar.Params.with_first f

params_of : {x : Name} {all : List Name} {one mid : Front} → Whatever IsParam one x → Listed (Whatever Further) (x ∷ []) mid all → Whatever Params (λ us. one (mid us)) all
params_of is (listed f) = λ rest. params_by (is _) (f rest)

params_part : (n m : ℕ) → n ≤ m → Part (Whatever Params) Anything 1 n (params_at n) (params_at m)
unfolding params_at
params_part n m le pre ends ts =
    given_sign _ _ _ _ _ (λ _. done_step ends (omega arith) (λ us _. tt) (λ rest. grammar.Params.without))
    (bind_step _ _ (param_part n) (omega arith) (λ _ x is. last_step ends (further_parts n m le (x ∷ [])) (omega arith) (omega arith) (λ us _. tt) (λ _ all l. params_of is l)))

-- Declarations

parent_part : (enough : ℕ) → Part (Whatever Parent) Anything 1 enough parent_at parent_at
unfolding parent_at
parent_part enough pre ends ts =
    given_word _ _ _ _ _ (λ _. done_step ends (omega arith) (λ us _. tt) (λ rest. grammar.Parent.the_tick))
    (name_step _ _ (λ x. done_step ends (omega arith) (λ us _. tt) (λ rest. grammar.Parent.a_clock)))

shift_part : (enough : ℕ) → Part (Whatever Shift) Anything 1 enough shift_at shift_at
unfolding shift_at
shift_part enough pre ends ts =
    given_sign _ _ _ _ _ (λ _. number_step _ _ (λ k. sign_step _ _ _ (λ _. done_step ends (omega arith) (λ us _. tt) (λ rest. grammar.Shift.shifted))))
    (sign_step _ _ _ (λ _. done_step ends (omega arith) (λ us _. tt) (λ rest. grammar.Shift.without)))

agent_of : {name clock : Name} {processor : Option Lit} {budget : Lit} {locals : List Local} {stmts : List RawStmt} {n a b c body d e : ℕ} {ts us vs rest : List Numbered}
    → Optional words.Processor us processor (word b words.Budget ∷ numeral budget ∷ sign c signs.OpenBrace ∷ ts)
    → Many AgentLocal ts locals (word body words.Body ∷ sign d signs.OpenBrace ∷ vs) → Block vs stmts (sign e signs.CloseBrace ∷ rest)
    → Declaration (word n words.Agent ∷ named name ∷ word a words.On ∷ named clock ∷ us) (Agent name clock processor budget locals body stmts) rest
agent_of without locals stmts = grammar.Declaration.agent locals stmts
agent_of with_number locals stmts = grammar.Declaration.agent_on_processor locals stmts

module _ (n m : ℕ) (le : n ≤ m) (pre : Front) (ends : Ends pre (Whatever Declaration)) (ts : List Numbered) (other : Reads Item) where
  clock_steps : (k : ℕ) → Step pre (Whatever Declaration) Anything ts other 1 (suc n) (λ us. word k words.Clock ∷ us) 1 Anything clock_at clock_at
  unfolding clock_at
  clock_steps k =
      name_step _ _ (λ name. sign_step _ _ _ (λ _. number_step _ _ (λ by. sign_step _ _ _ (λ _. bind_step _ _ (parent_part n) (omega arith) (λ _ parent p. bind_step _ _ (shift_part n) (omega arith) (λ _ shift s.
      done_step ends (omega arith) (λ us _. tt) (λ rest. grammar.Declaration.clock (p _) (s rest))))))))

  temporal_steps : (k : ℕ) → Step pre (Whatever Declaration) Anything ts other 1 (suc n) (λ us. word k words.Temporal ∷ us) 1 Anything temporal_at temporal_at
  unfolding temporal_at
  temporal_steps k =
      name_step _ _ (λ name. word_step _ _ _ (λ _. name_step _ _ (λ owner. word_step _ _ _ (λ _. name_step _ _ (λ clock. sign_step _ _ _ (λ _. bind_step _ _ (start_part n) (omega arith) (λ _ init is.
      word_step _ _ _ (λ _. number_step _ _ (λ depth. sign_step _ _ _ (λ _.
      done_step ends (omega arith) (λ us _. tt) (λ rest. grammar.Declaration.temporal (is _))))))))))))

  input_steps : (k : ℕ) → Step pre (Whatever Declaration) Anything ts other 1 (suc n) (λ us. word k words.Input ∷ us) 1 Anything input_at input_at
  unfolding input_at
  input_steps k =
      name_step _ _ (λ name. word_step _ _ _ (λ _. name_step _ _ (λ clock. sign_step _ _ _ (λ _. bind_step _ _ (start_part n) (omega arith) (λ _ init is. word_step _ _ _ (λ _. number_step _ _ (λ depth. sign_step _ _ _ (λ _.
      done_step ends (omega arith) (λ us _. tt) (λ rest. grammar.Declaration.input (is _))))))))))

  stream_steps : (k : ℕ) → Step pre (Whatever Declaration) Anything ts other 1 (suc n) (λ us. word k words.Stream ∷ us) 1 Anything stream_at stream_at
  unfolding stream_at
  stream_steps k =
      name_step _ _ (λ name. word_step _ _ _ (λ _. name_step _ _ (λ receiver. word_step _ _ _ (λ _. number_step _ _ (λ keep. word_step _ _ _ (λ _. name_step _ _ (λ clock. sign_step _ _ _ (λ _.
      done_step ends (omega arith) (λ us _. tt) (λ rest. grammar.Declaration.stream)))))))))

  function_steps : (k : ℕ) → Step pre (Whatever Declaration) Anything ts other 1 (suc n) (λ us. word k words.Int ∷ us) 1 Anything (function_at n) (function_at m)
  unfolding function_at
  function_steps k =
      name_step _ _ (λ name. sign_step _ _ _ (λ _. bind_step _ _ (params_part n m le) (omega arith) (λ _ params p. sign_step _ _ _ (λ _. bind_step _ _ (locals_parts false n m le []) (omega arith) (λ _ locals l.
      bind_step _ _ (block_part n m le) (omega arith) (λ _ stmts s. done_step ends (omega arith) (λ us _. tt) (λ rest. grammar.Declaration.function (p _) (all_locals false l _) (s rest))))))))

  agent_steps : (k : ℕ) → Step pre (Whatever Declaration) Anything ts other 1 (suc n) (λ us. word k words.Agent ∷ us) 1 Anything (agent_at n) (agent_at m)
  unfolding agent_at
  agent_steps k =
      name_step _ _ (λ name. word_step _ _ _ (λ _. name_step _ _ (λ clock. bind_step _ _ (optional_part words.Processor n) (omega arith) (λ _ processor p. word_step _ _ _ (λ _. number_step _ _ (λ budget. sign_step _ _ _ (λ _.
      bind_step _ _ (locals_parts true n m le []) (omega arith) (λ _ locals l. word_step _ _ _ (λ body. sign_step _ _ _ (λ _. bind_step _ _ (block_part n m le) (omega arith) (λ _ stmts s. sign_step _ _ _ (λ _.
      done_step ends (omega arith) (λ us _. tt) (λ rest. agent_of (p _) (all_locals true l _) (s _))))))))))))))

declaration_part : (n m : ℕ) → n ≤ m → Part (Whatever Declaration) Anything 1 (suc n) (declaration_at n) (declaration_at m)
unfolding declaration_at
declaration_part n m le pre ends ts =
    given_word _ _ _ _ _ (λ k. clock_steps n m le pre ends ts _ k)
    (given_word _ _ _ _ _ (λ k. temporal_steps n m le pre ends ts _ k)
    (given_word _ _ _ _ _ (λ k. input_steps n m le pre ends ts _ k)
    (given_word _ _ _ _ _ (λ k. stream_steps n m le pre ends ts _ k)
    (given_word _ _ _ _ _ (λ k. function_steps n m le pre ends ts _ k)
    (given_word _ _ _ _ _ (λ k. agent_steps n m le pre ends ts _ k)
    (stuck_step (through pre (kinds.Word words.Clock) (λ k. (clock_steps n m le pre ends ts (declaration_at m) k).hope))))))))

-- Programs

-- No tokens are left
abbrev pub Nothing : List Numbered → Type 0
Nothing us = us ≡ []

-- The tokens up to the end are declarations
abbrev Programs : Front → List Item → Type 0
Programs mid items = Program (mid []) items

-- The declarations behind these, up to the end, with the tokens behind it, of which there are none
ending_at : ℕ → List Item → Reads (List Item)
ending_at zero front ts = stuck ts
ending_at (suc n) front ts = cond (is_end ts) (Ok (front, ts)) (declaration_at n ts >>= λ x. ending_at n (front ++ x.0 ∷ []) x.1)

ending_parts : (n m : ℕ) → n ≤ m → (front : List Item) → Part (Listed Programs front) Nothing 0 n (ending_at n front) (ending_at m front)
unfolding ending_at
ending_parts zero m le front pre ends ts = out_of_turns (ends (λ us. us) front (nothing_listed front grammar.Program.end)) (omega arith)
ending_parts (suc n) zero le front pre ends ts = absurd (omega arith)
ending_parts (suc n) (suc m) le front pre ends ts =
    let within : n ≤ m = omega arith in
    end_step ends (omega arith) refl (nothing_listed front grammar.Program.end)
    (bind_step _ _ (declaration_part n m within) (omega arith) (λ one x is.
    last_step ends (ending_parts n m within (front ++ x ∷ [])) (omega arith) (omega arith) (λ us none. none)
    (λ _ all l. one_listed front x one (λ items p. grammar.Program.next (is _) p) l)))

data IsQuantum : List Numbered → Lit → List Numbered → Type 0 where
  is_quantum : {n m : ℕ} {quantum : Lit} {rest : List Numbered} → IsQuantum (word n words.Tick ∷ numeral quantum ∷ sign m signs.Semicolon ∷ rest) quantum rest

quantum_part : (enough : ℕ) → Part (Whatever IsQuantum) Anything 1 enough quantum_at quantum_at
unfolding quantum_at
quantum_part enough pre ends ts = word_step _ _ _ (λ _. number_step _ _ (λ k. sign_step _ _ _ (λ _. done_step ends (omega arith) (λ us _. tt) (λ rest. is_quantum))))

text_by : {quantum : Lit} {items : List Item} {ts us : List Numbered} → IsQuantum ts quantum us → Program us items → IsText (record { quantum = quantum; items = items }) ts
text_by is_quantum p = text p

text_of : {quantum : Lit} {items : List Item} {one mid : Front} → Whatever IsQuantum one quantum → Listed Programs [] mid items → IsText (record { quantum = quantum; items = items }) (one (mid []))
text_of is (listed p) = text_by (is _) p

-- A whole program, with the tokens behind it, of which there are none
pub whole_at : ℕ → Reads Raw
whole_at n ts = quantum_at ts >>= λ quantum. ending_at n [] quantum.1 >>= λ items. Ok (record { quantum = quantum.0; items = items.0 }, items.1)

-- The tokens up to the end are a text
abbrev pub Texts : Front → Raw → Type 0
Texts mid raw = IsText raw (mid [])

pub whole_part : (n m : ℕ) → n ≤ m → Part Texts Nothing 0 n (whole_at n) (whole_at m)
unfolding whole_at
whole_part n m le pre ends ts =
    bind_step _ _ (quantum_part n) (omega arith) (λ _ quantum is. bind_step _ _ (ending_parts n m le []) (omega arith) (λ _ items l.
    done_step ends (omega arith) (λ us none. none) (text_of is l)))

-- It is the text without those tokens

later : {A B C : Type 0} (r : Result A ℕ) (f : A → Result B ℕ) (g : B → Result C ℕ) → r >>= f >>= g ≡ (r >>= λ x. f x >>= g)
later (Ok x) f g = refl
later (Err e) f g = refl

under : {A B : Type 0} (r : Result A ℕ) (f g : A → Result B ℕ) → ((x : A) → f x ≡ g x) → r >>= f ≡ r >>= g
under (Ok x) f g e = e x
under (Err e') f g e = refl

ending_by : (b : Bool) (front : List Item) (ts : List Numbered) (r : Result (Item × List Numbered) ℕ) (f : Item × List Numbered → Result (List Item) ℕ) (g : Item × List Numbered → Result (List Item × List Numbered) ℕ)
    → ((x : Item × List Numbered) → f x ≡ (g x >>= λ y. Ok y.0)) → cond b (Ok front) (r >>= f) ≡ (cond b (Ok (front, ts)) (r >>= g) >>= λ y. Ok y.0)
ending_by true front ts r f g e = refl
ending_by false front ts r f g e = under r f (λ x. g x >>= λ y. Ok y.0) e ∙ sym (later r g (λ y. Ok y.0))

program_ends : (n : ℕ) (front : List Item) (ts : List Numbered) → program_at n front ts ≡ (ending_at n front ts >>= λ y. Ok y.0)
unfolding program_at ending_at
program_ends zero front ts = refl
program_ends (suc n) front ts = ending_by (is_end ts) front ts (declaration_at n ts) _ _ (λ x. program_ends n (front ++ x.0 ∷ []) x.1)

pub text_whole : (n : ℕ) (ts : List Numbered) → text_at n ts ≡ (whole_at n ts >>= λ x. Ok x.0)
unfolding text_at whole_at
text_whole n ts =
    under (quantum_at ts) _ (λ q. ending_at n [] q.1 >>= λ items. Ok (record { quantum = q.0; items = items.0 }))
    (λ q. ap (λ r. r >>= λ items. Ok (record { quantum = q.0; items = items })) (program_ends n [] q.1) ∙ later (ending_at n [] q.1) (λ y. Ok y.0) (λ items. Ok (record { quantum = q.0; items = items })))
    ∙ sym (later (quantum_at ts) (λ q. ending_at n [] q.1 >>= λ items. Ok (record { quantum = q.0; items = items.0 }, items.1)) (λ x. Ok x.0)
    ∙ under (quantum_at ts) _ _ (λ q. later (ending_at n [] q.1) (λ items. Ok (record { quantum = q.0; items = items.0 }, items.1)) (λ x. Ok x.0)))
