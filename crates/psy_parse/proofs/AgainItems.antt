-- Each program that is spelled is read again.
use Rattle.std.proofs.Common.{◌≡◌, ℕ, zero, suc, ◌+◌, ◌<◌, ◌≤◌, List, [], ◌∷◌, ◌++◌, length, Option, Some, None, Result, Ok, Err, Bool, true, false, refl, sym, ap, ◌∙◌, append_assoc, arith}
use Rattle.std.proofs.lemmas.List.{append-nil}
use Rattle.psy_arith.specs.declared.width.Width.{Width}
use Rattle.psy_tree.specs.declared.token.Token.{Token}
use Rattle.psy_tree.specs.declared.token.Word.{Word}
use Rattle.psy_tree.specs.declared.token.Word.TheVariants as words
use Rattle.psy_tree.specs.declared.token.Sign.TheVariants as signs
use Rattle.psy_tree.specs.declared.raw.Name.{Name}
use Rattle.psy_tree.specs.declared.raw.Lit.{Lit}
use Rattle.psy_tree.specs.declared.raw.Init.{Init}
use Rattle.psy_tree.specs.declared.raw.Raw.{Raw}
use Rattle.psy_tree.specs.declared.raw.Local.{Local}
use Rattle.psy_tree.specs.declared.raw.Item.{Item}
use Rattle.psy_tree.specs.Grammar.{Numbered, numbered, named, numeral, word, sign, type_of, Start, FunctionLocal, AgentLocal, Many, Further, Params, Parent, Shift, Declaration, Program, Spells}
use Rattle.psy_tree.specs.Grammar as grammar
use Rattle.psy_parse.specs.Reading.{name_at, number_at, after_number, after_word, after_sign, after_type, word_at, sign_at, start_at, array_at, scalar_at, local_at, locals_at, param_at, further_at, params_at, parent_at, shift_at, optional_at, clock_at, temporal_at, input_at, stream_at, function_at, agent_at, declaration_at, program_at, is_end, quantum_at, text_at}
use Rattle.psy_parse.proofs.Numbers.{length_of_numbered}
use Rattle.psy_parse.proofs.AgainStmts.{shorter_block, block_begins, block_again}

shorter_start : {ts rest : List Numbered} {i : Init} → Start ts i rest → length rest < length ts
shorter_start grammar.Start.plain = omega arith
shorter_start grammar.Start.negated = omega arith

start_again : {ts rest : List Numbered} {i : Init} → Start ts i rest → start_at ts ≡ Ok (i, rest)
unfolding start_at number_at after_number after_sign
start_again grammar.Start.plain = refl
start_again grammar.Start.negated = refl

-- Locals

-- A function's local, or an agent's
abbrev OneLocal : Bool → List Numbered → Local → List Numbered → Type 0
OneLocal false = FunctionLocal
OneLocal true = AgentLocal

-- A local behind the word of its type is read again
data LocalAgain (arrays : Bool) : List Numbered → Local → List Numbered → Type 0 where
  again : {width : Width} {w : Word} {n : ℕ} {x : Local} {ts rest : List Numbered} → type_of w ≡ Some width → length rest < length ts → local_at arrays width ts ≡ Ok (x, rest)
      → LocalAgain arrays (word n w ∷ ts) x rest

variable_again : {ts rest : List Numbered} {x : Local} → FunctionLocal ts x rest → LocalAgain false ts x rest
unfolding local_at scalar_at name_at sign_at after_sign
variable_again (grammar.FunctionLocal.scalar e h) = again e (omega (arith, shorter_start h)) (rw (start_again h) refl)

declared_again : {ts rest : List Numbered} {x : Local} → AgentLocal ts x rest → LocalAgain true ts x rest
unfolding local_at scalar_at array_at name_at number_at after_number sign_at after_sign
declared_again (grammar.AgentLocal.variable (grammar.FunctionLocal.scalar e h)) = again e (omega (arith, shorter_start h)) (rw (start_again h) refl)
declared_again (grammar.AgentLocal.array e) = again e (omega arith) refl

local_again : (arrays : Bool) {ts rest : List Numbered} {x : Local} → OneLocal arrays ts x rest → LocalAgain arrays ts x rest
local_again false h = variable_again h
local_again true h = declared_again h

shorter_local : {arrays : Bool} {ts rest : List Numbered} {x : Local} → LocalAgain arrays ts x rest → length rest < length ts
shorter_local (again is lt e) = omega arith

shorter_locals : (arrays : Bool) {ts rest : List Numbered} {xs : List Local} → Many (OneLocal arrays) ts xs rest → length rest ≤ length ts
shorter_locals arrays grammar.Many.none = omega arith
shorter_locals arrays (grammar.Many.more h m) = omega (arith, shorter_local (local_again arrays h), shorter_locals arrays m)

local_step : (arrays : Bool) (n : ℕ) (front : List Local) {ts us : List Numbered} {x : Local} → LocalAgain arrays ts x us → locals_at arrays (suc n) front ts ≡ locals_at arrays n (front ++ x ∷ []) us
unfolding locals_at after_type
local_step arrays n front (again is lt e) = rw (is, e) refl

locals_again : (arrays : Bool) (n : ℕ) (front : List Local) {ts rest : List Numbered} {xs : List Local} → Many (OneLocal arrays) ts xs rest → length ts < n → after_type rest ≡ None → locals_at arrays n front ts ≡ Ok (front ++ xs, rest)
unfolding locals_at
locals_again arrays zero front m lt none = absurd (omega arith)
locals_again arrays (suc n) front {rest = rest} grammar.Many.none lt none = rw none (ap (λ (all : List Local). Ok (all, rest)) (sym (append-nil front)))
locals_again arrays (suc n) front {rest = rest} (grammar.Many.more {first = x} {others = others} h m) lt none =
    let one = local_again arrays h in
    local_step arrays n front one ∙ locals_again arrays n (front ++ x ∷ []) m (omega (arith, shorter_local one)) none
    ∙ ap (λ (all : List Local). Ok (all, rest)) (append_assoc front (x ∷ []) others)

-- Parameters

shorter_further : {ts rest : List Numbered} {xs : List Name} → Further ts xs rest → length rest < length ts
shorter_further grammar.Further.no_more = omega arith
shorter_further (grammar.Further.one_more f) = omega (arith, shorter_further f)

shorter_params : {ts rest : List Numbered} {xs : List Name} → Params ts xs rest → length rest < length ts
shorter_params grammar.Params.without = omega arith
shorter_params (grammar.Params.with_first f) = omega (arith, shorter_further f)

further_again : (n : ℕ) (front : List Name) {ts rest : List Numbered} {xs : List Name} → Further ts xs rest → length ts < n → further_at n front ts ≡ Ok (front ++ xs, rest)
unfolding further_at param_at name_at word_at after_word sign_at after_sign
further_again zero front f lt = absurd (omega arith)
further_again (suc n) front {rest = rest} grammar.Further.no_more lt = ap (λ (all : List Name). Ok (all, rest)) (sym (append-nil front))
further_again (suc n) front {rest = rest} (grammar.Further.one_more {x = x} {others = others} f) lt =
    rw (further_again n (front ++ x ∷ []) f (omega arith)) (ap (λ (all : List Name). Ok (all, rest)) (append_assoc front (x ∷ []) others))

params_again : (n : ℕ) {ts rest : List Numbered} {xs : List Name} → Params ts xs rest → length ts < n → params_at n ts ≡ Ok (xs, rest)
unfolding params_at param_at name_at word_at after_word after_sign
params_again n grammar.Params.without lt = refl
params_again n (grammar.Params.with_first {x = x} f) lt = rw (further_again n (x ∷ []) f (omega arith)) refl

-- Declarations

parent_again : {ts rest : List Numbered} {p : Option Name} → Parent ts p rest → parent_at ts ≡ Ok (p, rest)
unfolding parent_at name_at after_word
parent_again grammar.Parent.the_tick = refl
parent_again grammar.Parent.a_clock = refl

shorter_parent : {ts rest : List Numbered} {p : Option Name} → Parent ts p rest → length rest < length ts
shorter_parent grammar.Parent.the_tick = omega arith
shorter_parent grammar.Parent.a_clock = omega arith

shift_again : {ts rest : List Numbered} {s : Option Lit} → Shift ts s rest → shift_at ts ≡ Ok (s, rest)
unfolding shift_at number_at after_number sign_at after_sign
shift_again grammar.Shift.without = refl
shift_again grammar.Shift.shifted = refl

shorter_shift : {ts rest : List Numbered} {s : Option Lit} → Shift ts s rest → length rest < length ts
shorter_shift grammar.Shift.without = omega arith
shorter_shift grammar.Shift.shifted = omega arith

shorter_declaration : {ts rest : List Numbered} {x : Item} → Declaration ts x rest → length rest < length ts
shorter_declaration (grammar.Declaration.clock p s) = omega (arith, shorter_parent p, shorter_shift s)
shorter_declaration (grammar.Declaration.temporal h) = omega (arith, shorter_start h)
shorter_declaration (grammar.Declaration.input h) = omega (arith, shorter_start h)
shorter_declaration grammar.Declaration.stream = omega arith
shorter_declaration (grammar.Declaration.function p m b) = omega (arith, shorter_params p, shorter_locals false m, shorter_block b)
shorter_declaration (grammar.Declaration.agent m b) = omega (arith, shorter_locals true m, shorter_block b)
shorter_declaration (grammar.Declaration.agent_on_processor m b) = omega (arith, shorter_locals true m, shorter_block b)

declaration_again : (n : ℕ) {ts rest : List Numbered} {x : Item} → Declaration ts x rest → length ts ≤ n → declaration_at n ts ≡ Ok (x, rest)
unfolding declaration_at clock_at temporal_at input_at stream_at function_at agent_at optional_at name_at number_at after_number word_at after_word after_type sign_at after_sign
declaration_again n (grammar.Declaration.clock p s) le = rw (parent_again p, shift_again s) refl
declaration_again n (grammar.Declaration.temporal h) le = rw (start_again h) refl
declaration_again n (grammar.Declaration.input h) le = rw (start_again h) refl
declaration_again n grammar.Declaration.stream le = refl
declaration_again n (grammar.Declaration.function p m b) le =
    rw (params_again n p (omega arith), locals_again false n [] m (omega (arith, shorter_params p)) (block_begins b).no_type, block_again n [] b (omega (arith, shorter_params p, shorter_locals false m))) refl
declaration_again n (grammar.Declaration.agent m b) le =
    rw (locals_again true n [] m (omega arith) refl, block_again n [] b (omega (arith, shorter_locals true m))) refl
declaration_again n (grammar.Declaration.agent_on_processor m b) le =
    rw (locals_again true n [] m (omega arith) refl, block_again n [] b (omega (arith, shorter_locals true m))) refl

nothing_begins : {ts rest : List Numbered} {x : Item} → Declaration ts x rest → is_end ts ≡ false
unfolding is_end
nothing_begins (grammar.Declaration.clock p s) = refl
nothing_begins (grammar.Declaration.temporal h) = refl
nothing_begins (grammar.Declaration.input h) = refl
nothing_begins grammar.Declaration.stream = refl
nothing_begins (grammar.Declaration.function p m b) = refl
nothing_begins (grammar.Declaration.agent m b) = refl
nothing_begins (grammar.Declaration.agent_on_processor m b) = refl

program_again : (n : ℕ) (front : List Item) {ts : List Numbered} {xs : List Item} → Program ts xs → length ts < n → program_at n front ts ≡ Ok (front ++ xs)
unfolding program_at
program_again zero front p lt = absurd (omega arith)
program_again (suc n) front grammar.Program.end lt = unfold is_end in ap (λ (all : List Item). Ok all) (sym (append-nil front))
program_again (suc n) front (grammar.Program.next {first = x} {others = others} h p) lt =
    rw (nothing_begins h, declaration_again n h (omega arith), program_again n (front ++ x ∷ []) p (omega (arith, shorter_declaration h)))
    (ap (λ (all : List Item). Ok all) (append_assoc front (x ∷ []) others))

quantum_again : (n m : ℕ) (quantum : Lit) (ts : List Numbered) → quantum_at (word n words.Tick ∷ numeral quantum ∷ sign m signs.Semicolon ∷ ts) ≡ Ok (quantum, ts)
unfolding quantum_at number_at after_number word_at after_word sign_at after_sign
quantum_again n m quantum ts = refl

-- The tree that has these tokens is read from them
pub reading_from_spells : (n : ℕ) {tokens : List Token} {raw : Raw} → Spells raw tokens → length tokens < n → text_at n (numbered 0 tokens) ≡ Ok raw
unfolding text_at
reading_from_spells n {tokens = tokens} (grammar.Spells.program {quantum = quantum} {n = a} {a = b} {ts = ts} e p) lt =
    let enough : length ts < n = omega (arith, length_of_numbered 0 tokens, ap length e) in
    rw (e, quantum_again a b quantum ts, program_again n [] p enough) refl

-- It is the only one
pub only_tree : (tokens : List Token) (raw other : Raw) → text_at (length tokens + 1) (numbered 0 tokens) ≡ Ok raw → Spells other tokens → other ≡ raw
only_tree tokens raw other read s =
    let again = reading_from_spells (length tokens + 1) s (omega arith) in
    let same : ◌≡◌ {A = Result Raw ℕ} (Ok other) (Ok raw) = sym again ∙ read in
    cc

-- Tokens have one tree at most
pub Spells-unique : (tokens : List Token) (raw other : Raw) → Spells raw tokens → Spells other tokens → raw ≡ other
Spells-unique tokens raw other s t = only_tree tokens other raw (reading_from_spells (length tokens + 1) t (omega arith)) s

-- Where reading can't go on, there is none
pub no_tree : (tokens : List Token) (n : ℕ) → text_at (length tokens + 1) (numbered 0 tokens) ≡ Err n → (raw : Raw) → Spells raw tokens → ⊥
no_tree tokens n read raw s =
    let again = reading_from_spells (length tokens + 1) s (omega arith) in
    let same : ◌≡◌ {A = Result Raw ℕ} (Ok raw) (Err n) = sym again ∙ read in
    cc
