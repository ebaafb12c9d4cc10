-- The names that a text declares are words of at most 32 bytes.
use Rattle.std.proofs.Common.{ℕ, suc, ◌+◌, List, [], ◌∷◌, map, length, sym, subst}
use Rattle.std.specs.Prelude.{⊤}
use Rattle.std.specs.List.{All, AllByRecursion, flat_map}
use Rattle.std.proofs.lemmas.List.Elements.{All-nil, All-cons, All-append, All-map}
use Rattle.psy_tree.specs.declared.raw.Name.{Name}
use Rattle.psy_tree.specs.declared.raw.Local.{Local}
use Rattle.psy_tree.specs.declared.raw.Item.{Item}
use Rattle.psy_tree.specs.declared.raw.Raw.{Raw}
use Rattle.psy_tree.specs.declared.token.Kind.{Kind}
use Rattle.psy_tree.specs.declared.token.Kind.TheVariants as kinds
use Rattle.psy_tree.specs.declared.token.Token.{Token}
use Rattle.psy_tree.specs.Lexemes as lexemes
use Rattle.psy_tree.specs.Tokens.{Piece, Separator, Lexeme, AllStand, tokens_from, TokensOf}
use Rattle.psy_tree.specs.Grammar.{Numbered, numbered, AgentLocal, Many, Further, Params, Declaration, Program, Spells}
use Rattle.psy_tree.specs.Grammar as grammar
use Rattle.psy_tree.specs.Scope.{SlotName, scalar, local_slot, slots_of, item_name}
use Rattle.psy_meaning.specs.Units.{IsName}
use Rattle.psy_tree.proofs.lemmas.Tails.{Behind, all_behind, behind_one, behind_local, agent_locals, behind_params, behind_declaration}

-- The names of a declaration: its own, and those of its parameters, variables and arrays
abbrev pub names_in : Item → List (List ℕ)
names_in i = (item_name i).text ∷ map (λ s. s.name.text) (slots_of i)

-- Each name that is declared is a word of at most 32 bytes.
abbrev pub AreNames : Raw → Type 0
AreNames raw = All IsName (flat_map names_in raw.items)

abbrev NamesIt : Kind → Type 0
NamesIt (kinds.Name text) = IsName text
NamesIt _ = ⊤

-- The names among tokens are words of at most 32 bytes
abbrev Lawful : List Numbered → Type 0
Lawful ts = AllByRecursion (λ t. NamesIt t.1) ts

-- ---- tokens

lexeme_lawful : (kind : Kind) (bytes : List ℕ) → lexemes.IsSpelling kind bytes → NamesIt kind
lexeme_lawful (kinds.Name text) bytes (is, word, short, other) = (word, short)
lexeme_lawful (kinds.Word w) bytes is = tt
lexeme_lawful (kinds.Number n) bytes is = tt
lexeme_lawful (kinds.Sign s) bytes is = tt

pieces_lawful : (place n : ℕ) (pieces : List Piece) (rest : List ℕ) → AllStand pieces rest → Lawful (numbered n (tokens_from place pieces))
pieces_lawful place n [] rest stand = tt
pieces_lawful place n (Separator bytes ∷ pieces) rest stand = pieces_lawful (place + length bytes) n pieces rest stand.1
pieces_lawful place n (Lexeme kind bytes ∷ pieces) rest stand = (lexeme_lawful kind bytes stand.0.0, pieces_lawful (place + length bytes) (suc n) pieces rest stand.1)

tokens_lawful : (bytes : List ℕ) (tokens : List Token) → TokensOf bytes tokens → Lawful (numbered 0 tokens)
tokens_lawful bytes tokens (pieces, splits, are) = subst (λ ts. Lawful (numbered 0 ts)) (sym are) (pieces_lawful 0 0 pieces [] splits.stand)

-- ---- names inside a declaration

abbrev behind : {ts rest : List Numbered} → Behind ts rest → Lawful ts → Lawful rest
behind b lawful = all_behind (λ t. NamesIt t.1) b lawful

-- The name of a parameter or a local
abbrev Named : SlotName → Type 0
Named s = IsName s.name.text

local_named : {ts rest : List Numbered} {x : Local} → AgentLocal ts x rest → Lawful ts → Named (local_slot x)
local_named (grammar.AgentLocal.variable (grammar.FunctionLocal.scalar is h)) lawful = lawful.1.0
local_named (grammar.AgentLocal.array is) lawful = lawful.1.0

locals_named : {ts rest : List Numbered} {xs : List Local} → Many AgentLocal ts xs rest → Lawful ts → All Named (map local_slot xs)
locals_named grammar.Many.none lawful = All-nil Named
locals_named (grammar.Many.more {first = x} {others = others} h m) lawful = All-cons Named (local_slot x) (map local_slot others) (local_named h lawful) (locals_named m (behind (behind_local h) lawful))

further_named : {ts rest : List Numbered} {xs : List Name} → Further ts xs rest → Lawful ts → All Named (map scalar xs)
further_named grammar.Further.no_more lawful = All-nil Named
further_named (grammar.Further.one_more {x = x} {others = others} f) lawful = All-cons Named (scalar x) (map scalar others) lawful.1.1.0 (further_named f lawful.1.1.1)

params_named : {ts rest : List Numbered} {xs : List Name} → Params ts xs rest → Lawful ts → All Named (map scalar xs)
params_named grammar.Params.without lawful = All-nil Named
params_named (grammar.Params.with_first {x = x} {others = others} f) lawful = All-cons Named (scalar x) (map scalar others) lawful.1.0 (further_named f lawful.1.1)

-- ---- declarations

item_named : (i : Item) → IsName (item_name i).text → All Named (slots_of i) → All IsName (names_in i)
item_named i own inside = All-cons IsName (item_name i).text (map (λ s. s.name.text) (slots_of i)) own (All-map IsName (λ s. s.name.text) (slots_of i) inside)

declaration_named : {ts rest : List Numbered} {i : Item} → Declaration ts i rest → Lawful ts → All IsName (names_in i)
declaration_named {i = i} (grammar.Declaration.clock p s) lawful = item_named i lawful.1.0 (All-nil Named)
declaration_named {i = i} (grammar.Declaration.temporal h) lawful = item_named i lawful.1.0 (All-nil Named)
declaration_named {i = i} (grammar.Declaration.input h) lawful = item_named i lawful.1.0 (All-nil Named)
declaration_named {i = i} grammar.Declaration.stream lawful = item_named i lawful.1.0 (All-nil Named)
declaration_named {i = i} (grammar.Declaration.function {params = params} {locals = locals} p m b) lawful =
    item_named i lawful.1.0
    (All-append Named (map scalar params) (map local_slot locals) (params_named p lawful.1.1.1)
    (locals_named (agent_locals m) (behind (behind_one (behind_params p)) lawful.1.1.1)))
declaration_named {i = i} (grammar.Declaration.agent m b) lawful =
    item_named i lawful.1.0 (locals_named m lawful.1.1.1.1.1.1.1)
declaration_named {i = i} (grammar.Declaration.agent_on_processor m b) lawful =
    item_named i lawful.1.0 (locals_named m lawful.1.1.1.1.1.1.1.1.1)

program_named : {ts : List Numbered} {is : List Item} → Program ts is → Lawful ts → All IsName (flat_map names_in is)
program_named grammar.Program.end lawful = All-nil IsName
program_named (grammar.Program.next {first = i} {others = others} d p) lawful =
    All-append IsName (names_in i) (flat_map names_in others) (declaration_named d lawful) (program_named p (behind (behind_declaration d) lawful))

pub names_of_text : (bytes : List ℕ) (tokens : List Token) (raw : Raw) → TokensOf bytes tokens → Spells raw tokens → AreNames raw
names_of_text bytes tokens raw are (grammar.Spells.program e p) =
    let lawful : Lawful (numbered 0 tokens) = tokens_lawful bytes tokens are in
    program_named p (subst Lawful e lawful).1.1.1
