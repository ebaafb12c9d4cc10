-- The names that a text declares are spelled as names.
use Rattle.std.proofs.Common.{ℕ, suc, ◌+◌, List, [], ◌∷◌, length, refl, sym, subst}
use Rattle.std.specs.Prelude.{⊤}
use Rattle.std.specs.List.{AllByRecursion, flat_map}
use Rattle.psy_meaning.proofs.lemmas.Eaches.{each-append}
use Rattle.psy_meaning.specs.Sound.{Each}
use Rattle.psy_tree.proofs.lemmas.Tails.{all_behind, behind_declaration}
use Rattle.psy_tree.specs.declared.raw.Item.{Item}
use Rattle.psy_tree.specs.declared.raw.Item.TheVariants as item
use Rattle.psy_tree.specs.declared.raw.Raw.{Raw}
use Rattle.psy_tree.specs.declared.token.Kind.{Kind}
use Rattle.psy_tree.specs.declared.token.Kind.TheVariants as kinds
use Rattle.psy_tree.specs.declared.token.Token.{Token}
use Rattle.psy_tree.specs.declared.unit.AgentDecl.{AgentDecl}
use Rattle.psy_tree.specs.declared.unit.StreamDecl.{StreamDecl}
use Rattle.psy_tree.specs.declared.unit.Unit.{Unit as Whole}
use Rattle.psy_tree.specs.declared.unit.VarDecl.{VarDecl}
use Rattle.psy_tree.specs.Grammar.{Numbered, numbered, Declaration, Program, Spells}
use Rattle.psy_tree.specs.Grammar as grammar
use Rattle.psy_tree.specs.Lexemes.{IsSpelling}
use Rattle.psy_tree.specs.Scope.{item_name}
use Rattle.psy_tree.specs.Stands.{Stands, unit_of, clock_names, variables, streams, agents, each_from}
use Rattle.psy_tree.specs.Tokens.{Piece, Separator, Lexeme, AllStand, tokens_from, TokensOf}

-- A word of at most 32 bytes that isn't reserved
abbrev pub IsNamed : List ℕ → Type 0
IsNamed name = IsSpelling (kinds.Name name) name

-- The names of what an image declares
pub record AreNamed (unit : Whole) : Type 0 where
  pub clocks : Each IsNamed unit.clock_names
  pub variables : Each (λ (v : VarDecl). IsNamed v.name) unit.variables
  pub streams : Each (λ (s : StreamDecl). IsNamed s.name) unit.streams
  pub agents : Each (λ (a : AgentDecl). IsNamed a.name) unit.agents

-- ---- tokens

abbrev NamesIt : Kind → Type 0
NamesIt (kinds.Name text) = IsNamed text
NamesIt _ = ⊤

abbrev Lawful : List Numbered → Type 0
Lawful ts = AllByRecursion (λ t. NamesIt t.1) ts

lexeme_lawful : (kind : Kind) (bytes : List ℕ) → IsSpelling kind bytes → NamesIt kind
lexeme_lawful (kinds.Name text) bytes (is, word, short, other) = (refl, word, short, other)
lexeme_lawful (kinds.Word w) bytes is = tt
lexeme_lawful (kinds.Number n) bytes is = tt
lexeme_lawful (kinds.Sign s) bytes is = tt

pieces_lawful : (place n : ℕ) (pieces : List Piece) (rest : List ℕ) → AllStand pieces rest → Lawful (numbered n (tokens_from place pieces))
pieces_lawful place n [] rest stand = tt
pieces_lawful place n (Separator bytes ∷ pieces) rest stand = pieces_lawful (place + length bytes) n pieces rest stand.1
pieces_lawful place n (Lexeme kind bytes ∷ pieces) rest stand = (lexeme_lawful kind bytes stand.0.0, pieces_lawful (place + length bytes) (suc n) pieces rest stand.1)

tokens_lawful : (bytes : List ℕ) (tokens : List Token) → TokensOf bytes tokens → Lawful (numbered 0 tokens)
tokens_lawful bytes tokens (pieces, splits, are) = subst (λ ts. Lawful (numbered 0 ts)) (sym are) (pieces_lawful 0 0 pieces [] splits.stand)

-- ---- declarations

abbrev Named : Item → Type 0
Named i = IsNamed (item_name i).text

declaration_named : {ts rest : List Numbered} {i : Item} → Declaration ts i rest → Lawful ts → Named i
declaration_named (grammar.Declaration.clock p s) lawful = lawful.1.0
declaration_named (grammar.Declaration.temporal h) lawful = lawful.1.0
declaration_named (grammar.Declaration.input h) lawful = lawful.1.0
declaration_named grammar.Declaration.stream lawful = lawful.1.0
declaration_named (grammar.Declaration.function p m b) lawful = lawful.1.0
declaration_named (grammar.Declaration.agent m b) lawful = lawful.1.0
declaration_named (grammar.Declaration.agent_on_processor m b) lawful = lawful.1.0

program_named : {ts : List Numbered} {is : List Item} → Program ts is → Lawful ts → Each Named is
program_named grammar.Program.end lawful = tt
program_named (grammar.Program.next d p) lawful = (declaration_named d lawful, program_named p (all_behind (λ t. NamesIt t.1) (behind_declaration d) lawful))

items_named : (bytes : List ℕ) (tokens : List Token) (raw : Raw) → TokensOf bytes tokens → Spells raw tokens → Each Named raw.items
items_named bytes tokens raw are (grammar.Spells.program e p) = program_named p (subst Lawful e (tokens_lawful bytes tokens are)).1.1.1

-- ---- what they stand for

clock_named : (i : Item) → Named i → Each IsNamed (clock_names i)
clock_named (item.Clock name by parent shift) h = (h, tt)
clock_named _ h = tt

variable_named : (items : List Item) (i : Item) → Named i → Each (λ (v : VarDecl). IsNamed v.name) (variables items i)
variable_named items (item.Temporal name owner clock init depth) h = (h, tt)
variable_named items (item.Input name clock init depth) h = (h, tt)
variable_named items _ h = tt

stream_named : (items : List Item) (i : Item) → Named i → Each (λ (s : StreamDecl). IsNamed s.name) (streams items i)
stream_named items (item.Stream name receiver keep clock) h = (h, tt)
stream_named items _ h = tt

agent_named : (items : List Item) (k : ℕ) (i : Item) → Named i → Each (λ (a : AgentDecl). IsNamed a.name) (agents items k i)
agent_named items k (item.Agent name clock processor budget locals body stmts) h = (h, tt)
agent_named items k _ h = tt

flat_named : {A : Type 0} (P : A → Type 0) (f : Item → List A) (is : List Item) → Each Named is → ((i : Item) → Named i → Each P (f i)) → Each P (flat_map f is)
flat_named P f [] h each = tt
flat_named P f (i ∷ is) h each = each-append P (f i) (flat_map f is) (each i h.0) (flat_named P f is h.1 each)

from_named : {A : Type 0} (P : A → Type 0) (f : ℕ → Item → List A) (k : ℕ) (is : List Item) → Each Named is → ((k : ℕ) (i : Item) → Named i → Each P (f k i)) → Each P (each_from f k is)
from_named P f k [] h each = tt
from_named P f k (i ∷ is) h each = each-append P (f k i) (each_from f (k + 1) is) (each k i h.0) (from_named P f (k + 1) is h.1 each)

named_in : (raw : Raw) → Each Named raw.items → AreNamed (unit_of raw)
named_in raw h = record {
  clocks = flat_named IsNamed clock_names raw.items h clock_named;
  variables = flat_named (λ (v : VarDecl). IsNamed v.name) (variables raw.items) raw.items h (variable_named raw.items);
  streams = flat_named (λ (s : StreamDecl). IsNamed s.name) (streams raw.items) raw.items h (stream_named raw.items);
  agents = from_named (λ (a : AgentDecl). IsNamed a.name) (agents raw.items) 0 raw.items h (agent_named raw.items);
}

pub are_named : (bytes : List ℕ) (tokens : List Token) (raw : Raw) (unit : Whole) → TokensOf bytes tokens → Spells raw tokens → Stands unit raw → AreNamed unit
are_named bytes tokens raw unit are spells stands = subst AreNamed (sym stands.numbered) (named_in raw (items_named bytes tokens raw are spells))
