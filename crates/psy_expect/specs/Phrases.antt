-- Terminals in words that people use: those that begin an expression, for one, are told as one.
use Rattle.std.specs.Prelude.{ℕ, Bool, true, false, ◌&&◌, if◌then◌else◌, List, [], ◌∷◌, ◌++◌, find, codes, option_to_list, Option, Some, None}
use Rattle.std.specs.List.{list_any, list_all, flat_map}
use denote.Enum.Bare.{sameb}
use Rattle.psy_tree.specs.declared.token.Word.TheVariants as words
use Rattle.psy_tree.specs.declared.token.Sign.TheVariants as signs
use Rattle.psy_tree.specs.contracts.token.Word as word_kind
use Rattle.psy_tree.specs.contracts.token.Sign as sign_kind
use Rattle.psy_tree.specs.Lexemes.{word_spelling, sign_spelling}
use Rattle.psy_expect.specs.declared.terminal.Terminal.{Terminal}
use Rattle.psy_expect.specs.declared.terminal.Terminal.TheVariants.{Word, Name, Number, Sign}
use Rattle.psy_expect.specs.declared.group.Group.{Group}
use Rattle.psy_expect.specs.declared.group.Group.TheVariants.{Declaration, Statement, Expression, Operator, TypeName}
use Rattle.psy_expect.specs.declared.phrase.Phrase.{Phrase}
use Rattle.psy_expect.specs.declared.phrase.Phrase.TheVariants.{Whole, Own}

-- Two terminals are one
abbrev pub same : Terminal → Terminal → Bool
same (Word v) (Word w) = sameb word_kind.the_type v w
same Name Name = true
same Number Number = true
same (Sign r) (Sign s) = sameb sign_kind.the_type r s
same _ _ = false

-- The terminal is among these
abbrev pub has : List Terminal → Terminal → Bool
has told t = list_any (λ u. same u t) told

-- The terminals with which a declaration, a statement, an expression and what follows an operand begin, and the words of types
abbrev pub members : Group → List Terminal
members Declaration = Word words.Agent ∷ Word words.Clock ∷ Word words.Input ∷ Word words.Int ∷ Word words.Stream ∷ Word words.Temporal ∷ []
members Statement = Word words.Advance ∷ Word words.If ∷ Word words.Return ∷ Word words.Send ∷ Word words.While ∷ Name ∷ []
members Expression =
    Word words.Int ∷ Word words.Int8 ∷ Word words.Int16 ∷ Word words.Int32 ∷ Word words.Int64 ∷ Word words.Past ∷ Word words.Ready ∷ Word words.Take
    ∷ Name ∷ Number ∷ Sign signs.OpenRound ∷ Sign signs.Minus ∷ Sign signs.Tilde ∷ Sign signs.Bang ∷ []
members Operator =
    Sign signs.Plus ∷ Sign signs.Minus ∷ Sign signs.Star ∷ Sign signs.Slash ∷ Sign signs.Percent ∷ Sign signs.ShiftLeft ∷ Sign signs.ShiftRight
    ∷ Sign signs.Less ∷ Sign signs.LessEqual ∷ Sign signs.Greater ∷ Sign signs.GreaterEqual ∷ Sign signs.Equal ∷ Sign signs.NotEqual
    ∷ Sign signs.Amp ∷ Sign signs.Caret ∷ Sign signs.Bar ∷ Sign signs.AmpAmp ∷ Sign signs.BarBar ∷ []
members TypeName = Word words.Int ∷ Word words.Int8 ∷ Word words.Int16 ∷ Word words.Int32 ∷ Word words.Int64 ∷ []

-- A group's words
abbrev pub group_words : Group → List ℕ
group_words Declaration = codes "a declaration"
group_words Statement = codes "a statement"
group_words Expression = codes "an expression"
group_words Operator = codes "an operator"
group_words TypeName = codes "a type"

-- The terminal that is told for its whole group
abbrev pub lead : Group → Terminal
lead Declaration = Word words.Agent
lead Statement = Word words.Advance
lead Expression = Word words.Past
lead Operator = Sign signs.Plus
lead TypeName = Word words.Int

-- All of these terminals are among those that are told
abbrev pub are_told : List Terminal → List Terminal → Bool
are_told told terminals = list_all (λ t. has told t) terminals

-- All terminals of the group are among those that are told, and this is one of them
abbrev pub stands : List Terminal → Terminal → Group → Bool
stands told t group = are_told told (members group) && has (members group) t

-- The first group that stands, of declarations, statements, expressions, operators and types
unfoldable pub group_of : List Terminal → Terminal → Option Group
group_of told t = find (λ group. stands told t group) (Declaration ∷ Statement ∷ Expression ∷ Operator ∷ TypeName ∷ [])

-- A terminal's own words: `a name`, `a number`, or its spelling in quotes
abbrev pub own_words : Terminal → List ℕ
own_words (Word w) = codes "`" ++ word_spelling w ++ codes "`"
own_words Name = codes "a name"
own_words Number = codes "a number"
own_words (Sign s) = codes "`" ++ sign_spelling s ++ codes "`"

-- What is told of a terminal of no group, or of one: the group at its lead, and nothing at the others
abbrev pub phrase_in : Option Group → Terminal → Option Phrase
phrase_in None t = Some (Own t)
phrase_in (Some group) t = if same (lead group) t then Some (Whole group) else None

-- The phrases for the terminals that are told, in their order
abbrev pub phrases : List Terminal → List Phrase
phrases told = flat_map (λ t. option_to_list (phrase_in (group_of told t) t)) told

-- The words of a phrase
abbrev pub phrase_words : Phrase → List ℕ
phrase_words (Whole group) = group_words group
phrase_words (Own t) = own_words t

-- What stands between a phrase and the one before it, by those behind it
abbrev pub separator : List (List ℕ) → List ℕ
separator [] = codes " or "
separator (phrase ∷ more) = codes ", "

-- Phrases behind the first
abbrev pub behind_first : List (List ℕ) → List ℕ
behind_first [] = []
behind_first (phrase ∷ more) = separator more ++ phrase ++ behind_first more

-- `A`, `A or B`, `A, B or C`
abbrev pub listed : List (List ℕ) → List ℕ
listed [] = []
listed (phrase ∷ more) = phrase ++ behind_first more
