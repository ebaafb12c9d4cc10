-- What is told below the mark of a refusal.
use Rattle.std.specs.Prelude.{◌≡◌, ℕ, ◌==◌, ◌≤◌, if◌then◌else◌, List, [], ◌++◌, codes, decimal, length, take, Option, None, Some}
use Rattle.psy_tree.specs.declared.token.Token.{Token}
use Rattle.psy_tree.specs.Tokens.{TokensOf}
use Rattle.psy_breach.specs.Breaches.{breach_hint}
use Rattle.psy_expect.specs.Advice.{IsAdvice}
use Rattle.psy_slip.specs.declared.slip.File.{File}
use Rattle.psy_slip.specs.declared.slip.File.TheVariants as files
use Rattle.psy_slip.specs.Looks.{file_hint}
use Rattle.psy_slip.specs.Slips.{slip, slip_line}
use Rattle.psy_text.specs.Words.{words_of}
use Rattle.psy_where.specs.declared.byte.ByteSlip.TheVariants.{Nested}
use Rattle.psy_where.specs.declared.indent.Pair.{Pair}
use Rattle.psy_where.specs.declared.recall.What.TheVariants.{Lex, Parse, Rule, Inputs, Script}
use Rattle.psy_where.specs.declared.recall.Refusal.{Refusal}
use Rattle.psy_where.specs.Places.{told_column}
use Rattle.psy_spot.specs.Spots.{line_at}
use Rattle.psy_where.specs.Bytes.{byte_words, closes_first, slip_of}
use Rattle.psy_where.specs.Indents.{first_pair}

-- The text has tokens, and this is told of the rule of that number, which is broken at the token of that number.
abbrev pub IsBreachOf : List ℕ → ℕ → ℕ → List ℕ → Type 0
IsBreachOf text rule at help = (tokens : List Token) × TokensOf text tokens × (at ≤ length tokens) × (help ≡ breach_hint text tokens rule at)

-- The refusal is of a token with which no program goes on.
abbrev pub IsOfSyntax : Refusal → Type 0
IsOfSyntax refusal = (refusal.what ≡ Parse) × (refusal.number ≡ 1)

-- The refusal is of a text that is nested too deep.
abbrev pub IsOfDepth : Refusal → Type 0
IsOfDepth refusal = (refusal.what ≡ Parse) × (refusal.number ≡ 1 → ⊥)

-- `hint: ..`
abbrev pub hint_line : List ℕ → List ℕ
hint_line words = codes "hint: " ++ words ++ codes "\n"

-- What is told of a text that is nested too deep
abbrev pub depth_help : List ℕ
depth_help = hint_line (codes "split it: compute a part of the expression in a statement before, or put a part of the statements into a function")

-- What is told of bytes that can't be cut into tokens, by the number of the fault, the bytes before the place, and those from it on
abbrev pub lex_words : ℕ → List ℕ → List ℕ → List ℕ
lex_words number front back =
    if number == 1 then byte_words (slip_of front back)
    else if number == 2 then codes "choose a shorter name"
    else if number == 3 then codes "a number of the text is at most 2147483647; a greater value is computed, in 64 bits as in `int64(1) << 40`"
    else codes "a comment that begins with `/*` ends with `*/`"

-- What is told of a line in a file of inputs or in a script, behind the bytes of earlier lines: the word at fault, and what the file looks like
abbrev pub line_help : File → ℕ → List ℕ → List ℕ → List ℕ → List ℕ
line_help file number text earlier line = slip_line (slip file number earlier (words_of line)) ++ file_hint file text

-- That a comment was closed before these bytes, where it was
abbrev pub nested_help : List ℕ → List ℕ
nested_help back = if closes_first back then hint_line (byte_words Nested) else []

-- `hint: ..` with line and column of the brace at that place
unfoldable pub brace_line : List ℕ → ℕ → List ℕ
brace_line text place =
    codes "hint: the innermost `{` that is open here is that of line " ++ decimal (line_at text place)
    ++ codes ", column " ++ decimal (told_column text place) ++ codes "\n"

-- `hint: ..` with the lines of a `}` and of the `{` that it closes
unfoldable pub pair_line : List ℕ → Pair → List ℕ
pair_line text pair =
    codes "hint: the `}` of line " ++ decimal (line_at text pair.closing) ++ codes " closes the `{` of line " ++ decimal (line_at text pair.opening)
    ++ codes ", which begins at another column: is one missing before it?\n"

-- That line, where there is such a `}`
abbrev pub pair_help : List ℕ → Option Pair → List ℕ
pair_help text None = []
pair_help text (Some pair) = pair_line text pair

-- Which brace is open, where one is told, and the first `}` whose line begins at another column than that of its `{`
abbrev pub brace_help : List ℕ → Option ℕ → Option Pair → List ℕ
brace_help text None pair = []
brace_help text (Some place) pair = brace_line text place ++ pair_help text pair

-- The text has tokens, and this is the advice for the place of that number among them, and what is told of braces.
abbrev pub IsAdviceFor : List ℕ → ℕ → List ℕ → Type 0
IsAdviceFor text at help =
    (tokens : List Token) × (advice : List ℕ) × (brace : Option ℕ) × TokensOf text tokens × (at ≤ length tokens) × IsAdvice tokens at advice brace
    × (help ≡ advice ++ brace_help text brace (first_pair text [] (take at tokens)))

-- What is told of a token with which no program goes on: advice, that a comment was closed before it, and what the file looks like
abbrev pub IsSyntaxHelp : List ℕ → List ℕ → ℕ → List ℕ → Type 0
IsSyntaxHelp text back at help =
    (advice : List ℕ) × IsAdviceFor text at advice × (help ≡ advice ++ nested_help back ++ file_hint files.Program text)

-- What stands below the mark, given the bytes before the place, those from it on, and those of them that are of its line: what is told of a token with which
-- no program goes on, of bytes that can't be cut into tokens, of a rule that is broken, of a text that is nested too deep, or of a line of inputs or of a
-- script; and what the file looks like.
pub record IsHelp (text earlier back line : List ℕ) (refusal : Refusal) (help : List ℕ) : Type 0 where
  pub advice : IsOfSyntax refusal → IsSyntaxHelp text back refusal.at help
  pub depth : IsOfDepth refusal → help ≡ depth_help
  pub tokens : refusal.what ≡ Lex → help ≡ hint_line (lex_words refusal.number earlier back) ++ file_hint files.Program text
  pub rule : refusal.what ≡ Rule → IsBreachOf text refusal.number refusal.at help
  pub inputs : refusal.what ≡ Inputs → help ≡ line_help files.Inputs refusal.number text earlier line
  pub script : refusal.what ≡ Script → help ≡ line_help files.Script refusal.number text earlier line
