-- What is written of a token with which no program goes on: what may stand there, and a hint.
use Rattle.std.specs.Prelude.{◌≡◌, ℕ, ◌+◌, ◌<◌, ◌≤◌, ◌==◌, Bool, true, false, if◌then◌else◌, MatchBool, List, [], ◌++◌, length, map, take, codes, decimal}
use Rattle.std.specs.Prelude.{option_to_list, Option, None, Some}
use denote.Enum.Bare.{sameb}
use Rattle.psy_base.specs.declared.limits.TheConstants.{ADVANCE, FILE_BYTES, TURNS}
use Rattle.psy_tree.specs.declared.token.Token.{Token}
use Rattle.psy_tree.specs.declared.token.Word.{Word}
use Rattle.psy_tree.specs.declared.token.Word.TheVariants as words
use Rattle.psy_tree.specs.Lexemes.{word_spelling}
use Rattle.psy_expect.specs.contracts.hint.Hint as hint_kind
use Rattle.psy_expect.specs.declared.around.Around.{Around}
use Rattle.psy_expect.specs.declared.hint.Hint.{Hint}
use Rattle.psy_expect.specs.declared.hint.Hint.TheVariants.{AdvanceAlone, Close, FunctionInside, MaxAlone, Missing}
use Rattle.psy_expect.specs.declared.phrase.Phrase.{Phrase}
use Rattle.psy_expect.specs.declared.terminal.Terminal.{Terminal}
use Rattle.psy_expect.specs.declared.terminal.TheConstants.{EVERY}
use Rattle.psy_expect.specs.Terminals.{GoesOn, MayFollow, Picks}
use Rattle.psy_expect.specs.Mending.{Mends}
use Rattle.psy_expect.specs.Phrases.{phrases, phrase_words, listed}
use Rattle.psy_expect.specs.Arounds.{around}
use Rattle.psy_expect.specs.Braces.{open_brace}
use Rattle.psy_expect.specs.Hints.{hint_of, hint_words}

-- What is found of a place, by the tokens before it and what stands around it: the terminals that may stand there, those of them that mend it, and whether the
-- program goes on without the token there
pub record IsFound (front : List Token) (a : Around) (told mends : List Terminal) (extra : Bool) : Type 0 where
  pub may : Picks (MayFollow front) EVERY told
  pub mend : Picks (Mends front a) told mends
  pub without : MatchBool extra (GoesOn front (option_to_list a.behind)) (GoesOn front (option_to_list a.behind) → ⊥)

-- Nothing is told of a place.
abbrev pub IsNothing : List Terminal → List Terminal → Bool → Type 0
IsNothing told mends extra = (told ≡ []) × (mends ≡ []) × (extra ≡ false)

-- That is found of a place behind so many tokens that a text may have three more; of others nothing is told.
abbrev pub IsTried : List Token → Around → List Terminal → List Terminal → Bool → Type 0
IsTried front a told mends extra =
    (length front + 3 ≤ FILE_BYTES → IsFound front a told mends extra) × (FILE_BYTES < length front + 3 → IsNothing told mends extra)

-- `here may stand: A, B or C`
unfoldable pub may_words : List Phrase → List ℕ
may_words told = codes "here may stand: " ++ listed (map phrase_words told) ++ codes "\n"

-- That line, where anything may
abbrev pub may_line : List Phrase → List ℕ
may_line told = if length told == 0 then [] else may_words told

-- `hint: A, B or C is missing before this`
abbrev pub missing_words : List Phrase → List ℕ
missing_words missing = codes "hint: " ++ listed (map phrase_words missing) ++ codes " is missing before this\n"

-- `hint: ..`
abbrev pub words_line : List ℕ → List ℕ
words_line words = codes "hint: " ++ words ++ codes "\n"

-- `behind `WORD` stands a number alone, from 1 to GREATEST`
unfoldable pub alone_words : Word → ℕ → List ℕ
alone_words word greatest = codes "behind `" ++ word_spelling word ++ codes "` stands a number alone, from 1 to " ++ decimal greatest

-- The line that says so, and what else is told
abbrev pub alone_line : Word → ℕ → List ℕ → List ℕ
alone_line word greatest more = codes "hint: " ++ alone_words word greatest ++ codes ": no sign, no name and no expression" ++ more ++ codes "\n"

-- What is missing, that a number stands alone and its range, or the words of another hint
abbrev pub told_hint : Hint → List Phrase → List ℕ
told_hint hint missing =
    if sameb hint_kind.the_type hint Missing then missing_words missing
    else if sameb hint_kind.the_type hint MaxAlone then alone_line words.Max TURNS (codes "; a loop may end sooner by its condition")
    else if sameb hint_kind.the_type hint AdvanceAlone then alone_line words.Advance ADVANCE []
    else words_line (hint_words hint)

-- `hint: ..`, where there is one
abbrev pub hint_line : Option Hint → List Phrase → List ℕ
hint_line None missing = []
hint_line (Some hint) missing = told_hint hint missing

-- What is told of a place, by the hint, what may stand there, and what mends it
abbrev pub advice_told : Option Hint → List Terminal → List Terminal → List ℕ
advice_told hint told mends = may_line (phrases told) ++ hint_line hint (phrases mends)

-- The hint is that a `}` is missing, here or further up.
abbrev pub is_of_brace : Hint → Bool
is_of_brace FunctionInside = true
is_of_brace Close = true
is_of_brace _ = false

-- The open brace, where the hint tells of one
abbrev pub brace_told : Option Hint → Option ℕ → Option ℕ
brace_told None brace = None
brace_told (Some hint) brace = if is_of_brace hint then brace else None

-- The text is the advice for the place of that number among tokens, and with it the place of the innermost `{` that is open there is told, or none.
abbrev pub IsAdvice : List Token → ℕ → List ℕ → Option ℕ → Type 0
IsAdvice tokens at text brace =
    (told : List Terminal) × (mends : List Terminal) × (extra : Bool) × IsTried (take at tokens) (around tokens at) told mends extra
    × (text ≡ advice_told (hint_of (around tokens at) told mends extra) told mends)
    × (brace ≡ brace_told (hint_of (around tokens at) told mends extra) (open_brace (take at tokens)))
