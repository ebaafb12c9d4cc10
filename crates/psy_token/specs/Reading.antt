-- What stands at the front of a text, computed: the pieces and the faults of psy_tree's definitions, one for each front.
use Rattle.std.specs.Prelude.{◌≡◌, ℕ, ◌+◌, ◌-◌, ◌<◌, ◌≤◌, ◌==◌, nat_eq, nat_le, Bool, false, ◌&&◌, if◌then◌else◌, List, [], ◌∷◌, ◌++◌, length, take}
use Rattle.std.specs.Prelude.{drop, slice_index, codes, bytes_eq, find, Option, Some, None, option_map, Result, Ok, Err}
use Rattle.std.specs.List.{prefix_len, starts_with}
use Rattle.std.specs.Char.{is_ascii_digit}
use Rattle.psy_base.specs.declared.limits.TheConstants.{WORD_BYTES, LITERAL}
use Rattle.psy_tree.specs.declared.token.Kind.{Kind}
use Rattle.psy_tree.specs.declared.token.Kind.TheVariants as kinds
use Rattle.psy_tree.specs.declared.token.Token.{Token}
use Rattle.psy_tree.specs.declared.token.Word.{Word}
use Rattle.psy_tree.specs.declared.token.Sign.{Sign}
use Rattle.psy_tree.specs.Lexemes.{is_blank, begins_word, is_in_word, is_in_line, decimal_value, word_spelling, sign_spelling}
use Rattle.psy_tree.specs.Tokens.{Piece, Separator, Lexeme}
use Rattle.psy_tree.specs.declared.faults.LexKind.{LexKind}
use Rattle.psy_tree.specs.declared.faults.LexKind.TheVariants.{BadByte, LongName, BigLiteral, OpenComment}
use Rattle.psy_token.specs.declared.spelling.TheConstants.{WORDS, SIGNS}
use Rattle.psy_token.specs.declared.fault.LexFault.{LexFault}
use Rattle.psy_token.specs.declared.fault.LexFault.TheVariants as answers
use Rattle.psy_token.specs.declared.pass.Span.{Span}

-- Nothing more, a piece, or a fault so many bytes behind the beginning
pub data Front : Type 0 where
  End : Front
  Whole : Piece → Front
  Faulty : LexKind → ℕ → Front

-- The reserved word that these bytes spell, if they spell one
abbrev pub reserved : List ℕ → Option Word
reserved word = find (λ w. bytes_eq (word_spelling w) word) WORDS

-- The sign at the front: the first of SIGNS whose spelling stands there
abbrev pub sign_at : List ℕ → Option Sign
sign_at rest = find (λ s. starts_with nat_eq rest (sign_spelling s)) SIGNS

-- This reserved word, or where there is none the name with these bytes
abbrev pub kind_by : Option Word → List ℕ → Kind
kind_by (Some word) name = kinds.Word word
kind_by None name = kinds.Name name

-- The token of a word, by its bytes
abbrev pub word_kind : List ℕ → Kind
word_kind word = kind_by (reserved word) word

-- The word at the front, or that it is too long
unfoldable pub word_front : List ℕ → Front
word_front rest =
    if nat_le (prefix_len is_in_word rest) WORD_BYTES
    then Whole (Lexeme (word_kind (take (prefix_len is_in_word rest) rest)) (take (prefix_len is_in_word rest) rest))
    else Faulty LongName 0

-- How many bytes the number at the front has
abbrev pub number_len : List ℕ → ℕ
number_len rest = if slice_index rest 0 == 48 then 1 else prefix_len is_ascii_digit rest

-- A letter, a digit or `_` is next
abbrev pub goes_on : List ℕ → Bool
goes_on [] = false
goes_on (b ∷ rest) = is_in_word b

-- The number at the front, which has so many bytes, or its fault: it is too big, or goes on with what is no part of it
abbrev pub number_of_len : ℕ → List ℕ → Front
number_of_len len rest =
    if nat_le (decimal_value (take len rest)) LITERAL
    then (if goes_on (drop len rest) then Faulty BadByte len else Whole (Lexeme (kinds.Number (decimal_value (take len rest))) (take len rest)))
    else Faulty BigLiteral 0

-- The number at the front, or its fault
unfoldable pub number_front : List ℕ → Front
number_front rest = number_of_len (number_len rest) rest

-- This byte is next
abbrev pub next_is : ℕ → List ℕ → Bool
next_is b [] = false
next_is b (c ∷ rest) = c == b

-- The bytes up to the first `*/`, with it
abbrev pub close_len : List ℕ → Option ℕ
close_len [] = None
close_len (b ∷ rest) = if b == 42 && next_is 47 rest then Some 2 else option_map (λ n. n + 1) (close_len rest)

-- The comment at the front, which ends so many bytes behind its `/*`, or that nothing closes it
abbrev pub block_by : Option ℕ → List ℕ → Front
block_by (Some len) rest = Whole (Separator (take (len + 2) rest))
block_by None rest = Faulty OpenComment 0

-- The comment at the front from `/*` to the next `*/`, or that nothing closes it
unfoldable pub block_front : List ℕ → Front
block_front rest = block_by (close_len (drop 2 rest)) rest

-- The comment at the front from `//` to the end of the line
unfoldable pub line_front : List ℕ → Front
line_front rest = Whole (Separator (take (prefix_len is_in_line (drop 2 rest) + 2) rest))

-- This sign, which stands at the front, or that the first byte is a bad one
abbrev pub sign_by : Option Sign → List ℕ → Front
sign_by (Some sign) rest = Whole (Lexeme (kinds.Sign sign) (take (length (sign_spelling sign)) rest))
sign_by None rest = Faulty BadByte 0

-- The sign at the front, or that the first byte is a bad one
unfoldable pub sign_front : List ℕ → Front
sign_front rest = sign_by (sign_at rest) rest

-- The comment or sign at the front, or its fault
abbrev pub mark_front : List ℕ → Front
mark_front rest =
    if starts_with nat_eq rest (codes "//") then line_front rest
    else (if starts_with nat_eq rest (codes "/*") then block_front rest
    else sign_front rest)

-- What stands at the front of these bytes
unfoldable pub front_of : List ℕ → Front
front_of [] = End
front_of (b ∷ rest) =
    if is_blank b then Whole (Separator (b ∷ []))
    else (if begins_word b then word_front (b ∷ rest)
    else (if is_ascii_digit b then number_front (b ∷ rest)
    else mark_front (b ∷ rest)))

-- The piece that the span cuts off
abbrev pub piece_by : Option Kind → List ℕ → Piece
piece_by (Some kind) bytes = Lexeme kind bytes
piece_by None bytes = Separator bytes

-- The fault, with `at` bytes before the front, is that of the front, but for want of memory
abbrev pub FaultGives : ℕ → LexFault → Front → Type 0
FaultGives at (answers.Lexical kind place) front = (at ≤ place) × (front ≡ Faulty kind (place - at))
FaultGives at answers.Memory front = Unit {0}

-- The span cuts off the whole piece at the front
abbrev pub Cuts : List ℕ → Span → Front → Type 0
Cuts rest span front = (front ≡ Whole (piece_by span.kind (take span.len rest))) × (0 < span.len) × (span.len ≤ length rest)

-- What was answered for the rest of a text, with `at` bytes before it, is its front
abbrev pub Gives : ℕ → List ℕ → Result Span LexFault → Front → Type 0
Gives at rest (Ok span) front = Cuts rest span front
Gives at rest (Err fault) front = FaultGives at fault front

-- The tokens and the one at that place, if it is one
abbrev pub with_token : List Token → ℕ → Option Kind → List Token
with_token tokens place (Some kind) = tokens ++ (record { place = place; kind = kind } ∷ [])
with_token tokens place None = tokens
