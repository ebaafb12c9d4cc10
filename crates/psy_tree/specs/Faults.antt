-- The first fault of a text that isn't blanks, comments and tokens in a row.
use Rattle.std.specs.Prelude.{◌≡◌, ◌≢◌, ℕ, ◌+◌, ◌<◌, ◌≤◌, IsTrue, IsFalse, List, ◌∷◌, ◌++◌, length, codes, ◌⊎◌}
use Rattle.std.specs.Char.{is_ascii_digit}
use Rattle.psy_base.specs.declared.limits.TheConstants.{WORD_BYTES, LITERAL}
use Rattle.psy_tree.specs.declared.faults.LexKind.{LexKind}
use Rattle.psy_tree.specs.declared.faults.LexKind.TheVariants as lexical
use Rattle.psy_tree.specs.declared.token.Sign.{Sign}
use Rattle.psy_tree.specs.Lexemes.{is_blank, is_in_word, begins_word, sign_spelling, IsWord, IsNumber, decimal_value, EndsBefore, HasClose}
use Rattle.psy_tree.specs.Tokens.{Piece, text_of, Splits}

-- The number by which a refusal names the kind
abbrev pub lex_number : LexKind → ℕ
lex_number lexical.BadByte = 1
lex_number lexical.LongName = 2
lex_number lexical.BigLiteral = 3
lex_number lexical.OpenComment = 4

-- No token, blank or comment begins with this byte (comments begin as the sign `/` does)
abbrev pub BeginsNothing : ℕ → Type 0
BeginsNothing b = IsFalse (is_blank b) × IsFalse (is_in_word b) × ((sign : Sign) (more : List ℕ) → sign_spelling sign ≢ b ∷ more)

-- The byte may not follow these digits directly: a letter or `_` follows no number, a digit follows no `0`.
abbrev pub MayNotFollow : List ℕ → ℕ → Type 0
MayNotFollow digits b = IsTrue (begins_word b) ⊎ (IsTrue (is_ascii_digit b) × (digits ≡ codes "0"))

-- The bytes begin with a piece that is at fault, and the fault is so many bytes behind their beginning.
abbrev pub IsAtFault : LexKind → List ℕ → ℕ → Type 0
IsAtFault lexical.BadByte bytes behind =
    ((b : ℕ) × (rest : List ℕ) × (bytes ≡ b ∷ rest) × BeginsNothing b × (behind ≡ 0))
    ⊎ ((digits : List ℕ) × (b : ℕ) × (rest : List ℕ) × (bytes ≡ digits ++ b ∷ rest) × IsNumber digits × (decimal_value digits ≤ LITERAL)
    × MayNotFollow digits b × (behind ≡ length digits))
IsAtFault lexical.LongName bytes behind = (word : List ℕ) × (rest : List ℕ) × (bytes ≡ word ++ rest) × IsWord word × EndsBefore is_in_word rest
    × (WORD_BYTES < length word) × (behind ≡ 0)
IsAtFault lexical.BigLiteral bytes behind = (digits : List ℕ) × (rest : List ℕ) × (bytes ≡ digits ++ rest) × IsNumber digits
    × EndsBefore is_ascii_digit rest × (LITERAL < decimal_value digits) × (behind ≡ 0)
IsAtFault lexical.OpenComment bytes behind = (inside : List ℕ) × (bytes ≡ codes "/*" ++ inside) × (HasClose inside → ⊥) × (behind ≡ 0)

-- The first fault of the text, and the bytes before it: what stands before the piece at fault is lawful.
abbrev pub FirstFault : List ℕ → LexKind → ℕ → Type 0
FirstFault text kind place = (pieces : List Piece) × (rest : List ℕ) × (behind : ℕ) × Splits text pieces rest × IsAtFault kind rest behind
    × (place ≡ length (text_of pieces) + behind)
