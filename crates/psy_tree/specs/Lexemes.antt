-- How each token is spelled, and what may stand between two tokens.
use Rattle.std.specs.Prelude.{◌≡◌, ◌≢◌, ℕ, ◌+◌, ◌-◌, ◌*◌, ◌^◌, ◌≤◌, ◌==◌, Bool, ◌||◌, ◌⊎◌, not, IsTrue, IsFalse, List, [], ◌∷◌, ◌++◌, length, codes}
use Rattle.std.specs.Char.{is_ascii_alphabetic, is_ascii_digit}
use Rattle.std.specs.List.{AllByRecursion}
use Rattle.psy_base.specs.declared.limits.TheConstants.{WORD_BYTES, LITERAL}
use Rattle.psy_tree.specs.declared.token.Kind.{Kind}
use Rattle.psy_tree.specs.declared.token.Kind.TheVariants as kinds
use Rattle.psy_tree.specs.declared.token.Word.{Word}
use Rattle.psy_tree.specs.declared.token.Word.TheVariants.{Advance, After, Agent, Body, Budget, Clock, Depth, Else, If, Input, Int, Int8, Int16}
use Rattle.psy_tree.specs.declared.token.Word.TheVariants.{Int32, Int64, Keep, Max, Of, On, Past, Processor, Ready, Return, Send, Stream, Take}
use Rattle.psy_tree.specs.declared.token.Word.TheVariants.{Temporal, Tick, To, While}
use Rattle.psy_tree.specs.declared.token.Sign.{Sign}
use Rattle.psy_tree.specs.declared.token.Sign.TheVariants.{Semicolon, OpenBrace, CloseBrace, OpenRound, CloseRound, OpenSquare, CloseSquare, Comma}
use Rattle.psy_tree.specs.declared.token.Sign.TheVariants.{Assign, Plus, Minus, Star, Slash, Percent, ShiftLeft, ShiftRight, Less, LessEqual, Greater}
use Rattle.psy_tree.specs.declared.token.Sign.TheVariants.{GreaterEqual, Equal, NotEqual, Amp, Caret, Bar, AmpAmp, BarBar, Tilde, Bang}

-- Space, tab, line feed or carriage return
abbrev pub is_blank : ℕ → Bool
is_blank b = b == 32 || b == 9 || b == 10 || b == 13

-- A letter or `_`
abbrev pub begins_word : ℕ → Bool
begins_word b = is_ascii_alphabetic b || b == 95

-- A letter, a digit or `_`
abbrev pub is_in_word : ℕ → Bool
is_in_word b = begins_word b || is_ascii_digit b

-- Each of the bytes is of that sort
abbrev pub Each : (ℕ → Bool) → List ℕ → Type 0
Each sort bytes = AllByRecursion (λ b. IsTrue (sort b)) bytes

-- None follows, or a byte of another sort
abbrev pub EndsBefore : (ℕ → Bool) → List ℕ → Type 0
EndsBefore sort [] = Unit {0}
EndsBefore sort (b ∷ rest) = IsFalse (sort b)

-- A letter or `_`, and then letters, digits and `_`
abbrev pub IsWord : List ℕ → Type 0
IsWord [] = ⊥
IsWord (b ∷ bytes) = IsTrue (begins_word b) × Each is_in_word bytes

-- `0`, or a digit from 1 to 9 and then digits
abbrev pub IsNumber : List ℕ → Type 0
IsNumber [] = ⊥
IsNumber (b ∷ digits) = IsTrue (is_ascii_digit b) × Each is_ascii_digit digits × (b ≡ 48 → digits ≡ [])

-- What digits stand for in the decimal system
abbrev pub decimal_value : List ℕ → ℕ
decimal_value [] = 0
decimal_value (b ∷ digits) = (b - 48) * 10 ^ length digits + decimal_value digits

-- The spelling of each reserved word
abbrev pub word_spelling : Word → List ℕ
word_spelling Advance = codes "advance"
word_spelling After = codes "after"
word_spelling Agent = codes "agent"
word_spelling Body = codes "body"
word_spelling Budget = codes "budget"
word_spelling Clock = codes "clock"
word_spelling Depth = codes "depth"
word_spelling Else = codes "else"
word_spelling If = codes "if"
word_spelling Input = codes "input"
word_spelling Int = codes "int"
word_spelling Int8 = codes "int8"
word_spelling Int16 = codes "int16"
word_spelling Int32 = codes "int32"
word_spelling Int64 = codes "int64"
word_spelling Keep = codes "keep"
word_spelling Max = codes "max"
word_spelling Of = codes "of"
word_spelling On = codes "on"
word_spelling Past = codes "past"
word_spelling Processor = codes "processor"
word_spelling Ready = codes "ready"
word_spelling Return = codes "return"
word_spelling Send = codes "send"
word_spelling Stream = codes "stream"
word_spelling Take = codes "take"
word_spelling Temporal = codes "temporal"
word_spelling Tick = codes "tick"
word_spelling To = codes "to"
word_spelling While = codes "while"

-- The spelling of each sign
abbrev pub sign_spelling : Sign → List ℕ
sign_spelling Semicolon = codes ";"
sign_spelling OpenBrace = codes "{"
sign_spelling CloseBrace = codes "}"
sign_spelling OpenRound = codes "("
sign_spelling CloseRound = codes ")"
sign_spelling OpenSquare = codes "["
sign_spelling CloseSquare = codes "]"
sign_spelling Comma = codes ","
sign_spelling Assign = codes "="
sign_spelling Plus = codes "+"
sign_spelling Minus = codes "-"
sign_spelling Star = codes "*"
sign_spelling Slash = codes "/"
sign_spelling Percent = codes "%"
sign_spelling ShiftLeft = codes "<<"
sign_spelling ShiftRight = codes ">>"
sign_spelling Less = codes "<"
sign_spelling LessEqual = codes "<="
sign_spelling Greater = codes ">"
sign_spelling GreaterEqual = codes ">="
sign_spelling Equal = codes "=="
sign_spelling NotEqual = codes "!="
sign_spelling Amp = codes "&"
sign_spelling Caret = codes "^"
sign_spelling Bar = codes "|"
sign_spelling AmpAmp = codes "&&"
sign_spelling BarBar = codes "||"
sign_spelling Tilde = codes "~"
sign_spelling Bang = codes "!"

-- The bytes spell a token of that kind: a word is the reserved one, where there is one with that spelling, and else a name.
abbrev pub IsSpelling : Kind → List ℕ → Type 0
IsSpelling (kinds.Word word) bytes = bytes ≡ word_spelling word
IsSpelling (kinds.Name name) bytes = (bytes ≡ name) × IsWord name × (length name ≤ WORD_BYTES) × ((word : Word) → name ≢ word_spelling word)
IsSpelling (kinds.Number number) bytes = IsNumber bytes × (number ≡ decimal_value bytes) × (number ≤ LITERAL)
IsSpelling (kinds.Sign sign) bytes = bytes ≡ sign_spelling sign

-- No longer sign stands where this one does, before the rest
abbrev pub IsLongestSign : Sign → List ℕ → Type 0
IsLongestSign sign rest = (other : Sign) (more : List ℕ) → sign_spelling sign ++ rest ≡ sign_spelling other ++ more
    → length (sign_spelling other) ≤ length (sign_spelling sign)

-- A comment begins with these bytes
abbrev pub OpensComment : List ℕ → Type 0
OpensComment bytes = ((more : List ℕ) × (bytes ≡ codes "//" ++ more)) ⊎ ((more : List ℕ) × (bytes ≡ codes "/*" ++ more))

-- A token of that kind ends before the rest. A number is followed by no letter and no `_` either.
abbrev pub EndsToken : Kind → List ℕ → Type 0
EndsToken (kinds.Word word) rest = EndsBefore is_in_word rest
EndsToken (kinds.Name name) rest = EndsBefore is_in_word rest
EndsToken (kinds.Number number) rest = EndsBefore is_in_word rest
EndsToken (kinds.Sign sign) rest = IsLongestSign sign rest × (OpensComment (sign_spelling sign ++ rest) → ⊥)

-- `*/` stands among these bytes
abbrev pub HasClose : List ℕ → Type 0
HasClose bytes = (before : List ℕ) × (after : List ℕ) × (bytes ≡ before ++ codes "*/" ++ after)

-- Anything but a line feed
abbrev pub is_in_line : ℕ → Bool
is_in_line b = not (b == 10)

-- A blank
abbrev pub IsBlank : List ℕ → Type 0
IsBlank bytes = (b : ℕ) × IsTrue (is_blank b) × (bytes ≡ b ∷ [])

-- A comment from `/*` to the next `*/`
abbrev pub IsBlockComment : List ℕ → Type 0
IsBlockComment bytes = (inside : List ℕ) × (bytes ≡ codes "/*" ++ inside ++ codes "*/") × (HasClose (inside ++ codes "*") → ⊥)

-- A comment from `//` to the end of the line, before the rest
abbrev pub IsLineComment : List ℕ → List ℕ → Type 0
IsLineComment bytes rest = (inside : List ℕ) × (bytes ≡ codes "//" ++ inside) × Each is_in_line inside × EndsBefore is_in_line rest
