-- What is told of a byte with which no token goes on.
use Rattle.std.specs.Prelude.{ℕ, ◌-◌, ◌==◌, Bool, true, false, ◌&&◌, ◌||◌, nat_le, nat_lt, if◌then◌else◌, List, [], ◌∷◌, codes, bytes_eq, drop, length, take}
use Rattle.std.specs.Char.{is_ascii_digit}
use Rattle.std.specs.List.{suffix_len}
use Rattle.psy_tree.specs.Lexemes.{is_in_word}
use Rattle.psy_where.specs.declared.byte.ByteSlip.{ByteSlip}
use Rattle.psy_where.specs.declared.byte.ByteSlip.TheVariants.{Nested, Fraction, Base, Zero, UnitBehind, Part, Point, Directive, Include, Choice, Colon}
use Rattle.psy_where.specs.declared.byte.ByteSlip.TheVariants.{Quote, NoSign, Unseen, Dash, Beyond, Define, Becomes, Label}

-- A comment is closed in these bytes before one is opened.
abbrev pub closes_first : List ℕ → Bool
closes_first [] = false
closes_first (b ∷ more) =
    if bytes_eq (take 2 (b ∷ more)) (codes "*/") then true
    else if bytes_eq (take 2 (b ∷ more)) (codes "/*") then false
    else closes_first more

-- The first byte, or 0 where there is none
abbrev pub first_byte : List ℕ → ℕ
first_byte [] = 0
first_byte (b ∷ more) = b

-- The letters, digits and `_` at the end
abbrev pub word_back : List ℕ → List ℕ
word_back front = drop (length front - suffix_len is_in_word front) front

-- The bytes end with a number, as far as letters, digits and `_` go.
abbrev pub is_in_number : List ℕ → Bool
is_in_number front = is_ascii_digit (first_byte (word_back front))

-- The bytes before these
abbrev pub word_front : List ℕ → List ℕ
word_front front = take (length front - suffix_len is_in_word front) front

-- The bytes end with `default`, or with `case` and a word or a number.
abbrev pub is_label : List ℕ → Bool
is_label front =
    bytes_eq (word_back front) (codes "default") || bytes_eq (drop (length (word_front front) - 5) (word_front front)) (codes "case ")

-- What a `:` is, by the bytes before it, and itself with those behind it
abbrev pub colon_slip : List ℕ → List ℕ → ByteSlip
colon_slip front back =
    if bytes_eq (take 2 back) (codes ":=") then Becomes
    else if is_label front then Label
    else Colon

-- What a byte of ASCII is that is no `:`: 46 is `.`, 35 `#`, 63 `?`, 34 and 39 quotes, and from 33 to 126 they are seen
abbrev pub plain_slip : ℕ → ByteSlip
plain_slip byte =
    if byte == 46 then Point
    else if byte == 35 then Directive
    else if byte == 63 then Choice
    else if byte == 34 || byte == 39 then Quote
    else if nat_lt 32 byte && nat_lt byte 127 then NoSign
    else Unseen

-- What a byte directly behind a number is: 120 is `x`, and 88 `X`
abbrev pub number_slip : List ℕ → ℕ → ByteSlip
number_slip front byte =
    if byte == 46 then Fraction
    else if is_ascii_digit byte then Zero
    else if (byte == 120 || byte == 88) && bytes_eq (word_back front) (codes "0") then Base
    else if is_in_word byte then UnitBehind
    else plain_slip byte

-- The second byte, or 0 where there is none
abbrev pub second_byte : List ℕ → ℕ
second_byte (a ∷ b ∷ more) = b
second_byte _ = 0

-- A point stands directly between a name and a letter, a digit or `_`.
abbrev pub is_in_name : List ℕ → List ℕ → Bool
is_in_name front back = first_byte back == 46 && (is_in_word (first_byte (word_back front)) && is_in_word (second_byte back))

-- The bytes begin with these two, which spell a character in UTF-8.
abbrev pub begins_2 : ℕ → ℕ → List ℕ → Bool
begins_2 a b back = bytes_eq (take 2 back) (a ∷ b ∷ [])

-- The same of three
abbrev pub begins_3 : ℕ → ℕ → ℕ → List ℕ → Bool
begins_3 a b c back = bytes_eq (take 3 back) (a ∷ b ∷ c ∷ [])

-- A character that isn't seen: U+00A0, U+00AD, U+2000, U+2003, U+2009, U+200B, U+202F, U+3000 or U+FEFF
abbrev pub is_unseen : List ℕ → Bool
is_unseen back =
    begins_2 0xC2 0xA0 back || (begins_2 0xC2 0xAD back || (begins_3 0xE2 0x80 0x80 back || (begins_3 0xE2 0x80 0x83 back
    || (begins_3 0xE2 0x80 0x89 back || (begins_3 0xE2 0x80 0x8B back || (begins_3 0xE2 0x80 0xAF back
    || (begins_3 0xE3 0x80 0x80 back || begins_3 0xEF 0xBB 0xBF back)))))))

-- A dash, or the sign of mathematics for a minus: U+2013, U+2014 or U+2212
abbrev pub is_dash : List ℕ → Bool
is_dash back = begins_3 0xE2 0x80 0x93 back || (begins_3 0xE2 0x80 0x94 back || begins_3 0xE2 0x88 0x92 back)

-- What a character beyond ASCII is
abbrev pub high_slip : List ℕ → ByteSlip
high_slip back = if is_unseen back then Unseen else if is_dash back then Dash else Beyond

-- The bytes begin with `#define`.
abbrev pub begins_define : List ℕ → Bool
begins_define back = bytes_eq (take 7 back) (codes "#define")

-- The bytes begin with `#include`.
abbrev pub begins_include : List ℕ → Bool
begins_include back = bytes_eq (take 8 back) (codes "#include")

-- What stands at a byte with which no token goes on, by the bytes before it, and itself with those behind it; 58 is `:`
abbrev pub slip_of : List ℕ → List ℕ → ByteSlip
slip_of front back =
    if closes_first back then Nested
    else if nat_le 128 (first_byte back) then high_slip back
    else if first_byte back == 58 then colon_slip front back
    else if begins_define back then Define
    else if begins_include back then Include
    else if is_in_number front then number_slip front (first_byte back)
    else if is_in_name front back then Part
    else plain_slip (first_byte back)

-- What is told of it
abbrev pub byte_words : ByteSlip → List ℕ
byte_words Nested = codes "comments don't nest: the first `*/` closed the comment, and what stands behind it is read"
byte_words Fraction = codes "there are no fractions: a number is whole, so count in smaller units"
byte_words Base = codes "numbers are decimal: there are no hexadecimal ones"
byte_words Zero = codes "a number of several digits begins with 1 to 9: leave the zeros before it out"
byte_words UnitBehind =
    codes "a number is of digits alone, without a unit or `_`: time is counted in ticks; between a number and a word stands a blank"
byte_words Part =
    codes "names have no parts: a function may give a part of a value, as in `sender(frame)`; all agents know a temporal variable by its name alone"
byte_words Point = codes "there are no fractions, and names have no parts: leave the point out"
byte_words Directive = codes "a comment is written `/* .. */` or `// ..`, and there are no directives"
byte_words Include = codes "there are no directives, and a program is one file: leave this out, and declare here what it needs"
byte_words Define =
    codes "there are no directives and no named constants: write the number, or a function that returns it, as in `int limit() { return 5; }`"
byte_words Choice = codes "there is no `? :`: write `if (..) { .. } else { .. }`"
byte_words Colon = codes "there is no `:`: a statement ends with `;`, and a type stands before its name"
byte_words Becomes = codes "there is no `:=`: an assignment is written `=`"
byte_words Label = codes "there is no `switch` and no `case`: write `if (..) { .. } else { .. }`"
byte_words Quote = codes "there are no texts and no characters: each value is a number"
byte_words NoSign = codes "this is no sign of the language, and a name has letters, digits and `_` alone"
byte_words Unseen = codes "a character that isn't seen stands here: write a blank in its place, or nothing"
byte_words Dash = codes "this is a dash: the minus sign is `-`"
byte_words Beyond = codes "outside of comments a program has ASCII characters alone"
