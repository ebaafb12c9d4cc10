-- Names that are words of other languages, or reserved words in other case.
use Rattle.std.specs.Prelude.{ℕ, Bool, false, ◌||◌, List, [], ◌∷◌, codes, Option, find}
use Rattle.std.specs.Str.{bytes_eq, str_eq_ignore_ascii_case}
use Rattle.psy_tree.specs.Lexemes.{word_spelling}
use Rattle.psy_expect.specs.declared.foreign.Foreign.{Foreign}
use Rattle.psy_expect.specs.declared.foreign.Foreign.TheVariants.{For, Loop, Jump, Switch, TypeWord, Constant, Enumeration, Modifier}
use Rattle.psy_expect.specs.declared.foreign.Foreign.TheVariants.{Void, Function, ElseIf, Then, Times, Logical, Wait, Print, Structure, External, Size}
use Rattle.psy_expect.specs.declared.terminal.Terminal.{Terminal}
use Rattle.psy_expect.specs.declared.terminal.Terminal.TheVariants.{Word}
use Rattle.psy_expect.specs.declared.terminal.TheConstants.{EVERY}

-- Words for types by their kinds
abbrev pub is_kind_type : List ℕ → Bool
is_kind_type name =
    bytes_eq name (codes "float") || (bytes_eq name (codes "double") || (bytes_eq name (codes "bool") || (bytes_eq name (codes "boolean")
    || (bytes_eq name (codes "char") || (bytes_eq name (codes "long") || (bytes_eq name (codes "short") || (bytes_eq name (codes "unsigned")
    || (bytes_eq name (codes "signed") || (bytes_eq name (codes "integer") || (bytes_eq name (codes "string")
    || (bytes_eq name (codes "uint") || bytes_eq name (codes "size_t"))))))))))))

-- Words for types of 8 to 64 bits with a sign
abbrev pub is_signed_type : List ℕ → Bool
is_signed_type name =
    bytes_eq name (codes "int8_t") || (bytes_eq name (codes "int16_t") || (bytes_eq name (codes "int32_t") || (bytes_eq name (codes "int64_t")
    || (bytes_eq name (codes "i8") || (bytes_eq name (codes "i16") || (bytes_eq name (codes "i32") || bytes_eq name (codes "i64")))))))

-- The same without a sign
abbrev pub is_unsigned_type : List ℕ → Bool
is_unsigned_type name =
    bytes_eq name (codes "uint8_t") || (bytes_eq name (codes "uint16_t") || (bytes_eq name (codes "uint32_t") || (bytes_eq name (codes "uint64_t")
    || (bytes_eq name (codes "uint8") || (bytes_eq name (codes "uint16") || (bytes_eq name (codes "uint32") || (bytes_eq name (codes "uint64")
    || (bytes_eq name (codes "u8") || (bytes_eq name (codes "u16") || (bytes_eq name (codes "u32") || bytes_eq name (codes "u64")))))))))))

-- Words for types
abbrev pub is_type : List ℕ → Bool
is_type name = is_kind_type name || (is_signed_type name || is_unsigned_type name)

-- Words that print
abbrev pub is_print : List ℕ → Bool
is_print name =
    bytes_eq name (codes "print") || (bytes_eq name (codes "printf") || (bytes_eq name (codes "println")
    || (bytes_eq name (codes "puts") || (bytes_eq name (codes "echo") || bytes_eq name (codes "write")))))

-- Words for operators, in small letters or in capitals
abbrev pub is_operator : List ℕ → Bool
is_operator name =
    str_eq_ignore_ascii_case name (codes "and") || (str_eq_ignore_ascii_case name (codes "or") || (str_eq_ignore_ascii_case name (codes "not")
    || (str_eq_ignore_ascii_case name (codes "mod") || str_eq_ignore_ascii_case name (codes "xor"))))

-- A name is one of the words of which this is told.
abbrev pub is_spelled : Foreign → List ℕ → Bool
is_spelled For name = bytes_eq name (codes "for") || bytes_eq name (codes "foreach")
is_spelled Loop name =
    bytes_eq name (codes "do") || (bytes_eq name (codes "loop") || (bytes_eq name (codes "forever")
    || (bytes_eq name (codes "repeat") || bytes_eq name (codes "until"))))
is_spelled Jump name =
    bytes_eq name (codes "break") || (bytes_eq name (codes "continue") || (bytes_eq name (codes "exit") || bytes_eq name (codes "goto")))
is_spelled Switch name = bytes_eq name (codes "switch") || (bytes_eq name (codes "case") || bytes_eq name (codes "default"))
is_spelled TypeWord name = is_type name
is_spelled Constant name = bytes_eq name (codes "const") || bytes_eq name (codes "constexpr")
is_spelled Enumeration name = bytes_eq name (codes "enum")
is_spelled Modifier name =
    bytes_eq name (codes "static") || (bytes_eq name (codes "volatile") || (bytes_eq name (codes "let") || bytes_eq name (codes "var")))
is_spelled Void name = bytes_eq name (codes "void")
is_spelled Function name =
    bytes_eq name (codes "function") || (bytes_eq name (codes "def") || (bytes_eq name (codes "fn") || bytes_eq name (codes "func")))
is_spelled ElseIf name = bytes_eq name (codes "elif") || (bytes_eq name (codes "elsif") || bytes_eq name (codes "elseif"))
is_spelled Then name = bytes_eq name (codes "then")
is_spelled Times name = bytes_eq name (codes "times")
is_spelled Logical name = is_operator name
is_spelled Wait name =
    bytes_eq name (codes "wait") || (bytes_eq name (codes "delay") || (bytes_eq name (codes "sleep") || bytes_eq name (codes "pause")))
is_spelled Print name = is_print name
is_spelled Structure name =
    bytes_eq name (codes "struct") || (bytes_eq name (codes "union") || (bytes_eq name (codes "class") || bytes_eq name (codes "typedef")))
is_spelled External name =
    bytes_eq name (codes "extern") || (bytes_eq name (codes "import") || (bytes_eq name (codes "include") || bytes_eq name (codes "using")))
is_spelled Size name = bytes_eq name (codes "sizeof")

-- All of them
abbrev pub FOREIGN : List Foreign
FOREIGN =
    For ∷ Loop ∷ Jump ∷ Switch ∷ TypeWord ∷ Constant ∷ Enumeration ∷ Modifier ∷ Void ∷ Function ∷ ElseIf ∷ Then ∷ Times ∷ Logical ∷ Wait ∷ Print
    ∷ Structure ∷ External ∷ Size ∷ []

-- What word of another language a name is
abbrev pub foreign_of : List ℕ → Option Foreign
foreign_of name = find (λ foreign. is_spelled foreign name) FOREIGN

-- The terminal is a reserved word, and the name is that in other case.
abbrev pub is_in_small : Terminal → List ℕ → Bool
is_in_small (Word word) name = str_eq_ignore_ascii_case (word_spelling word) name
is_in_small _ name = false

-- The reserved word that a name would be in small letters
abbrev pub small_of : List ℕ → Option Terminal
small_of name = find (λ terminal. is_in_small terminal name) EVERY
