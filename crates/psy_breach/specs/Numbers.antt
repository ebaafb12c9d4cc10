-- What is told of numbers: of one out of its range, of one that reaches back too far, and of those of a clock.
use Rattle.std.specs.Prelude.{ℕ, ◌==◌, nat_le, if◌then◌else◌, List, [], ◌∷◌, decimal, find, slice_get, Option, None, Some, option_and_then, option_map}
use denote.Enum.Bare.{sameb}
use Rattle.psy_base.specs.declared.limits.TheConstants.{CELLS}
use Rattle.psy_clock.specs.declared.clock.TheConstants.{PERIOD}
use Rattle.psy_tree.specs.contracts.token.Word as word_kind
use Rattle.psy_tree.specs.declared.token.Kind.{Kind}
use Rattle.psy_tree.specs.declared.token.Kind.TheVariants as kinds
use Rattle.psy_tree.specs.declared.token.Sign.TheVariants.{OpenSquare, Minus, Plus}
use Rattle.psy_tree.specs.declared.token.Token.{Token}
use Rattle.psy_tree.specs.declared.token.Word.{Word}
use Rattle.psy_tree.specs.declared.token.Word.TheVariants.{Depth, Int8, Int16, Tick}
use Rattle.psy_tree.specs.Lexemes.{word_spelling}
use Rattle.psy_page.specs.Templates.{fill}
use Rattle.psy_breach.specs.declared.declared.How.TheVariants.{Same}
use Rattle.psy_breach.specs.declared.numbers.TheConstants.{RANGES}
use Rattle.psy_breach.specs.declared.sentences.TheConstants as words
use Rattle.psy_breach.specs.Declarations.{reached}
use Rattle.psy_breach.specs.Kinds.{before, is_sign, is_word, name_at, number_at}

-- ---- a range

-- The least and the greatest of the numbers behind a word, where they have a range
abbrev pub row_of : Word → Option (Word × ℕ × ℕ)
row_of word = find (λ row. sameb word_kind.the_type row.0 word) RANGES

-- That range
abbrev pub word_range : Word → Option (List ℕ)
word_range word = option_map (λ row. fill words.RANGE.now (word_spelling word ∷ decimal row.1 ∷ decimal row.2 ∷ [])) (row_of word)

-- The range of the values of a type, where a number of the text can lie outside it
abbrev pub values_told : Option Token → Option (List ℕ)
values_told token = if is_word token Int8 then Some words.INT8.now else if is_word token Int16 then Some words.INT16.now else None

-- The type of a variable, by the tokens before its first value, as in `TYPE NAME =`, with a minus behind that or without one
abbrev pub type_before : List Token → Option Token
type_before front = if is_sign (before front 1) Minus then before front 4 else before front 3

-- The range of the number behind a sign, by the tokens up to that: of the cells of an array, or of a first value
abbrev pub sign_range : List Token → Option (List ℕ)
sign_range front =
    if is_sign (before front 1) OpenSquare then Some (fill words.CELLS_RANGE.now (decimal CELLS ∷ [])) else values_told (type_before front)

-- The range of the number behind some tokens, by the kind of the last of them
abbrev pub range_behind : List Token → Kind → Option (List ℕ)
range_behind front (kinds.Word word) = word_range word
range_behind front (kinds.Sign sign) = sign_range front
range_behind front _ = None

-- The range of the number behind these tokens
abbrev pub range_told : List Token → Option (List ℕ)
range_told front = option_and_then (λ token. range_behind front token.kind) (before front 1)

-- ---- how far `past` reaches

-- The number behind the first of these tokens that is this word
abbrev pub number_behind : List Token → Word → Option ℕ
number_behind [] word = None
number_behind (token ∷ more) word = if is_word (Some token) word then number_at (slice_get more 0) else number_behind more word

-- What is told of a variable's depth at the number in `past`, by the tokens before that, as in `past ( NAME ,`
abbrev pub deep_told : List Token → List Token → Option (List ℕ)
deep_told tokens front =
    option_map (λ depth. fill words.DEEP.now (name_at (before front 2) ∷ decimal depth ∷ []))
    (option_and_then (λ d. number_behind d Depth) (reached Same (name_at (before front 2)) tokens front))

-- ---- a clock

-- The shift that is written, as in `NAME = FACTOR * PARENT + SHIFT`
unfoldable pub shift_of : List Token → Option ℕ
shift_of back = if is_sign (slice_get back 5) Plus then number_at (slice_get back 6) else None

-- A clock whose period is too long: of so many ticks, or periods of another clock
abbrev pub period_told : ℕ → Option Token → List ℕ
period_told factor parent =
    if is_word parent Tick then fill words.TICKS.now (decimal factor ∷ decimal PERIOD ∷ [])
    else fill words.PERIODS.now (decimal factor ∷ name_at parent ∷ decimal PERIOD ∷ [])

-- A clock of this factor, this parent, and the shift where one is written
unfoldable pub clock_at : Option Token → Option ℕ → ℕ → List ℕ
clock_at parent (Some shift) factor =
    if nat_le factor shift then fill words.SHIFT.now (decimal shift ∷ decimal factor ∷ []) else period_told factor parent
clock_at parent None factor = if factor == 0 then words.FACTOR.now else period_told factor parent

-- Which of a clock's numbers is at fault, by its name and the tokens behind that
abbrev pub clock_told : List Token → Option (List ℕ)
clock_told back = option_map (λ factor. clock_at (slice_get back 4) (shift_of back) factor) (number_at (slice_get back 2))
