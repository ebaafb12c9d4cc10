-- What is told of a name that is declared twice, that isn't declared, or that is another agent's.
use Rattle.std.specs.Prelude.{ℕ, Bool, ◌&&◌, ◌||◌, if◌then◌else◌, List, [], ◌∷◌, codes, find, slice_get, Option, None, Some, option_map}
use Rattle.std.specs.Str.{bytes_eq, str_eq_ignore_ascii_case}
use Rattle.psy_tree.specs.declared.token.Token.{Token}
use Rattle.psy_tree.specs.declared.token.Word.{Word}
use Rattle.psy_tree.specs.Lexemes.{word_spelling}
use Rattle.psy_near.specs.Near.{is_near}
use Rattle.psy_page.specs.Templates.{fill}
use Rattle.psy_page.specs.Told.{first_some}
use Rattle.psy_breach.specs.declared.declared.How.TheVariants.{Same, Near}
use Rattle.psy_breach.specs.declared.declared.Reach.TheVariants.{Inside, Every}
use Rattle.psy_breach.specs.declared.declared.Sort.{Sort}
use Rattle.psy_breach.specs.declared.names.TheConstants.{NEAR_NAMES}
use Rattle.psy_breach.specs.declared.role.Role.{Role}
use Rattle.psy_breach.specs.declared.role.Role.TheVariants.{Clock, Parent, Agent, Target, Messages, Past, Function, Cell, Assigned, Value}
use Rattle.psy_breach.specs.declared.sentences.TheConstants as words
use Rattle.psy_breach.specs.Declarations.{first_declared, is_function, is_local, is_same, last_head, name_of, named, reached, sort_at, sort_of}
use Rattle.psy_breach.specs.Kinds.{before, name_at, passes}
use Rattle.psy_breach.specs.Roles.{is_called, role_of}
use Rattle.psy_breach.specs.Told.{declared, declared_as}

-- ---- a name that is declared twice

-- The name at a place is declared there, inside an agent or a function.
abbrev pub is_inside : List Token → List Token → Bool
is_inside front back = passes is_local (sort_at (before front 1) back)

-- The earlier declaration of a name that is declared again: of one of the whole program any, of one inside an agent or a function one in reach
abbrev pub first_named : List Token → List Token → Option (List Token)
first_named front back = if is_inside front back then reached Same (named back) front front else first_declared Every Same (named back) front

-- ---- a name that isn't declared

-- It is `true` or `false`, in any case.
abbrev pub is_truth : List ℕ → Bool
is_truth name = str_eq_ignore_ascii_case name (codes "true") || str_eq_ignore_ascii_case name (codes "false")

-- An operator's name in other languages, in any case
abbrev pub is_operator_name : List ℕ → Bool
is_operator_name name =
    str_eq_ignore_ascii_case name (codes "and") || (str_eq_ignore_ascii_case name (codes "or")
    || (str_eq_ignore_ascii_case name (codes "not") || str_eq_ignore_ascii_case name (codes "mod")))

-- What is told of a word that other languages have; of an operator's name, where a function is called
abbrev pub foreign : List ℕ → Role → Option (List ℕ)
foreign name role =
    if is_truth name then Some words.TRUTHS.now
    else if bytes_eq name (codes "sizeof") then Some words.SIZES.now
    else if is_called role && is_operator_name name then Some words.OPERATORS.now
    else None

-- The reserved word that a name is in other case
abbrev pub cased_word : List ℕ → Option Word
cased_word name = find (λ word. str_eq_ignore_ascii_case name (word_spelling word)) NEAR_NAMES

-- The first of them that a name is nearly
abbrev pub near_word : List ℕ → Option Word
near_word name = find (λ word. is_near name (word_spelling word)) NEAR_NAMES

-- What is told of a name that is nearly this word
abbrev pub nearly : List ℕ → Option Word → Option (List ℕ)
nearly name word = option_map (λ w. fill words.NEARLY.now (name ∷ word_spelling w ∷ [])) word

-- What is told of a declaration of a name that is nearly the same
abbrev pub near_declared : List ℕ → Option (List Token) → Option (List ℕ)
near_declared text found = option_map (λ d. declared_as text (name_of d) d words.MEANT.now) found

-- How to come by what is declared inside another agent or function: in a function by a parameter, in an agent by a temporal variable
abbrev pub way_here : Option Sort → List ℕ
way_here here = if is_function here then words.OUT_OF_FUNCTION.now else words.OUT_OF_AGENT.now

-- What to declare
abbrev pub lack_words : Role → List ℕ
lack_words Clock = words.NO_CLOCK.now
lack_words Parent = words.NO_CLOCK.now
lack_words Agent = words.NO_AGENT.now
lack_words Target = words.NO_STREAM.now
lack_words Messages = words.NO_STREAM.now
lack_words Past = words.NO_TEMPORAL.now
lack_words Function = words.NO_FUNCTION.now
lack_words Cell = words.NO_ARRAY.now
lack_words Assigned = words.NO_VARIABLE.now
lack_words Value = words.NO_VARIABLE.now

-- What is told of a name that isn't declared, or further below than it should: the first of these that is so
abbrev pub unknown_told : List ℕ → List Token → List Token → List Token → Option (List Token) → Option (List ℕ)
unknown_told text tokens front back found =
    first_some (declared text (named back) found words.BELOW.now
    ∷ foreign (named back) (role_of front back)
    ∷ nearly (named back) (cased_word (named back))
    ∷ near_declared text (reached Near (named back) tokens front)
    ∷ nearly (named back) (near_word (named back))
    ∷ declared text (named back) (first_declared Inside Same (named back) tokens) (way_here (sort_of (last_head front)))
    ∷ Some (fill (lack_words (role_of front back)) (named back ∷ []))
    ∷ [])

-- ---- what is another agent's, or stands below

-- Whose a temporal variable is, by its declaration, as in `temporal NAME of OWNER`, and what to do
abbrev pub owned : List ℕ → List ℕ → Role → List ℕ
owned name owner Assigned = fill words.OWNED.now (name ∷ owner ∷ [])
owned name owner _ = fill words.LOOKED.now (name ∷ owner ∷ name ∷ [])

abbrev pub owner_told : List ℕ → Role → Option (List Token) → Option (List ℕ)
owner_told name role found = option_map (λ d. owned name (name_at (slice_get d 3)) role) found

-- Who receives a stream, by its declaration, as in `stream NAME to RECEIVER`
abbrev pub receiver_told : List ℕ → Option (List Token) → Option (List ℕ)
receiver_told name found = option_map (λ d. fill words.RECEIVED.now (name ∷ name_at (slice_get d 3) ∷ [])) found

-- Where a function stands that is called from above it, or that it is the caller itself
abbrev pub calls_told : List ℕ → List ℕ → List Token → Option (List Token) → Option (List ℕ)
calls_told text name caller found =
    option_map (λ d. if is_same d caller then fill words.ITSELF.now (name ∷ []) else declared_as text name d words.ABOVE.now) found
