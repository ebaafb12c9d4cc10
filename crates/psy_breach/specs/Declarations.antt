-- Declarations among tokens. Each is seen as the tokens from its first on: in a program a word that begins one stands nowhere else, and that of a type only
-- there, before parameters, and before the bracket of a cast.
use Rattle.std.specs.Prelude.{ℕ, ◌==◌, Bool, true, false, not, ◌&&◌, nat_lt, if◌then◌else◌, List, [], ◌∷◌, slice_get, Option, None, Some}
use Rattle.std.specs.Str.{bytes_eq}
use Rattle.psy_tree.specs.declared.token.Kind.{Kind}
use Rattle.psy_tree.specs.declared.token.Kind.TheVariants as kinds
use Rattle.psy_tree.specs.declared.token.Sign.TheVariants as signs
use Rattle.psy_tree.specs.declared.token.Token.{Token}
use Rattle.psy_tree.specs.declared.token.Word.{Word}
use Rattle.psy_tree.specs.declared.token.Word.TheVariants as words
use Rattle.psy_breach.specs.declared.declared.Sort.{Sort}
use Rattle.psy_breach.specs.declared.declared.Sort.TheVariants.{Clock, Temporal, Input, Stream, Agent, Function, Array, Variable}
use Rattle.psy_breach.specs.declared.declared.Reach.{Reach}
use Rattle.psy_breach.specs.declared.declared.Reach.TheVariants.{Whole, Inside, Every}
use Rattle.psy_breach.specs.declared.declared.How.{How}
use Rattle.psy_breach.specs.declared.declared.How.TheVariants.{Same, Near}
use Rattle.psy_breach.specs.Kinds.{is_sign, name_at}
use Rattle.psy_near.specs.Near.{is_near}

-- What a type and a name declare, by the token behind them
abbrev pub sort_of_typed : Option Token → Sort
sort_of_typed third = if is_sign third signs.OpenRound then Function else if is_sign third signs.OpenSquare then Array else Variable

-- What a word and a name declare, by the token behind them
abbrev pub sort_of_word : Word → Option Token → Option Sort
sort_of_word words.Clock third = Some Clock
sort_of_word words.Temporal third = Some Temporal
sort_of_word words.Input third = Some Input
sort_of_word words.Stream third = Some Stream
sort_of_word words.Agent third = Some Agent
sort_of_word words.Int third = Some (sort_of_typed third)
sort_of_word words.Int8 third = Some (sort_of_typed third)
sort_of_word words.Int16 third = Some (sort_of_typed third)
sort_of_word words.Int32 third = Some (sort_of_typed third)
sort_of_word words.Int64 third = Some (sort_of_typed third)
sort_of_word _ third = None

-- The same of two tokens, by their kinds
abbrev pub sort_of_kinds : Kind → Kind → Option Token → Option Sort
sort_of_kinds (kinds.Word word) (kinds.Name name) third = sort_of_word word third
sort_of_kinds _ _ third = None

-- What is declared with these tokens, where a declaration begins with them
abbrev pub sort_of : List Token → Option Sort
sort_of (word ∷ name ∷ more) = sort_of_kinds word.kind name.kind (slice_get more 0)
sort_of _ = None

-- What is declared by the token before some tokens, and these
abbrev pub sort_at : Option Token → List Token → Option Sort
sort_at (Some word) (name ∷ more) = sort_of_kinds word.kind name.kind (slice_get more 0)
sort_at _ _ = None

-- It stands inside an agent or a function.
abbrev pub is_local : Sort → Bool
is_local Array = true
is_local Variable = true
is_local _ = false

-- It is a function.
abbrev pub is_function : Option Sort → Bool
is_function (Some Function) = true
is_function _ = false

-- The name that is declared
abbrev pub name_of : List Token → List ℕ
name_of (word ∷ name ∷ more) = name_at (Some name)
name_of _ = []

-- The byte at which a declaration begins
abbrev pub place_of : List Token → ℕ
place_of [] = 0
place_of (first ∷ more) = first.place

-- A name is like another: the same, or nearly so.
abbrev pub is_like : How → List ℕ → List ℕ → Bool
is_like Same name other = bytes_eq name other
is_like Near name other = is_near name other

-- These declarations are looked at.
abbrev pub reaches : Reach → Sort → Bool
reaches Whole sort = not (is_local sort)
reaches Inside sort = is_local sort
reaches Every sort = true

-- It is one of those, and its name is like this one.
abbrev pub declares_as : Reach → How → List ℕ → List Token → Option Sort → Bool
declares_as reach how name tokens None = false
declares_as reach how name tokens (Some sort) = reaches reach sort && is_like how name (name_of tokens)

-- A declaration begins here, is one of those, and its name is like this one.
abbrev pub declares : Reach → How → List ℕ → List Token → Bool
declares reach how name tokens = declares_as reach how name tokens (sort_of tokens)

-- The first declaration of a name among tokens, or of one like it
abbrev pub first_declared : Reach → How → List ℕ → List Token → Option (List Token)
first_declared reach how name [] = None
first_declared reach how name (token ∷ more) =
    if declares reach how name (token ∷ more) then Some (token ∷ more) else first_declared reach how name more

-- There is a declaration, and it is one of the whole program.
abbrev pub is_whole : Option Sort → Bool
is_whole None = false
is_whole (Some sort) = not (is_local sort)

-- A declaration of the whole program begins here.
abbrev pub is_head : List Token → Bool
is_head tokens = is_whole (sort_of tokens)

-- The last declaration of the whole program that begins among tokens, or else these
abbrev pub last_head_or : List Token → List Token → List Token
last_head_or found [] = found
last_head_or found (token ∷ more) = last_head_or (if is_head (token ∷ more) then token ∷ more else found) more

-- The last declaration of the whole program that begins among tokens; none of them where there is none
abbrev pub last_head : List Token → List Token
last_head tokens = last_head_or [] tokens

-- The declaration that stands first in the text
abbrev pub earlier : Option (List Token) → Option (List Token) → Option (List Token)
earlier None other = other
earlier (Some one) None = Some one
earlier (Some one) (Some other) = if nat_lt (place_of other) (place_of one) then Some other else Some one

-- The first declaration in reach of a place of the name that stands there, or of one like it: of those of the whole program, and of those inside the agent
-- or function to which the place belongs. That is the one declared last before it, as what it declares inside stands before its statements.
abbrev pub reached : How → List ℕ → List Token → List Token → Option (List Token)
reached how name tokens front = earlier (first_declared Whole how name tokens) (first_declared Inside how name (last_head front))

-- The name that stands first among tokens
abbrev pub named : List Token → List ℕ
named back = name_at (slice_get back 0)

-- The first declaration in reach of it
abbrev pub found : List Token → List Token → List Token → Option (List Token)
found tokens front back = reached Same (named back) tokens front

-- Two declarations are one.
abbrev pub is_same : List Token → List Token → Bool
is_same one other = place_of one == place_of other
