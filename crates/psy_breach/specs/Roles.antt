-- What a place asks of the name that stands there, by the tokens around it.
use Rattle.std.specs.Prelude.{Bool, true, false, ◌&&◌, ◌||◌, if◌then◌else◌, List, slice_get, Option, None, Some}
use Rattle.psy_tree.specs.declared.token.Sign.TheVariants as signs
use Rattle.psy_tree.specs.declared.token.Token.{Token}
use Rattle.psy_tree.specs.declared.token.Word.TheVariants as words
use Rattle.psy_breach.specs.declared.role.Role.{Role}
use Rattle.psy_breach.specs.declared.role.Role.TheVariants.{Clock, Parent, Agent, Target, Messages, Past, Function, Cell, Assigned, Value}
use Rattle.psy_breach.specs.Kinds.{before, is_sign, is_word}

-- A function is called.
abbrev pub is_called : Role → Bool
is_called Function = true
is_called _ = false

-- Behind `to`, with so much before it: in the head of a stream its receiver is named, in a `send` a stream.
abbrev pub role_behind_to : Option Token → Role
role_behind_to word = if is_word word words.Stream then Agent else Target

-- A clock's parent stands behind these, as behind `clock NAME = NUMBER *`.
abbrev pub is_in_clock : List Token → Bool
is_in_clock front = is_word (before front 5) words.Clock && is_sign (before front 1) signs.Star

-- Behind a bracket that follows this token
abbrev pub role_in_brackets : Option Token → Option Role
role_in_brackets word =
    if is_word word words.Past then Some Past
    else if is_word word words.Ready || is_word word words.Take then Some Messages
    else None

-- The role that the tokens before a name give it
unfoldable pub role_before : List Token → Option Role
role_before front =
    if is_word (before front 1) words.On then Some Clock
    else if is_word (before front 1) words.Of then Some Agent
    else if is_word (before front 1) words.To then Some (role_behind_to (before front 3))
    else if is_in_clock front then Some Parent
    else if is_sign (before front 1) signs.OpenRound then role_in_brackets (before front 2)
    else None

-- The role that the token behind a name gives it
abbrev pub role_behind : Option Token → Role
role_behind next =
    if is_sign next signs.OpenRound then Function
    else if is_sign next signs.OpenSquare then Cell
    else if is_sign next signs.Assign then Assigned
    else Value

-- The same by the tokens from the name on
unfoldable pub role_at : List Token → Role
role_at back = role_behind (slice_get back 1)

-- The one, or else the other
abbrev pub role_or : Option Role → Role → Role
role_or None role = role
role_or (Some role) other = role

-- The role of a name, by the tokens before it, and itself with those behind it
abbrev pub role_of : List Token → List Token → Role
role_of front back = role_or (role_before front) (role_at back)
