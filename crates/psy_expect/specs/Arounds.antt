-- What stands around a place among tokens.
use Rattle.std.specs.Prelude.{ℕ, ◌+◌, ◌-◌, ◌==◌, Bool, true, false, List, [], length, take, drop, slice_get, Option, None, Some}
use Rattle.std.specs.List.{suffix_len}
use Rattle.psy_tree.specs.declared.token.Kind.{Kind}
use Rattle.psy_tree.specs.declared.token.Kind.TheVariants as kinds
use Rattle.psy_tree.specs.declared.token.Sign.{Sign}
use Rattle.psy_tree.specs.declared.token.Sign.TheVariants as signs
use Rattle.psy_tree.specs.declared.token.Token.{Token}
use Rattle.psy_expect.specs.declared.around.Around.{Around}
use Rattle.psy_expect.specs.declared.foreign.Foreign.{Foreign}
use Rattle.psy_expect.specs.declared.terminal.Terminal.{Terminal}
use Rattle.psy_expect.specs.Foreigns.{foreign_of, small_of}
use Rattle.psy_expect.specs.Terminals.{terminal_of}

-- The terminal that a token is, where there is one
abbrev pub terminal_at : Option Token → Option Terminal
terminal_at (Some token) = Some (terminal_of token.kind)
terminal_at None = None

-- Both tokens are there, and the second begins one byte behind the first
abbrev pub is_joined : Option Token → Option Token → Bool
is_joined (Some one) (Some next) = one.place + 1 == next.place
is_joined _ _ = false

-- The bytes of a name; none of a token of another kind
abbrev pub name_in : Kind → List ℕ
name_in (kinds.Name name) = name
name_in _ = []

-- The same of a token that may be there
abbrev pub name_at : Option Token → List ℕ
name_at (Some token) = name_in token.kind
name_at None = []

-- The sign ends no statement, and begins and ends no block
abbrev pub is_sign_within : Sign → Bool
is_sign_within signs.Semicolon = false
is_sign_within signs.OpenBrace = false
is_sign_within signs.CloseBrace = false
is_sign_within _ = true

-- The same of a token, by its kind
abbrev pub is_kind_within : Kind → Bool
is_kind_within (kinds.Sign sign) = is_sign_within sign
is_kind_within _ = true

-- The same of a token
unfoldable pub is_within : Token → Bool
is_within token = is_kind_within token.kind

-- With what the statement, the declaration or the head of a block begins to which the last of these tokens belongs: the first token behind the last `;`,
-- `{` or `}`
unfoldable pub starter_at : List Token → Option Terminal
starter_at front = terminal_at (slice_get front (length front - suffix_len is_within front))

-- The last of some tokens
abbrev pub last_token : List Token → Option Token
last_token front = slice_get front (length front - 1)

-- All of them but the last
abbrev pub but_last : List Token → List Token
but_last front = take (length front - 1) front

-- The token of so many behind a place
abbrev pub token_behind : List Token → ℕ → ℕ → Option Token
token_behind tokens at more = slice_get (drop at tokens) more

-- What word of another language a name is
abbrev pub foreign_at : Option Token → Option Foreign
foreign_at token = foreign_of (name_at token)

-- The reserved word that a name would be in small letters
abbrev pub small_at : Option Token → Option Terminal
small_at token = small_of (name_at token)

-- What stands around a place, by what begins there, and the tokens three before it, two before it, before it, at it, behind it, and behind that
unfoldable pub around_of : Option Terminal → Option Token → Option Token → Option Token → Option Token → Option Token → Option Token → Around
around_of starter earliest earlier before here behind further = record {
  starter = starter;
  earlier = terminal_at earlier;
  before = terminal_at before;
  here = terminal_at here;
  behind = terminal_at behind;
  further = terminal_at further;
  is_joined_earlier = is_joined earlier before;
  is_joined_before = is_joined before here;
  is_joined_behind = is_joined here behind;
  foreign_earliest = foreign_at earliest;
  foreign_earlier = foreign_at earlier;
  foreign_before = foreign_at before;
  foreign_here = foreign_at here;
  small_before = small_at before;
  small_here = small_at here;
}

-- What stands around a place
abbrev pub around : List Token → ℕ → Around
around tokens at =
    around_of (starter_at (take at tokens)) (last_token (but_last (but_last (take at tokens)))) (last_token (but_last (take at tokens)))
    (last_token (take at tokens)) (token_behind tokens at 0) (token_behind tokens at 1) (token_behind tokens at 2)
