-- The brace that is open behind tokens.
use Rattle.std.specs.Prelude.{ℕ, ◌+◌, ◌-◌, ◌==◌, Bool, false, if◌then◌else◌, List, [], ◌∷◌, Option, None, Some}
use Rattle.std.specs.Option.{option_or}
use Rattle.psy_tree.specs.declared.token.Kind.{Kind}
use Rattle.psy_tree.specs.declared.token.Kind.TheVariants as kinds
use Rattle.psy_tree.specs.declared.token.Sign.{Sign}
use Rattle.psy_tree.specs.declared.token.Sign.TheVariants as signs
use Rattle.psy_tree.specs.declared.token.Token.{Token}
use Rattle.psy_expect.specs.declared.brace.Brace.{Brace}
use Rattle.psy_expect.specs.declared.brace.Brace.TheVariants.{Opens, Closes, Neither}

-- What a sign does to braces
abbrev pub sign_brace : Sign → Brace
sign_brace signs.OpenBrace = Opens
sign_brace signs.CloseBrace = Closes
sign_brace _ = Neither

-- The same of a kind of tokens
abbrev pub brace_of : Kind → Brace
brace_of (kinds.Sign sign) = sign_brace sign
brace_of _ = Neither

-- How many `}` close a `{` that stands further up, with one token more before those behind it, of which so many do
abbrev pub closed_with : Brace → ℕ → ℕ
closed_with Opens behind = behind - 1
closed_with Closes behind = behind + 1
closed_with Neither behind = behind

-- How many `}` among these tokens close a `{` that stands before them all
unfoldable pub closed_before : List Token → ℕ
closed_before [] = 0
closed_before (token ∷ more) = closed_with (brace_of token.kind) (closed_before more)

-- It is a `{`, and where so many `}` behind it close one that stands further up, none closes it.
abbrev pub is_open : Brace → ℕ → Bool
is_open Opens behind = behind == 0
is_open _ behind = false

-- The place of the innermost `{` that is open behind these tokens: of the last that no `}` behind it closes
unfoldable pub open_brace : List Token → Option ℕ
open_brace [] = None
open_brace (token ∷ more) =
    option_or (open_brace more) (if is_open (brace_of token.kind) (closed_before more) then Some token.place else None)
