-- A `}` whose line begins at another column than that of the `{` which it closes.
use Rattle.std.specs.Prelude.{ℕ, ◌+◌, ◌-◌, ◌==◌, Bool, ◌&&◌, ◌||◌, not, if◌then◌else◌, List, [], ◌∷◌, ◌++◌, length, drop, Option, None, Some, option_map}
use Rattle.std.specs.List.{prefix_len}
use Rattle.std.specs.Option.{option_or}
use Rattle.psy_tree.specs.declared.token.Token.{Token}
use Rattle.psy_expect.specs.declared.brace.Brace.{Brace}
use Rattle.psy_expect.specs.declared.brace.Brace.TheVariants.{Closes}
use Rattle.psy_expect.specs.Braces.{brace_of, open_brace}
use Rattle.psy_where.specs.declared.indent.Line.{Line}
use Rattle.psy_where.specs.declared.indent.Opening.{Opening}
use Rattle.psy_where.specs.declared.indent.Pair.{Pair}
use Rattle.psy_spot.specs.Spots.{before_at}

-- A blank or a tab
abbrev pub is_space : ℕ → Bool
is_space b = b == 32 || b == 9

-- The line that begins at a place: where its first byte stands that is none of these, and how many of these stand before that
abbrev pub line_from : List ℕ → ℕ → Line
line_from text start = record { first = start + prefix_len is_space (drop start text); indent = prefix_len is_space (drop start text) }

-- Where the line begins in which a place lies
abbrev pub line_start : List ℕ → ℕ → ℕ
line_start text place = place - length (before_at text place)

-- The line in which it lies
abbrev pub line_of : List ℕ → ℕ → Line
line_of text place = line_from text (line_start text place)

-- A `{`, and how many blanks and tabs stand before the first byte of its line
abbrev pub opening_of : List ℕ → ℕ → Opening
opening_of text place = record { place = place; indent = (line_of text place).indent }

-- A `}` in a line, and the `{` that it closes, where it stands first in the line, and the line of the `{` begins at another column
abbrev pub pair_of : Line → ℕ → Option Opening → Option Pair
pair_of line place None = None
pair_of line place (Some opening) =
    if line.first == place && not (opening.indent == line.indent) then Some (record { opening = opening.place; closing = place }) else None

-- The same of a token behind others, by what it does to braces: a `}` closes the innermost `{` that is open behind those.
abbrev pub pair_by : Brace → List ℕ → List Token → ℕ → Option Pair
pair_by Closes text earlier place = pair_of (line_of text place) place (option_map (opening_of text) (open_brace earlier))
pair_by _ text earlier place = None

-- The first such `}` of tokens that stand behind others, with its `{`
unfoldable pub first_pair : List ℕ → List Token → List Token → Option Pair
first_pair text earlier [] = None
first_pair text earlier (token ∷ more) =
    option_or (pair_by (brace_of token.kind) text earlier token.place) (first_pair text (earlier ++ token ∷ []) more)
