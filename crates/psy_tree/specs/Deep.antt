-- The two measures that bound how far a text is nested. The tokens up to a place are given with the last one first.
use Rattle.std.specs.Prelude.{◌≡◌, ℕ, suc, ◌-◌, ◌<◌, Bool, true, false, if◌then◌else◌, ◌||◌, ◌⊎◌, is_some, List, [], ◌∷◌, length, map, reverse, take}
use Rattle.psy_base.specs.declared.limits.TheConstants.{BRACKETS, OPERATORS}
use Rattle.psy_tree.specs.declared.token.Token.{Token}
use Rattle.psy_tree.specs.declared.token.Kind.{Kind}
use Rattle.psy_tree.specs.declared.token.Kind.TheVariants as kinds
use Rattle.psy_tree.specs.declared.token.Sign.TheVariants as signs
use Rattle.psy_tree.specs.Grammar.{unary_of, binary_of}

-- `(`, `[` or `{`
abbrev pub opens : Kind → Bool
opens (kinds.Sign signs.OpenRound) = true
opens (kinds.Sign signs.OpenSquare) = true
opens (kinds.Sign signs.OpenBrace) = true
opens _ = false

-- `)`, `]` or `}`
abbrev pub closes : Kind → Bool
closes (kinds.Sign signs.CloseRound) = true
closes (kinds.Sign signs.CloseSquare) = true
closes (kinds.Sign signs.CloseBrace) = true
closes _ = false

-- Operators are counted anew from here
abbrev pub begins_anew : Kind → Bool
begins_anew (kinds.Sign signs.Semicolon) = true
begins_anew (kinds.Sign signs.OpenBrace) = true
begins_anew (kinds.Sign signs.CloseBrace) = true
begins_anew _ = false

-- A sign of an operator, wherever it stands
abbrev pub is_operator : Kind → Bool
is_operator (kinds.Sign s) = is_some (unary_of s) || is_some (binary_of s)
is_operator _ = false

-- Opening brackets less closing ones; a closing one at depth 0 leaves it there
abbrev pub bracket_depth : List Kind → ℕ
bracket_depth [] = 0
bracket_depth (k ∷ before) =
    if opens k then suc (bracket_depth before)
    else (if closes k then bracket_depth before - 1
    else bracket_depth before)

-- The operators since the last `;`, `{` or `}`
abbrev pub operators_since : List Kind → ℕ
operators_since [] = 0
operators_since (k ∷ before) =
    if begins_anew k then 0
    else (if is_operator k then suc (operators_since before)
    else operators_since before)

-- The tokens up to that of this number, with the last one first
abbrev pub up_to : List Token → ℕ → List Kind
up_to tokens n = reverse (map (λ token. token.kind) (take (suc n) tokens))

-- A measure is reached at this token
abbrev pub IsTooDeep : List Token → ℕ → Type 0
IsTooDeep tokens n = (bracket_depth (up_to tokens n) ≡ BRACKETS) ⊎ (operators_since (up_to tokens n) ≡ OPERATORS)

-- It is the first token at which one is reached
pub record Deep (tokens : List Token) (n : ℕ) : Type 0 where
  pub stands : n < length tokens
  pub reached : IsTooDeep tokens n
  pub first : (earlier : ℕ) → earlier < n → IsTooDeep tokens earlier → ⊥

-- No token reaches one
abbrev pub Shallow : List Token → Type 0
Shallow tokens = (n : ℕ) → n < length tokens → IsTooDeep tokens n → ⊥
