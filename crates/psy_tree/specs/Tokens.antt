-- The tokens of a text: it is blanks, comments and spellings in a row, each the longest at its place.
use Rattle.std.specs.Prelude.{◌≡◌, ℕ, ◌+◌, List, [], ◌∷◌, ◌++◌, length, flat_map, ◌⊎◌}
use Rattle.psy_tree.specs.declared.token.Kind.{Kind}
use Rattle.psy_tree.specs.declared.token.Token.{Token}
use Rattle.psy_tree.specs.Lexemes.{IsSpelling, EndsToken, IsBlank, IsBlockComment, IsLineComment}

-- A piece of a text: a blank or comment, or the spelling of a token
pub data Piece : Type 0 where
  Separator : List ℕ → Piece
  Lexeme : Kind → List ℕ → Piece

-- The bytes of a piece
abbrev pub bytes_of : Piece → List ℕ
bytes_of (Separator bytes) = bytes
bytes_of (Lexeme kind bytes) = bytes

-- The bytes of all pieces, one behind the other
abbrev pub text_of : List Piece → List ℕ
text_of pieces = flat_map bytes_of pieces

-- The piece may stand before the rest
abbrev pub IsPiece : Piece → List ℕ → Type 0
IsPiece (Separator bytes) rest = IsBlank bytes ⊎ (IsBlockComment bytes ⊎ IsLineComment bytes rest)
IsPiece (Lexeme kind bytes) rest = IsSpelling kind bytes × EndsToken kind rest

-- Each piece may stand before those behind it and the rest
abbrev pub AllStand : List Piece → List ℕ → Type 0
AllStand [] rest = Unit {0}
AllStand (piece ∷ pieces) rest = IsPiece piece (text_of pieces ++ rest) × AllStand pieces rest

-- The text is these pieces, and then the rest
pub record Splits (text : List ℕ) (pieces : List Piece) (rest : List ℕ) : Type 0 where
  pub whole : text ≡ text_of pieces ++ rest
  pub stand : AllStand pieces rest

-- The tokens of pieces that have so many bytes before them
abbrev pub tokens_from : ℕ → List Piece → List Token
tokens_from place [] = []
tokens_from place (Separator bytes ∷ pieces) = tokens_from (place + length bytes) pieces
tokens_from place (Lexeme kind bytes ∷ pieces) = record { place = place; kind = kind } ∷ tokens_from (place + length bytes) pieces

-- The tokens of a text
abbrev pub TokensOf : List ℕ → List Token → Type 0
TokensOf text tokens = (pieces : List Piece) × Splits text pieces [] × (tokens ≡ tokens_from 0 pieces)
