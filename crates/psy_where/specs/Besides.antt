-- What the program tells of a line of inputs or of a script with which psyc refused.
use Rattle.std.specs.Prelude.{◌≡◌, ℕ, List, []}
use Rattle.psy_slip.specs.Besides.{beside_hint}
use Rattle.psy_slip.specs.declared.slip.File.TheVariants as files
use Rattle.psy_text.specs.Words.{words_of}
use Rattle.psy_tree.specs.declared.token.Token.{Token}
use Rattle.psy_tree.specs.Tokens.{TokensOf}
use Rattle.psy_where.specs.declared.recall.What.{What}
use Rattle.psy_where.specs.declared.recall.What.TheVariants.{Inputs, Script}
use Rattle.psy_where.specs.declared.recall.Refusal.{Refusal}
use Rattle.psy_where.specs.Explained.{rest_at}
use Rattle.psy_where.specs.Refusals.{IsPlaceOf, IsRefusal}

-- What the program's tokens tell of a line, by its words, of what is refused and by the number of the fault; nothing of a program's own
abbrev pub beside_of : What → ℕ → List (List ℕ) → List Token → List ℕ
beside_of Inputs number words tokens = beside_hint files.Inputs number words tokens
beside_of Script number words tokens = beside_hint files.Script number words tokens
beside_of what number words tokens = []

-- The line is a refusal of a place in the text, the program has tokens, and they tell this of the line that stands there.
abbrev pub IsBeside : List ℕ → List ℕ → List ℕ → List ℕ → Type 0
IsBeside program text line told =
    (refusal : Refusal) × (sentence : List ℕ) × (place : ℕ) × (tokens : List Token) × IsRefusal line refusal sentence
    × IsPlaceOf refusal.what text refusal.at place × TokensOf program tokens
    × (told ≡ beside_of refusal.what refusal.number (words_of (rest_at text place)) tokens)

-- A text can't be cut into tokens.
abbrev pub HasNoTokens : List ℕ → Type 0
HasNoTokens text = (tokens : List Token) → TokensOf text tokens → ⊥
