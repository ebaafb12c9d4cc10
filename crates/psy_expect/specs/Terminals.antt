-- The terminals of the grammar, and which of them may stand behind tokens.
use Rattle.std.specs.Prelude.{◌≡◌, List, [], ◌∷◌, ◌++◌, codes, map}
use Rattle.psy_tree.specs.declared.token.Kind.{Kind}
use Rattle.psy_tree.specs.declared.token.Kind.TheVariants as kinds
use Rattle.psy_tree.specs.declared.token.Token.{Token}
use Rattle.psy_tree.specs.Deep.{Shallow}
use Rattle.psy_parse.specs.Fault.{Viable}
use Rattle.psy_expect.specs.declared.terminal.Terminal.{Terminal}
use Rattle.psy_expect.specs.declared.terminal.Terminal.TheVariants.{Word, Name, Number, Sign}

-- The terminal that a token of this kind is
abbrev pub terminal_of : Kind → Terminal
terminal_of (kinds.Word w) = Word w
terminal_of (kinds.Name text) = Name
terminal_of (kinds.Number value) = Number
terminal_of (kinds.Sign s) = Sign s

-- The kind of a token that stands for all of a terminal: the name `x` for any name, and 1 for any number. Which it is doesn't matter (law `alike`).
abbrev pub kind_of : Terminal → Kind
kind_of (Word w) = kinds.Word w
kind_of Name = kinds.Name (codes "x")
kind_of Number = kinds.Number 1
kind_of (Sign s) = kinds.Sign s

-- Such a token
abbrev pub stand_in : Terminal → Token
stand_in terminal = record { place = 0; kind = kind_of terminal }

-- Some program begins with these tokens, and they are nested too deep nowhere
pub record IsFront (tokens : List Token) : Type 0 where
  pub viable : Viable tokens
  pub shallow : Shallow tokens

-- Behind these tokens some token of this terminal may stand
pub record MayFollow (front : List Token) (terminal : Terminal) : Type 0 where
  pub token : Token
  pub is : terminal_of token.kind ≡ terminal
  pub goes_on : IsFront (front ++ token ∷ [])

-- With tokens of these terminals behind them these tokens are the front of a program.
abbrev pub GoesOn : List Token → List Terminal → Type 0
GoesOn front ahead = IsFront (front ++ map stand_in ahead)

-- The second list has those items of the first that P holds of, and no others, in their order
pub data Picks {A : Type 0} (P : A → Type 0) : List A → List A → Type 0 where
  none : Picks P [] []
  picked : {x : A} {xs ys : List A} → P x → Picks P xs ys → Picks P (x ∷ xs) (x ∷ ys)
  passed : {x : A} {xs ys : List A} → (P x → ⊥) → Picks P xs ys → Picks P (x ∷ xs) ys
