-- What single tokens are.
use Rattle.std.specs.Prelude.{ℕ, ◌-◌, Bool, false, nat_le, if◌then◌else◌, List, [], length, slice_get, Option, None, Some}
use denote.Enum.Bare.{sameb}
use Rattle.psy_tree.specs.declared.token.Kind.{Kind}
use Rattle.psy_tree.specs.declared.token.Kind.TheVariants as kinds
use Rattle.psy_tree.specs.declared.token.Sign.{Sign}
use Rattle.psy_tree.specs.declared.token.Token.{Token}
use Rattle.psy_tree.specs.declared.token.Word.{Word}
use Rattle.psy_tree.specs.contracts.token.Word as word_kind
use Rattle.psy_tree.specs.contracts.token.Sign as sign_kind

-- There is one, and it passes a test.
abbrev pub passes : {X : Type 0} → (X → Bool) → Option X → Bool
passes test None = false
passes test (Some x) = test x

-- A token of this kind is this reserved word.
abbrev pub is_word_kind : Kind → Word → Bool
is_word_kind (kinds.Word here) word = sameb word_kind.the_type here word
is_word_kind _ word = false

-- The token is there, and this reserved word.
abbrev pub is_word : Option Token → Word → Bool
is_word None word = false
is_word (Some token) word = is_word_kind token.kind word

-- A token of this kind is this sign.
abbrev pub is_sign_kind : Kind → Sign → Bool
is_sign_kind (kinds.Sign here) sign = sameb sign_kind.the_type here sign
is_sign_kind _ sign = false

-- The token is there, and this sign.
abbrev pub is_sign : Option Token → Sign → Bool
is_sign None sign = false
is_sign (Some token) sign = is_sign_kind token.kind sign

-- The name that a token of this kind is; no bytes where it is none
abbrev pub name_in : Kind → List ℕ
name_in (kinds.Name text) = text
name_in _ = []

-- The same of a token that may be there
abbrev pub name_at : Option Token → List ℕ
name_at None = []
name_at (Some token) = name_in token.kind

-- The number that a token of this kind is
abbrev pub number_in : Kind → Option ℕ
number_in (kinds.Number value) = Some value
number_in _ = None

-- The same of a token that may be there
abbrev pub number_at : Option Token → Option ℕ
number_at None = None
number_at (Some token) = number_in token.kind

-- The token of that number from the end of the tokens, counted from 1
abbrev pub before : List Token → ℕ → Option Token
before front number = if nat_le number (length front) then slice_get front (length front - number) else None
