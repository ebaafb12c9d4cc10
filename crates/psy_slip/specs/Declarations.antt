-- The names that a program's tokens declare: in a program a word that begins a declaration stands nowhere else.
use Rattle.std.specs.Prelude.{ℕ, Bool, false, if◌then◌else◌, List, [], ◌∷◌, bytes_eq, Option, None, Some}
use denote.Enum.Bare.{sameb}
use Rattle.psy_near.specs.Near.{is_near}
use Rattle.psy_slip.specs.declared.declared.How.{How}
use Rattle.psy_slip.specs.declared.declared.How.TheVariants.{Same, Near}
use Rattle.psy_tree.specs.declared.token.Kind.{Kind}
use Rattle.psy_tree.specs.declared.token.Kind.TheVariants as kinds
use Rattle.psy_tree.specs.declared.token.Token.{Token}
use Rattle.psy_tree.specs.declared.token.Word.{Word}
use Rattle.psy_tree.specs.declared.token.Word.TheVariants.{Input}
use Rattle.psy_tree.specs.contracts.token.Word as word_kind

-- A token of this kind is this reserved word.
abbrev pub is_word_kind : Kind → Word → Bool
is_word_kind (kinds.Word here) word = sameb word_kind.the_type here word
is_word_kind _ word = false

-- The name that this word and a name declare, by their kinds
abbrev pub name_behind : Word → Kind → Kind → Option (List ℕ)
name_behind word first (kinds.Name name) = if is_word_kind first word then Some name else None
name_behind word first _ = None

-- The name that tokens declare with this word, where they begin with both
abbrev pub declared : Word → List Token → Option (List ℕ)
declared word (first ∷ second ∷ more) = name_behind word first.kind second.kind
declared word _ = None

-- There is one, and it is the same as this, or nearly so.
abbrev pub is_like : How → Option (List ℕ) → List ℕ → Bool
is_like how None name = false
is_like Same (Some other) name = bytes_eq name other
is_like Near (Some other) name = is_near name other

-- The first name declared with this word that is like this one
abbrev pub first_declared : How → Word → List ℕ → List Token → Option (List ℕ)
first_declared how word name [] = None
first_declared how word name (token ∷ more) =
    if is_like how (declared word (token ∷ more)) name then declared word (token ∷ more) else first_declared how word name more

-- A name in front of others, where there is one
abbrev pub with_name : Option (List ℕ) → List (List ℕ) → List (List ℕ)
with_name None names = names
with_name (Some name) names = name ∷ names

-- The inputs that the program declares, in the order of their declarations
abbrev pub inputs_of : List Token → List (List ℕ)
inputs_of [] = []
inputs_of (token ∷ more) = with_name (declared Input (token ∷ more)) (inputs_of more)
