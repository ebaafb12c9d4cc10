-- What is told of loops that have an `advance`.
use Rattle.std.specs.Prelude.{ℕ, Bool, false, ◌||◌, if◌then◌else◌, List, [], ◌∷◌, Option, Some}
use Rattle.psy_tree.specs.declared.token.Sign.TheVariants as signs
use Rattle.psy_tree.specs.declared.token.Token.{Token}
use Rattle.psy_tree.specs.declared.token.Word.TheVariants as words
use Rattle.psy_breach.specs.declared.declared.Sort.{Sort}
use Rattle.psy_breach.specs.declared.sentences.TheConstants.{BOUNDED, ROUNDS, TIMELESS}
use Rattle.psy_breach.specs.Declarations.{is_function}
use Rattle.psy_breach.specs.Kinds.{is_sign, is_word}

-- It is `max`, or the bracket behind which the statements of a loop stand.
abbrev pub is_bound : Token → Bool
is_bound token = is_word (Some token) words.Max || is_sign (Some token) signs.OpenBrace

-- The loop that begins here has a `max`: it stands before the bracket.
abbrev pub is_bounded : List Token → Bool
is_bounded [] = false
is_bounded (token ∷ more) = if is_bound token then is_word (Some token) words.Max else is_bounded more

-- What is told of the loop that begins here: in a function, which takes no time; or else where it is bounded and takes time, or has a way round that takes none
abbrev pub mixed_told : Option Sort → List Token → List ℕ
mixed_told here back = if is_function here then TIMELESS.now else if is_bounded back then BOUNDED.now else ROUNDS.now
