-- What is told: a sentence, and what stands in its holes.
use Rattle.std.specs.Prelude.{ℕ, List, [], ◌∷◌, ◌++◌, codes, Option, None, Some, option_map}
use Rattle.std.specs.Option.{option_or}
use Rattle.psy_show.specs.Lines.{shown}
use Rattle.psy_page.specs.declared.told.Told.{Told}
use Rattle.psy_page.specs.declared.told.Told.TheVariants as told
use Rattle.psy_page.specs.Spelling.{spelled}
use Rattle.psy_page.specs.Templates.{fill}

-- The bytes of a sentence
abbrev pub sentence : Told → List ℕ
sentence (told.Plain words) = words.now
sentence (told.One words one) = fill words.now (spelled one ∷ [])
sentence (told.Two words one two) = fill words.now (spelled one ∷ spelled two ∷ [])
sentence (told.Three words one two three) = fill words.now (spelled one ∷ spelled two ∷ spelled three ∷ [])
sentence (told.Four words one two three four) = fill words.now (spelled one ∷ spelled two ∷ spelled three ∷ spelled four ∷ [])

-- The same, where something is told
abbrev pub said : Option Told → Option (List ℕ)
said told = option_map sentence told

-- The first of some that is there
abbrev pub first_some : {X : Type 0} → List (Option X) → Option X
first_some [] = None
first_some (x ∷ more) = option_or x (first_some more)

-- A sentence about a name, as it is shown on a screen
abbrev pub about : List ℕ → List ℕ → List ℕ
about words name = fill words (shown name ∷ [])

-- The line in which something is told, where it is
abbrev pub hint : Option (List ℕ) → List ℕ
hint None = []
hint (Some words) = codes "hint: " ++ words ++ codes "\n"
