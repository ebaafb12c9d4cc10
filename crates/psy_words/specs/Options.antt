-- What is told of the name of a file that begins as an option does elsewhere.
use Rattle.std.specs.Prelude.{ℕ, if◌then◌else◌, List, [], ◌∷◌, codes, bytes_eq, take, Option, option_map}
use Rattle.psy_page.specs.Templates.{fill}
use Rattle.psy_page.specs.Told.{hint}
use Rattle.psy_words.specs.declared.form.How.TheVariants.{Same}
use Rattle.psy_words.specs.declared.sentences.TheConstants.{NO_OPTIONS}
use Rattle.psy_words.specs.Forms.{form_of}

-- There are no options: the form of the command, where there is one
abbrev pub form_as_option : List ℕ → Option (List ℕ)
form_as_option word = option_map (λ form. fill NO_OPTIONS.now (form ∷ [])) (form_of Same word)

-- What is told of a name among the words that psyview was called with
abbrev pub option_told : List (List ℕ) → List ℕ → List ℕ
option_told [] name = []
option_told (word ∷ words) name = if bytes_eq (take 1 name) (codes "-") then hint (form_as_option word) else []
