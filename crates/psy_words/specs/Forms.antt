-- The commands of psyview, by their forms: the name of a command, and its places.
use Rattle.std.specs.Prelude.{ℕ, Bool, List, [], ◌∷◌, bytes_eq, find, map, Option, is_some}
use Rattle.psy_near.specs.Near.{is_near}
use Rattle.psy_text.specs.Words.{words_of}
use Rattle.psy_words.specs.declared.form.How.{How}
use Rattle.psy_words.specs.declared.form.How.TheVariants.{Same, Near}
use Rattle.psy_words.specs.declared.form.TheConstants.{FORMS, OF_PSYC}

-- The name of a command, by the words of its form
abbrev pub name_in : List (List ℕ) → List ℕ
name_in [] = []
name_in (name ∷ places) = name

-- A word is a name, or nearly so.
abbrev pub is_like : How → List ℕ → List ℕ → Bool
is_like Same word name = bytes_eq word name
is_like Near word name = is_near word name

-- The first of some forms whose name is like a word
abbrev pub first_form : How → List (List ℕ) → List ℕ → Option (List ℕ)
first_form how forms word = find (λ form. is_like how word (name_in (words_of form))) forms

-- The same of those of psyview
abbrev pub form_of : How → List ℕ → Option (List ℕ)
form_of how word = first_form how (map (λ f. f.now) FORMS) word

-- A command that psyc has, and psyview hasn't
abbrev pub is_of_psyc : List ℕ → Bool
is_of_psyc word = is_some (first_form Same (map (λ f. f.now) OF_PSYC) word)
