-- What is told of words that no command has: the word at fault, or what is missing, and below it the form of the command.
use Rattle.std.specs.Prelude.{ℕ, ◌+◌, ◌-◌, ◌==◌, Bool, false, not, nat_le, if◌then◌else◌, List, [], ◌∷◌, ◌++◌, codes, bytes_eq, length}
use Rattle.std.specs.Prelude.{slice_get, unwrap_or, Option, None, Some, option_map}
use Rattle.std.specs.List.{list_any}
use Rattle.psy_base.specs.declared.limits.TheConstants.{UNTIL}
use Rattle.psy_page.specs.Templates.{fill}
use Rattle.psy_page.specs.Told.{about, hint}
use Rattle.psy_show.specs.Lines.{shown}
use Rattle.psy_text.specs.Words.{is_number, number_of, words_of}
use Rattle.psy_words.specs.declared.form.How.TheVariants.{Same, Near}
use Rattle.psy_words.specs.declared.sentences.TheConstants as told
use Rattle.psy_words.specs.Forms.{form_of, is_of_psyc, name_in}

-- There is a number, and it is a date up to which a program may run.
abbrev pub is_until : Option ℕ → Bool
is_until None = false
is_until (Some n) = nat_le n UNTIL

abbrev pub is_date : List ℕ → Bool
is_date word = is_until (number_of word)

-- The word of a form of this number, from 0: its name, and then its places
abbrev pub place : List (List ℕ) → ℕ → List ℕ
place places number = unwrap_or (slice_get places number) []

-- What is missing behind the first word
abbrev pub second_place : List (List ℕ) → List ℕ
second_place places =
    if bytes_eq (place places 0) (codes "where") then told.LINE.now
    else if bytes_eq (place places 0) (codes "diff") then told.SECOND_LOG.now
    else place places 2

-- The first or the second word behind a command is missing.
abbrev pub lack_told : List (List ℕ) → List (List ℕ) → List ℕ
lack_told places [] = fill told.MISSING.now (place places 1 ∷ shown (place places 0) ∷ [])
lack_told places (word ∷ more) = fill told.MISSING.now (second_place places ∷ shown word ∷ [])

-- A place is there, and not in brackets (91 is `[`).
abbrev pub is_needed : List ℕ → Bool
is_needed [] = false
is_needed (b ∷ place) = not (b == 91)

-- The first place without a word is one: fewer words stand behind the command than it needs.
abbrev pub is_few : List (List ℕ) → List (List ℕ) → Bool
is_few places words = is_needed (place places (length words + 1))

-- A place may be filled more than once: it is one with `..` (46 is `.`).
abbrev pub is_repeated : List ℕ → Bool
is_repeated place = list_any (λ b. b == 46) place

-- The first word that is one too many
abbrev pub extra : List (List ℕ) → List (List ℕ) → Option (List ℕ)
extra places words = if is_repeated (place places (length places - 1)) then None else slice_get words (length places - 1)

-- Too few or too many words stand behind a command.
abbrev pub count_told : List (List ℕ) → List (List ℕ) → Option (List ℕ)
count_told places words =
    if is_few places words then Some (lack_told places words) else option_map (λ word. about told.EXTRA.now word) (extra places words)

-- What is wrong with a date, behind the word for the program: it is too great; or none, where that may stand before it
abbrev pub date_told : List ℕ → List ℕ → List ℕ
date_told program until =
    if is_number until then about told.TOO_GREAT.now until
    else if is_number program then about told.BEFORE.now program
    else about told.NO_DATE.now until

-- What is wrong with the words behind a command of which the second is a date
abbrev pub dated_told : List (List ℕ) → List (List ℕ) → Option (List ℕ)
dated_told places [] = Some (lack_told places [])
dated_told places (program ∷ []) = if is_number program then Some (about told.BEFORE.now program) else Some (lack_told places (program ∷ []))
dated_told places (program ∷ until ∷ more) =
    if is_date until then count_told places (program ∷ until ∷ more) else Some (date_told program until)

-- What is wrong with the words behind `timeline`
abbrev pub timeline_told : List (List ℕ) → List (List ℕ) → List ℕ
timeline_told places [] = lack_told places []
timeline_told places (log ∷ more) = told.TIMELINE.now

-- What is wrong with the words behind a command, by the words of its form
abbrev pub fault_told : List (List ℕ) → List (List ℕ) → Option (List ℕ)
fault_told places words =
    if bytes_eq (place places 2) (codes "UNTIL") then dated_told places words
    else if bytes_eq (place places 0) (codes "timeline") then Some (timeline_told places words)
    else count_told places words

-- What is told of a word that is no command: that it is one of psyc, or the command that it nearly is, by its form
abbrev pub near_told : List ℕ → Option (List ℕ) → List ℕ
near_told word None = about told.NO_COMMAND.now word
near_told word (Some form) = fill told.NEAR_COMMAND.now (shown word ∷ shown (name_in (words_of form)) ∷ [])

abbrev pub unknown_told : List ℕ → Option (List ℕ) → List ℕ
unknown_told word near = if is_of_psyc word then about told.OF_PSYC.now word else near_told word near

-- The form of a command
abbrev pub form_told : Option (List ℕ) → Option (List ℕ)
form_told form = option_map (λ f. fill told.FORM.now (f ∷ [])) form

-- What is told, and the form of the command, where there is one; nothing where nothing is told
abbrev pub lines : Option (List ℕ) → Option (List ℕ) → List ℕ
lines None form = []
lines (Some text) form = text ++ codes "\n" ++ hint (form_told form)

-- What is told of words behind a word that is a command of this form, or none
abbrev pub command_told : List ℕ → List (List ℕ) → Option (List ℕ) → List ℕ
command_told word words None = lines (Some (unknown_told word (form_of Near word))) (if is_of_psyc word then None else form_of Near word)
command_told word words (Some form) = lines (fault_told (words_of form) words) (Some form)

-- What is told of words that psyview was called with, where they are of no form
abbrev pub words_told : List (List ℕ) → List ℕ
words_told [] = []
words_told (word ∷ words) = command_told word words (form_of Same word)
