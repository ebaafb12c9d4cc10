-- What is written of notes by what they say alone.
use Rattle.std.proofs.Common.{◌≡◌, ◌∙◌, refl, ap, ℕ, List, [], ◌∷◌, ◌++◌, map, Option, None, Some}
use Rattle.std.specs.Prelude.{bytes_eq, codes, decimal, if◌then◌else◌}
use Rattle.std.specs.Fmt.{signed_decimal}
use Rattle.psy_log.specs.declared.form.Form.{Form}
use Rattle.psy_log.specs.declared.form.Form.TheVariants as form
use Rattle.psy_log.specs.declared.note.Note.{Note}
use Rattle.psy_log.specs.declared.note.Note.TheVariants as note
use Rattle.psy_log.specs.Forms.{says, trap_name}
use Rattle.psy_log.specs.Table.{Said, kind, long, name, value}
use Rattle.psy_table.specs.Cells.{joined, messages_text, stop_text, value_text}
use Rattle.psy_table.specs.Fields.{fields}
use Rattle.psy_table.specs.Rows.{Columns, date_of, ended_by, is_that, last_of, row_of, rows, today_of}
use Rattle.psy_wave.specs.Changes.{change, changes, later, message, place_of, raised, stamp, time_of, value_change}

-- What a note says
abbrev Saying : Type 0
Saying = Form × List Said

-- ---- changes

abbrev time_said : Saying → Option ℕ
time_said (form.StopOverrun, long date ∷ said) = Some date
time_said (form.StopTrap, long date ∷ said) = Some date
time_said (form.Value, long date ∷ said) = Some date
time_said (form.Message, long date ∷ said) = Some date
time_said (form.End, long until ∷ said) = Some until
time_said _ = None

time_is : (n : Note) → time_of n ≡ time_said (says n)
time_is (note.Infeasible length demand supply None) = refl
time_is (note.Infeasible length demand supply (Some processor)) = refl
time_is (note.Refused what number None) = refl
time_is (note.Refused what number (Some at)) = refl
time_is n = refl

module _ (variables streams agents : List (List ℕ)) where
  abbrev change_said : Saying → List ℕ
  change_said (form.Value, long date ∷ name variable ∷ value number ∷ []) = value_change (place_of variable variables) number
  change_said (form.Message, long date ∷ name stream ∷ value number ∷ []) = message (place_of stream streams) number
  change_said (form.StopOverrun, long date ∷ name agent ∷ []) = raised (place_of agent agents)
  change_said (form.StopTrap, long date ∷ name agent ∷ kind trap ∷ []) = raised (place_of agent agents)
  change_said _ = []

  change_is : (n : Note) → change variables streams agents n ≡ change_said (says n)
  change_is (note.Infeasible length demand supply None) = refl
  change_is (note.Infeasible length demand supply (Some processor)) = refl
  change_is (note.Refused what number None) = refl
  change_is (note.Refused what number (Some at)) = refl
  change_is n = refl

  abbrev pub changes_said : ℕ → List Saying → List ℕ
  changes_said last [] = []
  changes_said last (s ∷ said) = stamp last (time_said s) ++ change_said s ++ changes_said (later last (time_said s)) said

  pub changes_are : (last : ℕ) (notes : List Note) → changes variables streams agents last notes ≡ changes_said last (map says notes)
  changes_are last [] = refl
  changes_are last (n ∷ notes) =
      ap (λ t. stamp last t ++ change variables streams agents n ++ changes variables streams agents (later last t) notes) (time_is n)
      ∙ ap (λ c. stamp last (time_said (says n)) ++ c ++ changes variables streams agents (later last (time_said (says n))) notes) (change_is n)
      ∙ ap (λ r. stamp last (time_said (says n)) ++ change_said (says n) ++ r) (changes_are (later last (time_said (says n))) notes)

-- ---- rows

abbrev date_said : Saying → Option ℕ
date_said (form.StopOverrun, long date ∷ said) = Some date
date_said (form.StopTrap, long date ∷ said) = Some date
date_said (form.Value, long date ∷ said) = Some date
date_said (form.Message, long date ∷ said) = Some date
date_said _ = None

date_is : (n : Note) → date_of n ≡ date_said (says n)
date_is (note.Infeasible length demand supply None) = refl
date_is (note.Infeasible length demand supply (Some processor)) = refl
date_is (note.Refused what number None) = refl
date_is (note.Refused what number (Some at)) = refl
date_is n = refl

-- One more note, whose text stands before that of the others
abbrev value_with : Saying → List ℕ → List ℕ → List ℕ
value_with (form.Value, long date ∷ name variable ∷ value number ∷ []) text asked = if bytes_eq variable asked then signed_decimal number else text
value_with _ text asked = text

value_by : (n : Note) (told : List Note) (asked : List ℕ) → value_text (n ∷ told) asked ≡ value_with (says n) (value_text told asked) asked
value_by (note.Infeasible length demand supply None) told asked = refl
value_by (note.Infeasible length demand supply (Some processor)) told asked = refl
value_by (note.Refused what number None) told asked = refl
value_by (note.Refused what number (Some at)) told asked = refl
value_by n told asked = refl

abbrev value_said : List Saying → List ℕ → List ℕ
value_said [] asked = []
value_said (s ∷ said) asked = value_with s (value_said said asked) asked

value_is : (told : List Note) (asked : List ℕ) → value_text told asked ≡ value_said (map says told) asked
value_is [] asked = refl
value_is (n ∷ told) asked = value_by n told asked ∙ ap (λ t. value_with (says n) t asked) (value_is told asked)

abbrev message_with : Saying → List ℕ → List ℕ → List ℕ
message_with (form.Message, long date ∷ name stream ∷ value number ∷ []) text asked = if bytes_eq stream asked then joined text (signed_decimal number) else text
message_with _ text asked = text

message_by : (n : Note) (told : List Note) (asked : List ℕ) → messages_text (n ∷ told) asked ≡ message_with (says n) (messages_text told asked) asked
message_by (note.Infeasible length demand supply None) told asked = refl
message_by (note.Infeasible length demand supply (Some processor)) told asked = refl
message_by (note.Refused what number None) told asked = refl
message_by (note.Refused what number (Some at)) told asked = refl
message_by n told asked = refl

abbrev messages_said : List Saying → List ℕ → List ℕ
messages_said [] asked = []
messages_said (s ∷ said) asked = message_with s (messages_said said asked) asked

messages_is : (told : List Note) (asked : List ℕ) → messages_text told asked ≡ messages_said (map says told) asked
messages_is [] asked = refl
messages_is (n ∷ told) asked = message_by n told asked ∙ ap (λ t. message_with (says n) t asked) (messages_is told asked)

abbrev stop_with : Saying → List ℕ → List ℕ → List ℕ
stop_with (form.StopOverrun, long date ∷ name agent ∷ []) text asked = if bytes_eq agent asked then codes "overrun" else text
stop_with (form.StopTrap, long date ∷ name agent ∷ kind trap ∷ []) text asked = if bytes_eq agent asked then codes "trap " ++ trap_name trap else text
stop_with _ text asked = text

stop_by : (n : Note) (told : List Note) (asked : List ℕ) → stop_text (n ∷ told) asked ≡ stop_with (says n) (stop_text told asked) asked
stop_by (note.Infeasible length demand supply None) told asked = refl
stop_by (note.Infeasible length demand supply (Some processor)) told asked = refl
stop_by (note.Refused what number None) told asked = refl
stop_by (note.Refused what number (Some at)) told asked = refl
stop_by n told asked = refl

abbrev stop_said : List Saying → List ℕ → List ℕ
stop_said [] asked = []
stop_said (s ∷ said) asked = stop_with s (stop_said said asked) asked

stop_is : (told : List Note) (asked : List ℕ) → stop_text told asked ≡ stop_said (map says told) asked
stop_is [] asked = refl
stop_is (n ∷ told) asked = stop_by n told asked ∙ ap (λ t. stop_with (says n) t asked) (stop_is told asked)

-- Lists of what is the same at each place
each_same : {X Y : Type 0} (f g : X → Y) → ((x : X) → f x ≡ g x) → (xs : List X) → map f xs ≡ map g xs
each_same f g same [] = refl
each_same f g same (x ∷ xs) = ap (λ y. y ∷ map f xs) (same x) ∙ ap (λ ys. g x ∷ ys) (each_same f g same xs)

abbrev last_said : Option ℕ → List Saying → Option ℕ
last_said None said = None
last_said (Some date) [] = Some date
last_said (Some date) (s ∷ said) = if is_that date (date_said s) then None else Some date

last_is : (date : Option ℕ) (notes : List Note) → last_of date notes ≡ last_said date (map says notes)
last_is None notes = refl
last_is (Some date) [] = refl
last_is (Some date) (n ∷ notes) = ap (λ d. if is_that date d then None else Some date) (date_is n)

ended_is : (n : Note) (notes : List Note) → ended_by n notes ≡ last_said (date_said (says n)) (map says notes)
ended_is n notes = last_is (date_of n) notes ∙ ap (λ d. last_said d (map says notes)) (date_is n)

abbrev today_said : Option ℕ → List Saying → List Saying
today_said None today = today
today_said (Some date) today = []

today_is : (ended : Option ℕ) (today : List Note) → map says (today_of ended today) ≡ today_said ended (map says today)
today_is None today = refl
today_is (Some date) today = refl

module _ (columns : Columns) where
  abbrev row_said : Option ℕ → List Saying → List Saying → List ℕ
  row_said None told today = []
  row_said (Some date) told today =
      decimal date ++ fields (map (value_said told) columns.variables) ++ fields (map (messages_said today) columns.streams)
      ++ fields (map (stop_said today) columns.agents) ++ codes "\r\n"

  row_is : (ended : Option ℕ) (told today : List Note) → row_of columns ended told today ≡ row_said ended (map says told) (map says today)
  row_is None told today = refl
  row_is (Some date) told today =
      ap (λ vs. decimal date ++ fields vs ++ fields (map (messages_text today) columns.streams) ++ fields (map (stop_text today) columns.agents) ++ codes "\r\n")
      (each_same (value_text told) (value_said (map says told)) (value_is told) columns.variables)
      ∙ ap (λ ms. decimal date ++ fields (map (value_said (map says told)) columns.variables) ++ fields ms ++ fields (map (stop_text today) columns.agents) ++ codes "\r\n")
      (each_same (messages_text today) (messages_said (map says today)) (messages_is today) columns.streams)
      ∙ ap (λ ss. decimal date ++ fields (map (value_said (map says told)) columns.variables) ++ fields (map (messages_said (map says today)) columns.streams) ++ fields ss ++ codes "\r\n")
      (each_same (stop_text today) (stop_said (map says today)) (stop_is today) columns.agents)

  abbrev pub rows_said : List Saying → List Saying → List Saying → List ℕ
  rows_said told today [] = []
  rows_said told today (s ∷ said) =
      row_said (last_said (date_said s) said) (s ∷ told) (s ∷ today) ++ rows_said (s ∷ told) (today_said (last_said (date_said s) said) (s ∷ today)) said

  pub rows_are : (told today notes : List Note) → rows columns told today notes ≡ rows_said (map says told) (map says today) (map says notes)
  rows_are told today [] = refl
  rows_are told today (n ∷ notes) =
      let ended = ended_by n notes in
      let is = ended_is n notes in
      let first = row_is ended (n ∷ told) (n ∷ today) ∙ ap (λ e. row_said e (says n ∷ map says told) (says n ∷ map says today)) is in
      let others = rows_are (n ∷ told) (today_of ended (n ∷ today)) notes
      ∙ ap (λ t. rows_said (says n ∷ map says told) t (map says notes)) (today_is ended (n ∷ today) ∙ ap (λ e. today_said e (says n ∷ map says today)) is) in
      ap (λ row. row ++ rows columns (n ∷ told) (today_of ended (n ∷ today)) notes) first
      ∙ ap (λ rest. row_said (last_said (date_said (says n)) (map says notes)) (says n ∷ map says told) (says n ∷ map says today) ++ rest) others
