-- What notes tell of a name, as the text of a cell. The notes are given newest first.
use Rattle.std.specs.Prelude.{ℕ, List, [], ◌∷◌, ◌++◌, bytes_eq, codes, if◌then◌else◌}
use Rattle.std.specs.Fmt.{signed_decimal}
use Rattle.psy_log.specs.declared.note.Note.{Note}
use Rattle.psy_log.specs.declared.note.Note.TheVariants as note
use Rattle.psy_log.specs.Forms.{trap_name}

-- A text behind another, with a blank between them
abbrev pub joined : List ℕ → List ℕ → List ℕ
joined [] text = text
joined (byte ∷ before) text = byte ∷ before ++ 32 ∷ text

-- The value of a variable: the newest that was told; nothing before one was
abbrev pub value_text : List Note → List ℕ → List ℕ
value_text [] name = []
value_text (note.Value date variable value ∷ told) name = if bytes_eq variable.now name then signed_decimal value else value_text told name
value_text (_ ∷ told) name = value_text told name

-- The messages of a stream, the oldest first
abbrev pub messages_text : List Note → List ℕ → List ℕ
messages_text [] name = []
messages_text (note.Message date stream value ∷ told) name =
    if bytes_eq stream.now name then joined (messages_text told name) (signed_decimal value) else messages_text told name
messages_text (_ ∷ told) name = messages_text told name

-- How an agent was stopped; nothing where it wasn't
abbrev pub stop_text : List Note → List ℕ → List ℕ
stop_text [] name = []
stop_text (note.StopOverrun date agent ∷ told) name = if bytes_eq agent.now name then codes "overrun" else stop_text told name
stop_text (note.StopTrap date agent kind ∷ told) name = if bytes_eq agent.now name then codes "trap " ++ trap_name kind else stop_text told name
stop_text (_ ∷ told) name = stop_text told name
