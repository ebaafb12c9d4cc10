-- The refusals that tell a place in a text, and what each means.
use Rattle.std.specs.Prelude.{◌≡◌, ◌==◌, ℕ, ◌<◌, if◌then◌else◌, List, codes, bytes_eq, length, Option, None, Some}
use Rattle.psy_log.specs.declared.form.Form.{Form}
use Rattle.psy_log.specs.declared.form.Form.TheVariants as form
use Rattle.psy_log.specs.declared.note.Note.{Note}
use Rattle.psy_log.specs.Forms.{says}
use Rattle.psy_log.specs.Table.{Said}
use Rattle.psy_notes.specs.Reading.{name_at, short_at}
use Rattle.psy_where.specs.declared.recall.What.{What}
use Rattle.psy_where.specs.declared.recall.What.TheVariants.{Lex, Parse, Rule, Inputs, Script}
use Rattle.psy_where.specs.declared.recall.Refusal.{Refusal}
use Rattle.psy_where.specs.Notes.{IsNoteOf}
use Rattle.psy_where.specs.Places.{IsTokenPlace, IsLinePlace}

-- What has this word
abbrev pub what_of : List ℕ → Option What
what_of word =
    if bytes_eq word (codes "lex") then Some Lex
    else if bytes_eq word (codes "parse") then Some Parse
    else if bytes_eq word (codes "rule") then Some Rule
    else if bytes_eq word (codes "inputs") then Some Inputs
    else if bytes_eq word (codes "script") then Some Script
    else None

-- What a refusal of each number means
abbrev pub sentence_of : What → ℕ → Option (List ℕ)
sentence_of Lex number =
    if number == 1 then Some (codes "this byte can't stand here")
    else if number == 2 then Some (codes "this word has more than 32 bytes")
    else if number == 3 then Some (codes "this number is above 2147483647")
    else if number == 4 then Some (codes "this comment has no end")
    else None
sentence_of Parse number =
    if number == 1 then Some (codes "no program goes on like this: something is missing before it, as a `;`, or it can't stand here, as a reserved word")
    else if number == 2 then Some (codes "64 brackets are open here, or 256 operators stand since the last `;`, `{` or `}`")
    else None
sentence_of Rule number =
    if number == 1 then Some (codes "this name is declared already")
    else if number == 2 then Some (codes "no declaration of this name is in reach here")
    else if number == 3 then Some (codes "this can't stand here")
    else if number == 4 then Some (codes "this variable is another agent's: only `past` looks at it")
    else if number == 5 then Some (codes "this agent doesn't receive that stream")
    else if number == 6 then Some (codes "`past` reaches back beyond the depth of the variable")
    else if number == 7 then Some (codes "this loop has no `max` and no `advance`, so it might never end")
    else if number == 8 then Some (codes "a loop has either a `max` and no `advance`, or no `max` and an `advance` on each way round")
    else if number == 9 then Some (codes "a path through this body meets no `advance`")
    else if number == 10 then Some (codes "this function isn't declared above the one that calls it")
    else if number == 11 then Some (codes "a number of this clock isn't allowed")
    else if number == 12 then Some (codes "this number is out of its range")
    else None
sentence_of Inputs number =
    if number == 1 then Some (codes "this line isn't the name of an input and its values")
    else if number == 2 then Some (codes "the program has no input of this name")
    else if number == 3 then Some (codes "this input has its values from an earlier line")
    else if number == 4 then Some (codes "a value isn't one of 32 bits")
    else None
sentence_of Script number =
    if number == 1 then Some (codes "this line is no stall, no order and no round")
    else if number == 2 then Some (codes "the program has no agent of this name")
    else if number == 3 then Some (codes "an earlier line says this already, or an agent or a processor is named twice")
    else if number == 4 then Some (codes "a number is out of its range")
    else None

-- The refusal of what has a word, where something has
abbrev pub refused : Option What → ℕ → ℕ → Option Refusal
refused None number at = None
refused (Some what) number at = Some (record { what = what; number = number; at = at })

-- The refusal that is said in a line of this form
abbrev pub refusal_in : Form → List Said → Option Refusal
refusal_in form.RefusedAt said = refused (what_of (name_at said 0)) (short_at said 1) (short_at said 2)
refusal_in _ said = None

-- What is said in a line of a form is this refusal, and it is one that psyc writes.
pub record Refuses (saying : Form × List Said) (refusal : Refusal) (sentence : List ℕ) : Type 0 where
  pub said : refusal_in saying.0 saying.1 ≡ Some refusal
  pub means : sentence_of refusal.what refusal.number ≡ Some sentence

-- The line says this.
abbrev pub IsRefusal : List ℕ → Refusal → List ℕ → Type 0
IsRefusal line refusal sentence = (note : Note) × IsNoteOf line note × Refuses (says note) refusal sentence

-- The line is no refusal that psyc writes of a text.
abbrev pub IsNoRefusal : List ℕ → Type 0
IsNoRefusal line = (refusal : Refusal) (sentence : List ℕ) → IsRefusal line refusal sentence → ⊥

-- The place in the text of which a refusal of this kind tells the number: a byte, a token, or a line.
abbrev pub IsPlaceOf : What → List ℕ → ℕ → ℕ → Type 0
IsPlaceOf Lex text number place = (place ≡ number) × (number < length text)
IsPlaceOf Parse text number place = IsTokenPlace text number place
IsPlaceOf Rule text number place = IsTokenPlace text number place
IsPlaceOf Inputs text number place = IsLinePlace text number place
IsPlaceOf Script text number place = IsLinePlace text number place
