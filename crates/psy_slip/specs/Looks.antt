-- What a file looks like that may stand in another's place.
use Rattle.std.specs.Prelude.{ℕ, Bool, false, not, ◌&&◌, ◌||◌, nat_le, if◌then◌else◌, List, [], ◌∷◌, codes, bytes_eq, find, length, take, unwrap_or}
use Rattle.std.specs.Prelude.{Option, None, Some, is_some, option_map}
use Rattle.std.specs.List.{list_any}
use Rattle.psy_base.specs.declared.limits.TheConstants.{FILE_BYTES}
use Rattle.psy_page.specs.Templates.{fill}
use Rattle.psy_page.specs.Told.{hint}
use Rattle.psy_slip.specs.declared.look.Look.{Look}
use Rattle.psy_slip.specs.declared.look.Look.TheVariants.{Program, Inputs, Script, Log}
use Rattle.psy_slip.specs.declared.sentences.TheConstants as told
use Rattle.psy_slip.specs.declared.slip.File.{File}
use Rattle.psy_slip.specs.declared.slip.File.TheVariants as files
use Rattle.psy_slip.specs.declared.sought.Sought.TheVariants.{NoValue}
use Rattle.psy_slip.specs.Searches.{has}
use Rattle.psy_slip.specs.Statements.{statement_of}
use Rattle.psy_text.specs.Lines.{is_none_of, is_skipped, lines_of}
use Rattle.psy_text.specs.Words.{is_number, is_value, words_of}

-- The first of these words begins with `//`, as a comment in a program.
abbrev pub is_slashed : List (List ℕ) → Bool
is_slashed [] = false
is_slashed (word ∷ words) = bytes_eq (take 2 word) (codes "//")

-- A line says something in one of these files: it is skipped in none.
abbrev pub says : List ℕ → Bool
says line = not (is_skipped line || is_slashed (words_of line))

-- The first line of a text that says something; an empty one where none does
abbrev pub first_said : List ℕ → List ℕ
first_said text = unwrap_or (find says (lines_of text)) []

-- A program begins with this word: with `tick`, or with a comment.
abbrev pub begins_program : List ℕ → Bool
begins_program word = bytes_eq word (codes "tick") || bytes_eq (take 2 word) (codes "/*")

-- The words with which a declaration other than `tick` begins
abbrev pub DECLARING : List (List ℕ)
DECLARING = codes "clock" ∷ codes "temporal" ∷ codes "input" ∷ codes "stream" ∷ codes "agent" ∷ codes "int" ∷ []

-- A declaration other than `tick` begins with this word.
abbrev pub begins_declaration : List ℕ → Bool
begins_declaration word = list_any (λ other. bytes_eq other word) DECLARING

-- Behind a name stands no number, as one does in the lines of agents and streams that psyc writes.
abbrev pub is_declared : List (List ℕ) → Bool
is_declared (name ∷ word ∷ more) = not (is_number word)
is_declared _ = false

-- Behind a date a line of a log has a name, and something behind that.
abbrev pub is_note : List (List ℕ) → Bool
is_note (name ∷ word ∷ more) = not (is_value name)
is_note _ = false

-- A file looks like one of a sort, by the words of its first line that says something: a program by how it begins or by a declaration, a script by a stall, an
-- order or a round, a log by a number and a name, and inputs by a name with values behind it.
abbrev pub is_like : Look → List (List ℕ) → Bool
is_like look [] = false
is_like Program (word ∷ words) = begins_program word || (begins_declaration word && is_declared words)
is_like Script (word ∷ words) = is_some (statement_of word)
is_like Inputs (word ∷ words) = not (begins_program word) && (not (is_none_of words) && not (has NoValue words))
is_like Log (word ∷ words) = is_number word && is_note words

-- The line at which a log comes to its summary begins so.
abbrev pub ends : List ℕ → Bool
ends line = bytes_eq (take 4 line) (codes "end ")

-- A text has that line.
abbrev pub has_end : List ℕ → Bool
has_end text = list_any ends (lines_of text)

-- The first of these sorts that it looks like; a log only where it has such an end
abbrev pub look_in : Bool → List (List ℕ) → Option Look
look_in ended words =
    if is_like Program words then Some Program
    else if is_like Script words then Some Script
    else if ended && is_like Log words then Some Log
    else if is_like Inputs words then Some Inputs
    else None

-- What a file of each sort looks like
abbrev pub look_of : File → Look
look_of files.Program = Program
look_of files.Inputs = Inputs
look_of files.Script = Script

-- How each is called
abbrev pub called : Look → List ℕ
called Program = told.PROGRAM.now
called Inputs = told.INPUTS.now
called Script = told.SCRIPT.now
called Log = told.LOG.now

-- What is told of a file that should look like one and looks like another
abbrev pub unlike : Look → Option Look → Option (List ℕ)
unlike wanted look = option_map (λ l. fill told.UNLIKE.now (called l ∷ called wanted ∷ [])) look

-- The same by the words of its first line that says something, and whether it has the end of a log, where it doesn't look like one of its sort
abbrev pub look_told : File → Bool → List (List ℕ) → Option (List ℕ)
look_told wanted ended words = if is_like (look_of wanted) words then None else unlike (look_of wanted) (look_in ended words)

-- A text begins with the three bytes of a byte order mark.
abbrev pub is_marked : List ℕ → Bool
is_marked text = bytes_eq (take 3 text) (0xEF ∷ 0xBB ∷ 0xBF ∷ [])

-- What is told of the whole of a file that should be of this sort: that a byte order mark stands in front, or that it looks like one of another sort
abbrev pub file_hint : File → List ℕ → List ℕ
file_hint wanted text = if is_marked text then hint (Some told.MARKED.now) else hint (look_told wanted (has_end text) (words_of (first_said text)))

-- A text looks like a program: it has no more bytes than one may have, and begins so.
abbrev pub is_program : List ℕ → Bool
is_program text = nat_le (length text) FILE_BYTES && is_like Program (words_of (first_said text))
