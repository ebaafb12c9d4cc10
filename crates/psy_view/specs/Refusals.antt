-- The lines that are written where a text can't be viewed. Names stand in them as they are shown on a screen.
use Rattle.std.specs.Prelude.{ℕ, if◌then◌else◌, List, [], ◌++◌, codes, decimal}
use Rattle.psy_claims.specs.declared.fault.Slip.{Slip}
use Rattle.psy_claims.specs.declared.fault.Slip.TheVariants.{Form, Dates, Name}
use Rattle.psy_export.specs.Refusals.{more_line}
use Rattle.psy_show.specs.Lines.{shown}
use Rattle.psy_slip.specs.Looks.{is_program}

-- It has more bytes than it may have
abbrev pub long_line : List ℕ → ℕ → List ℕ
long_line name most = more_line name most (codes "bytes")

-- What stands behind the name is no line that psyc writes
abbrev pub no_refusal_line : List ℕ → List ℕ
no_refusal_line name = shown name ++ codes ": what is told of this file is no line that psyc writes\n"

-- The text has no such byte, token or line
abbrev pub beyond_line : List ℕ → List ℕ
beyond_line name = shown name ++ codes ": this file has no such place\n"

-- From this line on a text isn't what that command of psyc writes
abbrev pub broken_line : List ℕ → ℕ → List ℕ → List ℕ
broken_line name line command = shown name ++ codes ":" ++ decimal line ++ codes ": from this line on this isn't what `psyc " ++ command ++ codes "` writes\n"

-- A text looks like a program, and what that command of psyc writes of it was asked for
abbrev pub program_line : List ℕ → List ℕ
program_line command = codes "hint: this file looks like a program: give what `psyc " ++ command ++ codes "` writes of it\n"

-- The same, where it looks like one
abbrev pub program_told : List ℕ → List ℕ → List ℕ
program_told command text = if is_program text then program_line command else []

-- The line of a text that isn't what that command of psyc writes, and behind it what the text looks like
abbrev pub broken_text : List ℕ → ℕ → List ℕ → List ℕ → List ℕ
broken_text name line command text = broken_line name line command ++ program_told command text

-- The summary of a log doesn't list this name, for which was asked
abbrev pub unknown_line : List ℕ → List ℕ → List ℕ
unknown_line name asked = shown asked ++ codes ": the summary of " ++ shown name ++ codes " doesn't list this name\n"

-- No date of a run lies from the first of these to the second
abbrev pub empty_line : List ℕ → ℕ → ℕ → List ℕ
empty_line name from to = shown name ++ codes ": no date of this run lies from " ++ decimal from ++ codes " to " ++ decimal to ++ codes "\n"

-- This line of what psyc wrote isn't of the program in that file
abbrev pub foreign_line : List ℕ → ℕ → List ℕ → List ℕ
foreign_line name line program = shown name ++ codes ":" ++ decimal line ++ codes ": this isn't of the program in " ++ shown program ++ codes "\n"

-- What is wrong with a line of assertions
abbrev pub slip_text : Slip → List ℕ
slip_text Form = codes "this line is no assertion"
slip_text Dates = codes "the last date lies below the first"
slip_text Name = codes "the summary of the log doesn't list this name"

-- This line of a file of assertions is wrong
abbrev pub wrong_line : List ℕ → ℕ → Slip → List ℕ
wrong_line name line slip = shown name ++ codes ":" ++ decimal line ++ codes ": " ++ slip_text slip ++ codes "\n"
