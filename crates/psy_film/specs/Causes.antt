-- Why no picture is drawn of the run in a file. The counts of faults are those of the reel before and after.
use Rattle.std.specs.Prelude.{◌≡◌, ◌<◌, ℕ, List, Option, None, Some}
use Rattle.psy_door.specs.Faults.{Rose}
use Rattle.psy_door.specs.Files.{Files}
use Rattle.psy_log.specs.declared.note.Note.{Note}
use Rattle.psy_notes.specs.Stands.{run_begins}
use Rattle.psy_notes.specs.Texts.{BreaksAt}
use Rattle.psy_passes.specs.Runs.{IsRun}
use Rattle.psy_passes.specs.Outcomes.{IsFileText, IsMany}
use Rattle.psy_passes.specs.declared.fault.PassFault.{PassFault}
use Rattle.psy_passes.specs.declared.fault.PassFault.TheVariants as pass
use Rattle.psy_draw.specs.Dates.{last_date}
use Rattle.psy_draw.specs.Listing.{first_unasked, first_unlisted}
use Rattle.psy_draw.specs.Places.{window_end}
use Rattle.psy_draw.specs.declared.window.Window.{Window}
use Rattle.psy_film.specs.Films.{IsRunBy}
use Rattle.psy_film.specs.Sources.{foreign_by}
use Rattle.psy_film.specs.declared.fault.FilmFault.{FilmFault}
use Rattle.psy_film.specs.declared.fault.FilmFault.TheVariants as fault
use Rattle.psy_film.specs.declared.source.Source.{Source}

-- Why a log isn't read again: it can't be read, it isn't what it was, which happens to no file that is told, or memory ran out
abbrev pub IsLate : Option Files → ℕ → ℕ → PassFault → Type 0
IsLate files before after pass.Unread = Rose before after
IsLate files before after pass.Changed = (files ≡ None) × (after ≡ before)
IsLate files before after pass.Memory = after ≡ before
IsLate files before after other = ⊥

-- Why a file isn't read as a run: from a line on it isn't what `psyc run` writes, it has too many lines, or it can't be read to its end each time
abbrev pub IsNoRun : Option Files → List ℕ → ℕ → ℕ → PassFault → Type 0
IsNoRun files name before after (pass.Line line) = (bytes : List ℕ) × IsFileText files name bytes × BreaksAt run_begins bytes line × (after ≡ before)
IsNoRun files name before after pass.Many = (bytes : List ℕ) × IsFileText files name bytes × IsMany bytes × (after ≡ before)
IsNoRun files name before after late = IsLate files before after late

-- Why it isn't read as a log of the program: so; or its summary doesn't list a name
abbrev pub IsUnread : Option Files → List ℕ → Option Source → ℕ → ℕ → PassFault → Type 0
IsUnread files name source before after (pass.Unlisted line) =
    (notes : List Note) × IsRunBy files name source notes × (first_unlisted notes ≡ Some line) × (after ≡ before)
IsUnread files name source before after other = IsNoRun files name before after other

-- Why it isn't the run of a program: so; or a line isn't of that
abbrev pub IsOther : Option Files → List ℕ → Option Source → ℕ → ℕ → FilmFault → Type 0
IsOther files name source before after (fault.Run why) = IsNoRun files name before after why
IsOther files name source before after (fault.Foreign line) =
    (notes : List Note) × IsRun files name notes × (foreign_by source notes ≡ Some line) × (after ≡ before)
IsOther files name source before after other = ⊥

-- Why a run isn't a log of the program: it isn't read again, it isn't of that, or its summary doesn't list a name
abbrev pub IsCheckFault : Option Files → List ℕ → Option Source → ℕ → ℕ → FilmFault → Type 0
IsCheckFault files name source before after (fault.Run why) = IsUnread files name source before after why
IsCheckFault files name source before after (fault.Foreign line) = IsOther files name source before after (fault.Foreign line)
IsCheckFault files name source before after other = ⊥

-- Why no picture is drawn: so; its summary doesn't list a name, of those in it or of those that were asked for; or the window is empty
abbrev pub IsCause : Option Files → List ℕ → Window → Option Source → List (List ℕ) → ℕ → ℕ → FilmFault → Type 0
IsCause files name window source names before after (fault.Run why) = IsUnread files name source before after why
IsCause files name window source names before after (fault.Foreign line) = IsOther files name source before after (fault.Foreign line)
IsCause files name window source names before after (fault.Unknown place) =
    (notes : List Note) × IsRunBy files name source notes × (first_unlisted notes ≡ None) × (first_unasked notes names ≡ Some place) × (after ≡ before)
IsCause files name window source names before after fault.Empty =
    (notes : List Note) × IsRunBy files name source notes × (first_unlisted notes ≡ None) × (first_unasked notes names ≡ None)
    × (window_end window (last_date notes) < window.from) × (after ≡ before)
