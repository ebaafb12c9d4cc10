-- What came of drawing the run in a file that is read piece by piece. The counts of faults are those of the reel before and after.
use Rattle.std.specs.Prelude.{◌≡◌, ℕ, List, Option, None, Some}
use Rattle.std.specs.List.{slice_get}
use Rattle.psy_door.specs.Faults.{Rose}
use Rattle.psy_door.specs.Files.{Files}
use Rattle.psy_draw.specs.declared.window.Window.{Window}
use Rattle.psy_export.specs.Ending.{IsSaidOf}
use Rattle.psy_export.specs.Refusals.{unread_line}
use Rattle.psy_film.specs.Films.{IsFilm, IsRunBy}
use Rattle.psy_film.specs.Sources.{foreign_by}
use Rattle.psy_film.specs.declared.fault.FilmFault.{FilmFault}
use Rattle.psy_film.specs.declared.fault.FilmFault.TheVariants as fault
use Rattle.psy_film.specs.declared.source.Source.{Source}
use Rattle.psy_log.specs.declared.note.Note.{Note}
use Rattle.psy_passes.specs.Runs.{IsRun}
use Rattle.psy_view.specs.Answer.{IsNoRunIn}
use Rattle.psy_view.specs.Refusals.{empty_line, foreign_line, unknown_line}
use Rattle.psy_view.specs.Views.{IsUnshown}

-- What is said of a fault
abbrev pub SaysOf : List ℕ → List ℕ → Window → List (List ℕ) → FilmFault → ℕ → List ℕ → Type 0
SaysOf name program window names (fault.Run why) status text = IsSaidOf name why status text
SaysOf name program window names (fault.Foreign line) status text = (status ≡ 1) × (text ≡ foreign_line name line program)
SaysOf name program window names (fault.Unknown place) status text =
    (asked : List ℕ) × (slice_get names place ≡ Some asked) × (status ≡ 1) × (text ≡ unknown_line name asked)
SaysOf name program window names fault.Empty status text = (status ≡ 1) × (text ≡ empty_line name window.from window.to)

-- Why there is no run of the program in that file, where one is given: a line isn't of the program, or there is no run
pub data IsMismatch (files : Option Files) (before after : ℕ) (name program : List ℕ) (source : Option Source) : ℕ → List ℕ → Type 0 where
  is_other : (notes : List Note) (line : ℕ) → IsRun files name notes → foreign_by source notes ≡ Some line
      → IsMismatch files before after name program source 1 (foreign_line name line program)
  is_no_run : (told : List ℕ) → IsNoRunIn files name told → IsMismatch files before after name program source 1 told
  is_unread : Rose before after → IsMismatch files before after name program source 3 (unread_line name)
  is_changed : files ≡ None → IsMismatch files before after name program source 3 (unread_line name)

-- What came of it, by the program in that file and by inputs, where they are given: the picture; why there is no picture; or why there is no such run
pub data IsFilmed (files : Option Files) (before after : ℕ) (name program : List ℕ) (window : Window) (names : List (List ℕ)) (source : Option Source)
    : ℕ → List ℕ → Type 0 where
  film_drawn : (svg : List ℕ) → IsFilm files name window source names svg → IsFilmed files before after name program window names source 0 svg
  film_unshown : (notes : List Note) (told : List ℕ) → IsRunBy files name source notes → IsUnshown name window names notes told
      → IsFilmed files before after name program window names source 1 told
  film_mismatched : (status : ℕ) (text : List ℕ) → IsMismatch files before after name program source status text
      → IsFilmed files before after name program window names source status text
