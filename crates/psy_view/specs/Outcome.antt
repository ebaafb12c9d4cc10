-- How a call of the top ends. The counts of faults are those of the shelf and of the sink before and after it.
use Rattle.std.specs.Prelude.{◌≡◌, ℕ, false, true, List, [], ◌∷◌, Option, None}
use Rattle.psy_door.specs.Faults.{Rose}
use Rattle.psy_door.specs.Files.{Files}
use Rattle.psy_door.specs.Growth.{Grew, GrewByFront}
use Rattle.psy_export.specs.Ending.{Ends, IsUnreadable, Says}
use Rattle.psy_export.specs.Exports.{IsExportFront}
use Rattle.psy_export.specs.declared.forms.Format.{Format}
use Rattle.psy_view.specs.Answer.{Answers, IsExport, IsLongTimeline}
use Rattle.psy_view.specs.Asked.{File, Request, Asks, files_of, of_run}
use Rattle.psy_view.specs.Fetching.{AreTexts, ComeTo, IsLong, IsTextOf}
use Rattle.psy_view.specs.Reading.{request_of_export}
use Rattle.psy_export.specs.Refusals.{unread_line}
use Rattle.psy_view.specs.Refusals.{long_line}
use Rattle.psy_view.specs.Views.{ViewOf}

-- What is told where a picture is asked for of the run in the file of this name, which is longer than is read together: what is told of the run; or that the
-- file couldn't be read again, or changed since it was read, which happens to no file that is told
pub data IsToldOf (files : Option Files) (before after : ℕ) (request : Request) (name : List ℕ) (texts : List (List ℕ)) : ℕ → List ℕ → Type 0 where
  told_of_run : (status : ℕ) (text : List ℕ) → IsLongTimeline files request texts status text → IsToldOf files before after request name texts status text
  unread_now : Rose before after → IsToldOf files before after request name texts 3 (unread_line name)
  changed : files ≡ None → IsToldOf files before after request name texts 3 (unread_line name)

-- The status and the text that reply to a request: those of its view; the line of the first file that couldn't be read or is too long; or what is told of the
-- run in a file longer than is read together
pub data Replies (files : Option Files) (before after : ℕ) (request : Request) : ℕ → List ℕ → Type 0 where
  viewed_all : (texts : List (List ℕ)) (status : ℕ) (text : List ℕ) → AreTexts files (files_of request) texts → ViewOf request texts status text
      → Replies files before after request status text
  missed : (file : File) → ComeTo files (files_of request) file → Rose before after → Replies files before after request 3 (unread_line file.name)
  stopped_at : (file : File) → ComeTo files (files_of request) file → file.in_pieces ≡ false → IsLong files file
      → Replies files before after request 1 (long_line file.name file.most)
  of_long_run : (name : List ℕ) (others : List File) (texts : List (List ℕ)) (status : ℕ) (text : List ℕ) → files_of request ≡ of_run name ∷ others
      → IsLong files (of_run name) → AreTexts files others texts → IsToldOf files before after request name texts status text
      → Replies files before after request status text

-- A status and a text that may answer the words: the defined ones, or the line of the file that couldn't be read, or that changed since it was read, which
-- happens to no file that is told
pub data MayAnswer (words : List (List ℕ)) (files : Option Files) (before after : ℕ) : ℕ → List ℕ → Type 0 where
  may_answer : (status : ℕ) (text : List ℕ) → Answers words files status text → MayAnswer words files before after status text
  may_miss : (request : Request) (file : File) → Asks words request → ComeTo files (files_of request) file → Rose before after
      → MayAnswer words files before after 3 (unread_line file.name)
  may_change : (request : Request) (file : File) → Asks words request → ComeTo files (files_of request) file → file.in_pieces ≡ true → IsLong files file
      → files ≡ None → MayAnswer words files before after 3 (unread_line file.name)

-- A text of which a front may stand where the run in a file longer than is read together couldn't be written in another form to its end
abbrev pub IsBegun : List (List ℕ) → Option Files → List ℕ → Type 0
IsBegun words files text =
    (request : Request) × (name : List ℕ) × (to : Format) × Asks words request × IsExport request name to × IsLong files (of_run name)
    × IsExportFront to files name text

-- How it ends that the file of a request couldn't be read: the line that says so was written; or the file of a run was read before and couldn't be read
-- again, or not as it was, and then a front of the run in another form may stand instead
pub data EndsUnread (files : Option Files) (before after : ℕ) (old now : Option (List ℕ)) (request : Request) (file : File) : Type 0 where
  unread_first : Rose before after → Grew old now (unread_line file.name) → EndsUnread files before after old now request file
  unread_again : file.in_pieces ≡ true → IsLong files file → IsUnreadable files before after → Grew old now (unread_line file.name)
      → EndsUnread files before after old now request file
  unread_late : (to : Format) (text : List ℕ) → IsExport request file.name to → IsLong files file → IsUnreadable files before after
      → IsExportFront to files file.name text → GrewByFront old now text → EndsUnread files before after old now request file

-- How a run in another form ends: as what is told of a file that is read together, or that can't be read; or as an export
pub data EndsExport (files : Option Files) (name : List ℕ) (to : Format) (before after sink_before sink_after : ℕ) (old now : Option (List ℕ))
    (answer : ℕ) : Type 0 where
  of_text : (bytes : List ℕ) (status : ℕ) (text : List ℕ) → IsTextOf files (of_run name) bytes → ViewOf (request_of_export name to) (bytes ∷ []) status text
      → Says old now sink_before sink_after answer status text
      → EndsExport files name to before after sink_before sink_after old now answer
  of_none : Rose before after → Says old now sink_before sink_after answer 3 (unread_line name)
      → EndsExport files name to before after sink_before sink_after old now answer
  of_long : IsLong files (of_run name) → Ends files name to before after sink_before sink_after old now answer
      → EndsExport files name to before after sink_before sink_after old now answer
  no_room : answer ≡ 8 → Grew old now [] → EndsExport files name to before after sink_before sink_after old now answer
