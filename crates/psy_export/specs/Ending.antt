-- How an export ends. The counts of faults are those of the reel and of the sink, before and after it.
use Rattle.std.specs.Prelude.{◌≡◌, ◌⊎◌, ℕ, List, Option, None}
use Rattle.psy_door.specs.Faults.{Rose}
use Rattle.psy_door.specs.Files.{Files}
use Rattle.psy_door.specs.Growth.{Grew, GrewByFront}
use Rattle.psy_passes.specs.declared.fault.PassFault.{PassFault}
use Rattle.psy_passes.specs.declared.fault.PassFault.TheVariants as fault
use Rattle.psy_export.specs.declared.forms.Format.{Format}
use Rattle.psy_export.specs.Exports.{Exports, IsExportFront}
use Rattle.psy_export.specs.Refusals.{broken_line, many_line, unlisted_line, unread_line}

-- The file couldn't be read; or not again as it was, which happens to no file that is told.
abbrev pub IsUnreadable : Option Files → ℕ → ℕ → Type 0
IsUnreadable files before after = Rose before after ⊎ (files ≡ None)

-- A text of which a front may stand where a write failed: the answer, the line that says that the file can't be read, or the front of a run
pub data MayStand (files : Option Files) (name : List ℕ) (to : Format) (before after : ℕ) : List ℕ → Type 0 where
  may_answer : (status : ℕ) (text : List ℕ) → Exports files name to status text → MayStand files name to before after text
  may_miss : IsUnreadable files before after → MayStand files name to before after (unread_line name)
  may_begin : (text : List ℕ) → IsExportFront to files name text → MayStand files name to before after text

-- With which status it ends, and what it wrote
pub data Ends (files : Option Files) (name : List ℕ) (to : Format) (before after sink_before sink_after : ℕ) (old now : Option (List ℕ)) : ℕ → Type 0 where
  -- The answer was written.
  answered : (status : ℕ) (text : List ℕ) → Exports files name to status text → Grew old now text → sink_after ≡ sink_before
      → Ends files name to before after sink_before sink_after old now status
  -- The file couldn't be read before anything was written: the line that says so was.
  unread : IsUnreadable files before after → Grew old now (unread_line name) → sink_after ≡ sink_before
      → Ends files name to before after sink_before sink_after old now 3
  -- It couldn't be read to its end when its run was written: a front of that was.
  left_off : (text : List ℕ) → IsUnreadable files before after → IsExportFront to files name text → GrewByFront old now text → sink_after ≡ sink_before
      → Ends files name to before after sink_before sink_after old now 3
  -- A write failed: a front was written.
  cut_short : (text : List ℕ) → MayStand files name to before after text → GrewByFront old now text → Rose sink_before sink_after
      → Ends files name to before after sink_before sink_after old now 4
  -- Memory ran out: a front of the run may have been written.
  no_memory : (text : List ℕ) → IsExportFront to files name text → GrewByFront old now text → sink_after ≡ sink_before
      → Ends files name to before after sink_before sink_after old now 8

-- The status is that one and the text was added, or a write failed: then it is 4, and a front was added.
abbrev pub Says : Option (List ℕ) → Option (List ℕ) → ℕ → ℕ → ℕ → ℕ → List ℕ → Type 0
Says old now before after answer status text =
    ((answer ≡ status) × Grew old now text × (after ≡ before)) ⊎ ((answer ≡ 4) × Rose before after × GrewByFront old now text)

-- The status and the line for a fault of a file of which nothing was written
abbrev pub IsSaidOf : List ℕ → PassFault → ℕ → List ℕ → Type 0
IsSaidOf name (fault.Line line) status text = (status ≡ 1) × (text ≡ broken_line name line)
IsSaidOf name (fault.Unlisted line) status text = (status ≡ 1) × (text ≡ unlisted_line name line)
IsSaidOf name fault.Many status text = (status ≡ 1) × (text ≡ many_line name)
IsSaidOf name fault.Unread status text = (status ≡ 3) × (text ≡ unread_line name)
IsSaidOf name fault.Changed status text = (status ≡ 3) × (text ≡ unread_line name)
IsSaidOf name fault.Unwritten status text = ⊥
IsSaidOf name fault.Memory status text = ⊥

-- So it is said; or memory ran out before.
abbrev pub Refuses : List ℕ → PassFault → ℕ → ℕ → Option (List ℕ) → Option (List ℕ) → ℕ → Type 0
Refuses name why before after old now answer =
    ((status : ℕ) × (text : List ℕ) × IsSaidOf name why status text × Says old now before after answer status text)
    ⊎ ((answer ≡ 8) × (now ≡ old) × (after ≡ before))

-- The status where a log couldn't be written to its end
abbrev pub status_of : PassFault → ℕ
status_of fault.Unread = 3
status_of fault.Changed = 3
status_of fault.Unwritten = 4
status_of other = 8
