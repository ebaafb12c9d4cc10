-- What is kept of a run while it is read.
use Rattle.std.specs.Prelude.{◌≡◌, ◌≢◌, ◌⊎◌, ℕ, ◌+◌, ◌≤◌, IsFalse, List, [], ◌++◌, Option, length}
use Rattle.psy_door.specs.Growth.{Grew, GrewByFront}
use Rattle.psy_log.specs.declared.note.Note.{Note}
use Rattle.psy_notes.specs.Stands.{may_end, run_begins}
use Rattle.psy_notes.specs.Texts.{Leads}
use Rattle.psy_passes.specs.declared.scan_fault.ScanFault.{ScanFault}
use Rattle.psy_passes.specs.declared.scan_fault.ScanFault.TheVariants as fault
use Rattle.psy_passes.specs.declared.progress.Progress.{Progress}
use Rattle.psy_passes.specs.declared.reading.TheConstants.{LINES}
use Rattle.psy_passes.specs.Runs.{tail_of}
use Rattle.psy_passes.specs.Telling.{Told}

-- What is kept stands for these notes, of which that text was told, all of it written but what waits.
pub record StandsFor {T : Type 0} (tells : T → Note → List ℕ → T → Type 0) (old : T) (held now_held : Option (List ℕ)) (notes : List Note)
    (text : List ℕ) (now : T) (kept : Progress) : Type 0 where
  pub leads : Leads run_begins notes kept.stand
  pub lines : kept.lines ≡ length notes
  pub few : length notes ≤ LINES
  pub told : Told tells old notes text now
  pub tail : kept.tail.items ≡ tail_of notes
  pub written : (before : List ℕ) × Grew held now_held before × (text ≡ before ++ kept.text.items)

-- Why a note isn't taken
abbrev pub IsUntaken : {T : Type 0} → (T → Note → Type 0) → T → Note → ℕ → ScanFault → Type 0
IsUntaken refuses now note lines (fault.Refused line) = refuses now note × (line ≡ lines + 1)
IsUntaken refuses now note lines fault.Memory = Unit {0}
IsUntaken refuses now note lines other = ⊥

-- Some of what waits was written: what is kept is else the same.
pub record WritesOn (before now : Option (List ℕ)) (kept then_kept : Progress) : Type 0 where
  pub stand : then_kept.stand ≡ kept.stand
  pub lines : then_kept.lines ≡ kept.lines
  pub tail : then_kept.tail ≡ kept.tail
  pub text : (piece : List ℕ) × Grew before now piece × (kept.text.items ≡ piece ++ then_kept.text.items)

-- What is kept isn't the whole run: bytes are left or the text may not end there; or what waits couldn't be written, but a front of it.
abbrev pub IsUnfinished : Option (List ℕ) → Option (List ℕ) → List ℕ → Progress → ScanFault → Type 0
IsUnfinished before now left kept (fault.Line line) = ((left ≢ []) ⊎ IsFalse (may_end kept.stand)) × (line ≡ kept.lines + 1) × Grew before now []
IsUnfinished before now left kept fault.Unwritten = GrewByFront before now kept.text.items
IsUnfinished before now left kept other = ⊥
