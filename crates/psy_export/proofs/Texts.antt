-- A text in memory, as the only file of a reel.
use Rattle.std.proofs.Common.{◌≡◌, ◌≢◌, ◌∙◌, sym, refl, subst, ℕ, List, Option, Some, None, arith}
use Rattle.psy_door.specs.Faults.{Rose}
use Rattle.psy_door.specs.Files.{Files}
use Rattle.psy_log.specs.declared.note.Note.{Note}
use Rattle.psy_notes.specs.Stands.{run_begins}
use Rattle.psy_notes.specs.Texts.{IsText, text_of}
use Rattle.psy_passes.specs.Listing.{first_unlisted}
use Rattle.psy_passes.specs.Logs.{IsLog}
use Rattle.psy_passes.specs.Outcomes.{IsFileText, IsOfText}
use Rattle.psy_passes.specs.Runs.{IsRun}
use Rattle.psy_passes.specs.declared.fault.PassFault.{PassFault}
use Rattle.psy_passes.specs.declared.fault.PassFault.TheVariants as fault
use Rattle.psy_reel.specs.States.{TextReelState, file_of}
use Rattle.psy_reel.proofs.lemmas.OneFile.{own}

module _ (reel : TextReelState) where
  -- What is read under its name is the text.
  read_is : (bytes : List ℕ) → IsFileText (Some (file_of reel)) reel.name bytes → bytes ≡ reel.text
  read_is bytes told = sym told ∙ own reel.name reel.text

  -- What holds of a file that is read so holds of the text.
  pub of_text : (holds : List ℕ → Type 0) → ((bytes : List ℕ) × IsFileText (Some (file_of reel)) reel.name bytes × holds bytes) → holds reel.text
  of_text holds found = subst holds (read_is found.0 found.1) found.2

  pub log_of : (notes : List Note) → IsRun (Some (file_of reel)) reel.name notes → IsLog (text_of notes) notes → IsLog reel.text notes
  log_of notes run log = subst (λ text. IsLog text notes) (read_is (text_of notes) run.told) log

  pub unlisted_of : (line : ℕ) → ((notes : List Note) × IsRun (Some (file_of reel)) reel.name notes × (first_unlisted notes ≡ Some line))
      → (notes : List Note) × IsText run_begins reel.text notes × (first_unlisted notes ≡ Some line)
  unlisted_of line found = (found.0, subst (λ text. IsText run_begins text found.0) (read_is (text_of found.0) found.1.told) found.1.read, found.2)

-- No call of such a reel fails, and its file is told.
pub only_of_text : (files : Files) (why : PassFault) → (why ≡ fault.Unread → Rose 0 0) → (why ≡ fault.Changed → ◌≡◌ {A = Option Files} (Some files) None)
    → why ≢ fault.Unwritten → IsOfText why
only_of_text files (fault.Line line) unread changed unwritten = tt
only_of_text files (fault.Unlisted line) unread changed unwritten = tt
only_of_text files fault.Many unread changed unwritten = tt
only_of_text files fault.Memory unread changed unwritten = tt
only_of_text files fault.Unread unread changed unwritten = absurd (omega (arith, unread refl))
only_of_text files fault.Changed unread changed unwritten = let never = changed refl in cc never
only_of_text files fault.Unwritten unread changed unwritten = absurd (unwritten refl)
