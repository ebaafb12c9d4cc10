-- What a fault of a file that was read before says.
use Rattle.std.proofs.Common.{◌≡◌, refl, ℕ, List, Option, None}
use Rattle.psy_door.specs.Files.{Files}
use Rattle.psy_log.specs.declared.note.Note.{Note}
use Rattle.psy_notes.specs.Texts.{text_of}
use Rattle.psy_passes.specs.Logs.{IsLog}
use Rattle.psy_passes.specs.declared.scan_fault.ScanFault.{ScanFault}
use Rattle.psy_passes.specs.declared.scan_fault.ScanFault.TheVariants as scan
use Rattle.psy_passes.specs.Runs.{IsRun, tail_of}
use Rattle.psy_passes.specs.declared.fault.PassFault.TheVariants as fault
use Rattle.psy_passes.specs.declared.strict.Strict.{Strict}
use Rattle.psy_passes.specs.NameChecks.{AreNamesOf, RefusesOther, TellsListed}
use Rattle.psy_passes.specs.Outcomes.{IsOfNames, IsOfTelling, since}
use Rattle.psy_passes.proofs.Surveyed.{ChangedSince, FoundUnlisted, HaltsAt, changed_line, changed_many, changed_name, unrefused}
use Rattle.psy_passes.proofs.Twice.{NotBoth, OneFront}

pub not_unlisted : (why : ScanFault) (line : ℕ) → since why ≡ fault.Unlisted line → ⊥
not_unlisted (scan.Line at) line is = cc
not_unlisted scan.Many line is = cc
not_unlisted (scan.Refused at) line is = cc
not_unlisted scan.Unread line is = cc
not_unlisted scan.Unwritten line is = cc
not_unlisted scan.Memory line is = cc

pub unread_is : (why : ScanFault) → since why ≡ fault.Unread → why ≡ scan.Unread
unread_is (scan.Line at) is = cc
unread_is scan.Many is = cc
unread_is (scan.Refused at) is = cc
unread_is scan.Unread is = refl
unread_is scan.Unwritten is = cc
unread_is scan.Memory is = cc

pub unwritten_is : (why : ScanFault) → since why ≡ fault.Unwritten → why ≡ scan.Unwritten
unwritten_is (scan.Line at) is = cc
unwritten_is scan.Many is = cc
unwritten_is (scan.Refused at) is = cc
unwritten_is scan.Unread is = cc
unwritten_is scan.Unwritten is = refl
unwritten_is scan.Memory is = cc

pub names_only : (why : ScanFault) → (why ≡ scan.Unwritten → ⊥) → IsOfNames (since why)
names_only (scan.Line at) writes = tt
names_only scan.Many writes = tt
names_only (scan.Refused at) writes = tt
names_only scan.Unread writes = tt
names_only scan.Unwritten writes = writes refl
names_only scan.Memory writes = tt

pub telling_only : (why : ScanFault) → IsOfTelling (since why)
telling_only (scan.Line at) = tt
telling_only scan.Many = tt
telling_only (scan.Refused at) = tt
telling_only scan.Unread = tt
telling_only scan.Unwritten = tt
telling_only scan.Memory = tt

-- The pass for names stopped where the file isn't as it was.
module _ {T : Type 0} (tells : T → Note → List ℕ → T → Type 0) (refuses : T → Note → Type 0) (old : T) (a b : Option (List ℕ)) (files : Option Files) (name tail : List ℕ) where
  pub halted_changed : NotBoth → OneFront → ((state : T) (note : Note) → refuses state note → ⊥) → (why : ScanFault) → HaltsAt tells refuses old a b files name why
      → since why ≡ fault.Changed → ChangedSince files name tail
  halted_changed not_both front none (scan.Line line) halts is = changed_line tells refuses old a b files name tail not_both line halts
  halted_changed not_both front none scan.Many halts is = changed_many tells refuses old a b files name tail front halts
  halted_changed not_both front none (scan.Refused line) halts is = unrefused tells refuses old a b files name tail none line halts
  halted_changed not_both front none scan.Unread halts is = cc
  halted_changed not_both front none scan.Unwritten halts is = cc
  halted_changed not_both front none scan.Memory halts is = cc

-- So did the last pass.
module _ {T : Type 0} (tells : T → Note → List ℕ → T → Type 0) (refuses : T → Note → Type 0) (teller : Strict T) (a b : Option (List ℕ)) (files : Option Files) (name tail : List ℕ) where
  pub halted_since : NotBoth → OneFront → FoundUnlisted → (why : ScanFault) → AreNamesOf teller.listed tail
      → HaltsAt (TellsListed tells) (RefusesOther refuses) teller a b files name why → since why ≡ fault.Changed
      → ((state : T) (note : Note) → refuses state note → ⊥) → (before : List Note) → IsRun files name before → IsLog (text_of before) before → tail_of before ≡ tail
      → files ≡ None
  halted_since not_both front found (scan.Line line) names halts is none before run log was =
      changed_line (TellsListed tells) (RefusesOther refuses) teller a b files name tail not_both line halts before run was
  halted_since not_both front found scan.Many names halts is none before run log was =
      changed_many (TellsListed tells) (RefusesOther refuses) teller a b files name tail front halts before run was
  halted_since not_both front found (scan.Refused line) names halts is none before run log was =
      changed_name tells refuses teller a b files name front found tail line names halts none before run log was
  halted_since not_both front found scan.Unread names halts is none before run log was = cc
  halted_since not_both front found scan.Unwritten names halts is none before run log was = cc
  halted_since not_both front found scan.Memory names halts is none before run log was = cc
