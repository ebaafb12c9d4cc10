-- How an export ends, by what was said and written.
use Rattle.std.proofs.Common.{◌≡◌, ◌≢◌, inl, inr, refl, sym, subst, ℕ, List, [], Option, Some, None}
use Rattle.psy_door.specs.Faults.{Rose}
use Rattle.psy_door.specs.Files.{Files}
use Rattle.psy_door.specs.Growth.{Grew, GrewByFront}
use Rattle.psy_log.specs.declared.note.Note.{Note}
use Rattle.psy_notes.specs.Stands.{run_begins}
use Rattle.psy_notes.specs.Texts.{BreaksAt, text_of}
use Rattle.psy_passes.specs.Listing.{first_unlisted}
use Rattle.psy_passes.specs.Logs.{IsLog}
use Rattle.psy_passes.specs.Runs.{IsRun}
use Rattle.psy_passes.proofs.lemmas.Growth.{front_nothing}
use Rattle.psy_passes.specs.Outcomes.{IsFileText, IsMany, IsOfTelling}
use Rattle.psy_passes.specs.declared.fault.PassFault.{PassFault}
use Rattle.psy_passes.specs.declared.fault.PassFault.TheVariants as fault
use Rattle.psy_export.specs.declared.forms.Format.{Format}
use Rattle.psy_export.specs.declared.forms.Format.TheVariants as format
use Rattle.psy_export.specs.Ending.{Ends, IsSaidOf, IsUnreadable, Refuses, Says, answered, cut_short, left_off, may_answer, may_begin, may_miss, no_memory, status_of, unread}
use Rattle.psy_export.specs.Exports.{Exports, IsExportFront, export_of, has_many, has_unlisted, no_run, of_log}
use Rattle.psy_export.specs.Refusals.{unread_line}

-- Nothing is the front of any export.
pub nothing_front : (to : Format) (files : Option Files) (name : List ℕ) → IsExportFront to files name []
nothing_front format.Table files name = inl refl
nothing_front format.Dump files name = inl refl

module _ (files : Option Files) (name : List ℕ) (to : Format) (before after sink_before sink_after : ℕ) (old now : Option (List ℕ)) where
  -- How it ends, with this status
  abbrev Ending : ℕ → Type 0
  Ending = Ends files name to before after sink_before sink_after old now

  -- The answer is said.
  pub said_answer : (result status : ℕ) (text : List ℕ) → Exports files name to status text → Says old now sink_before sink_after result status text → Ending result
  said_answer result status text exports (inl said) = subst Ending (sym said.0) (answered status text exports said.1 said.2)
  said_answer result status text exports (inr failed) = subst Ending (sym failed.0) (cut_short text (may_answer status text exports) failed.2 failed.1)

  -- That the file can't be read is said.
  pub said_unread : (result : ℕ) → IsUnreadable files before after → Says old now sink_before sink_after result 3 (unread_line name) → Ending result
  said_unread result unreadable (inl said) = subst Ending (sym said.0) (unread unreadable said.1 said.2)
  said_unread result unreadable (inr failed) = subst Ending (sym failed.0) (cut_short (unread_line name) (may_miss unreadable) failed.2 failed.1)

  -- What is said of a text and a status that are known
  as_known : (result status : ℕ) (text : List ℕ) (known : ℕ) (line : List ℕ) → status ≡ known → text ≡ line → Says old now sink_before sink_after result status text
      → Says old now sink_before sink_after result known line
  as_known result status text known line is same says =
      subst (λ t. Says old now sink_before sink_after result known t) same (subst (λ k. Says old now sink_before sink_after result k text) is says)

  -- What the passes over a long file found
  pub record Found (why : PassFault) : Type 0 where
    pub at_line : (line : ℕ) → why ≡ fault.Line line → (text : List ℕ) × IsFileText files name text × BreaksAt run_begins text line
    pub other_name : (line : ℕ) → why ≡ fault.Unlisted line → (notes : List Note) × IsRun files name notes × (first_unlisted notes ≡ Some line)
    pub too_many : why ≡ fault.Many → (text : List ℕ) × IsFileText files name text × IsMany text
    pub other_file : why ≡ fault.Changed → files ≡ None
    pub failed : why ≡ fault.Unread → Rose before after

  refused_by : (why : PassFault) (result status : ℕ) (text : List ℕ) → Found why → IsSaidOf name why status text
      → Says old now sink_before sink_after result status text → Ending result
  refused_by (fault.Line line) result status text found is says =
      let broken = found.at_line line refl in
      said_answer result 1 _ (no_run broken.0 line broken.1 broken.2) (as_known result status text 1 _ is.0 is.1 says)
  refused_by (fault.Unlisted line) result status text found is says =
      let other = found.other_name line refl in
      said_answer result 1 _ (has_unlisted (text_of other.0) other.0 line other.1.told other.1.read other.2) (as_known result status text 1 _ is.0 is.1 says)
  refused_by fault.Many result status text found is says =
      let many = found.too_many refl in said_answer result 1 _ (has_many many.0 many.1 many.2) (as_known result status text 1 _ is.0 is.1 says)
  refused_by fault.Unread result status text found is says =
      said_unread result (inl (found.failed refl)) (as_known result status text 3 _ is.0 is.1 says)
  refused_by fault.Changed result status text found is says =
      said_unread result (inr (found.other_file refl)) (as_known result status text 3 _ is.0 is.1 says)
  refused_by fault.Unwritten result status text found is says = absurd is
  refused_by fault.Memory result status text found is says = absurd is

  -- Why nothing is exported is said, unless memory ran out.
  pub refused : (why : PassFault) (result : ℕ) → Found why → Refuses name why sink_before sink_after old now result → Ending result
  refused why result found (inl said) = refused_by why result said.0 said.1 found said.2 said.3
  refused why result found (inr none) =
      subst Ending (sym none.0) (no_memory [] (nothing_front to files name) (subst (λ held. GrewByFront old held []) (sym none.1) (front_nothing old [])) none.2)

  -- A log couldn't be written to its end.
  -- A log was written to its end.
  pub written : ((notes : List Note) × IsRun files name notes × IsLog (text_of notes) notes × Grew old now (export_of to notes)) → sink_after ≡ sink_before → Ending 0
  written done same = answered 0 (export_of to done.0) (of_log (text_of done.0) done.0 done.1.told done.2) done.3 same

  pub ended_early : (why : PassFault) → IsOfTelling why → (why ≡ fault.Unread → Rose before after) → (why ≡ fault.Changed → files ≡ None)
      → (why ≡ fault.Unwritten → Rose sink_before sink_after) → (why ≢ fault.Unwritten → sink_after ≡ sink_before)
      → ((text : List ℕ) × IsExportFront to files name text × GrewByFront old now text) → Ending (status_of why)
  ended_early fault.Unread only failed other_file cut writable front = left_off front.0 (inl (failed refl)) front.1 front.2 (writable (λ is. cc))
  ended_early fault.Changed only failed other_file cut writable front = left_off front.0 (inr (other_file refl)) front.1 front.2 (writable (λ is. cc))
  ended_early fault.Unwritten only failed other_file cut writable front = cut_short front.0 (may_begin front.0 front.1) front.2 (cut refl)
  ended_early fault.Memory only failed other_file cut writable front = no_memory front.0 front.1 front.2 (writable (λ is. cc))
  ended_early (fault.Line line) only failed other_file cut writable front = absurd only
  ended_early (fault.Unlisted line) only failed other_file cut writable front = absurd only
  ended_early fault.Many only failed other_file cut writable front = absurd only
