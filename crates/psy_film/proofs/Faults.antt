-- Why a run isn't read.
use Rattle.std.proofs.Common.{◌≡◌, ◌≢◌, ℕ, Bool, true, false, List, Option, None, Result, Ok, Err, refl, sym, ap, subst, ◌∙◌, arith}
use Rattle.std.proofs.lemmas.Bool.{false≢true}
use Rattle.psy_door.specs.Faults.{Rose}
use Rattle.psy_door.specs.Files.{Files}
use Rattle.psy_draw.specs.declared.window.Window.{Window}
use Rattle.psy_log.specs.declared.note.Note.{Note}
use Rattle.psy_passes.specs.Outcomes.{IsOfTelling}
use Rattle.psy_passes.specs.Runs.{IsRun}
use Rattle.psy_passes.specs.declared.fault.PassFault.{PassFault}
use Rattle.psy_passes.specs.declared.fault.PassFault.TheVariants as pass
use Rattle.psy_film.specs.Causes.{IsCause, IsCheckFault, IsLate, IsNoRun, IsUnread}
use Rattle.psy_film.specs.declared.fault.FilmFault.{FilmFault}
use Rattle.psy_film.specs.declared.fault.FilmFault.TheVariants as film
use Rattle.psy_film.specs.declared.source.Source.{Source}
use Rattle.psy_film.proofs.Readings.{NotBoth, OneFront, no_break, not_many}

is_unread : PassFault → Bool
is_unread pass.Unread = true
is_unread other = false

-- Another fault than that the file can't be read
other_fault : (fault : PassFault) → is_unread fault ≡ false → fault ≢ pass.Unread
unfolding is_unread
other_fault fault is unread = false≢true (sym is ∙ ap is_unread unread)

changed_is : pass.Changed ≢ pass.Unread
unfolding is_unread
changed_is = other_fault pass.Changed refl

memory_is : pass.Memory ≢ pass.Unread
unfolding is_unread
memory_is = other_fault pass.Memory refl

-- The fault of a later pass
pub late : (files : Option Files) (before after : ℕ) (fault : PassFault) → IsOfTelling fault → (fault ≡ pass.Changed → files ≡ None)
    → (fault ≡ pass.Unread → Rose before after) → (fault ≡ pass.Unwritten → Rose 0 0) → (fault ≢ pass.Unread → after ≡ before) → IsLate files before after fault
late files before after (pass.Line line) is changed unread unwritten same = absurd is
late files before after (pass.Unlisted line) is changed unread unwritten same = absurd is
late files before after pass.Many is changed unread unwritten same = absurd is
late files before after pass.Unread is changed unread unwritten same = unread refl
late files before after pass.Changed is changed unread unwritten same = (changed refl, same changed_is)
late files before after pass.Unwritten is changed unread unwritten same = let rose = unwritten refl in absurd (omega (arith, rose))
late files before after pass.Memory is changed unread unwritten same = same memory_is

-- That of no run is one of all.
pub of_no_run : (files : Option Files) (name : List ℕ) (source : Option Source) (before after : ℕ) (fault : PassFault) → IsNoRun files name before after fault
    → IsUnread files name source before after fault
of_no_run files name source before after (pass.Line line) is = is
of_no_run files name source before after (pass.Unlisted line) is = absurd is
of_no_run files name source before after pass.Many is = is
of_no_run files name source before after pass.Unread is = is
of_no_run files name source before after pass.Changed is = is
of_no_run files name source before after pass.Unwritten is = absurd is
of_no_run files name source before after pass.Memory is = is

-- So is a later pass's.
pub of_late : (files : Option Files) (name : List ℕ) (source : Option Source) (before after : ℕ) (fault : PassFault) → IsLate files before after fault
    → IsUnread files name source before after fault
of_late files name source before after (pass.Line line) is = absurd is
of_late files name source before after (pass.Unlisted line) is = absurd is
of_late files name source before after pass.Many is = absurd is
of_late files name source before after pass.Unread is = is
of_late files name source before after pass.Changed is = is
of_late files name source before after pass.Unwritten is = absurd is
of_late files name source before after pass.Memory is = is

-- That of a check is one of all.
pub of_check : (files : Option Files) (name : List ℕ) (window : Window) (source : Option Source) (names : List (List ℕ)) (before after : ℕ) (fault : FilmFault)
    → IsCheckFault files name source before after fault → IsCause files name window source names before after fault
of_check files name window source names before after (film.Run why) is = is
of_check files name window source names before after (film.Foreign line) is = is
of_check files name window source names before after (film.Unknown place) is = absurd is
of_check files name window source names before after film.Empty is = absurd is

-- ---- of a run that was read before

-- Why it isn't read again, where it is a run still
pub still_run : (files : Option Files) (name : List ℕ) (before after : ℕ) (fault : PassFault) → ((line : ℕ) → fault ≢ pass.Line line) → fault ≢ pass.Many
    → IsNoRun files name before after fault → IsLate files before after fault
still_run files name before after (pass.Line line) no_line no_many is = absurd (no_line line refl)
still_run files name before after (pass.Unlisted line) no_line no_many is = is
still_run files name before after pass.Many no_line no_many is = absurd (no_many refl)
still_run files name before after pass.Unread no_line no_many is = is
still_run files name before after pass.Changed no_line no_many is = is
still_run files name before after pass.Unwritten no_line no_many is = is
still_run files name before after pass.Memory no_line no_many is = is

-- It broke since then.
pub broke : NotBoth → (files : Option Files) (name : List ℕ) (before after : ℕ) (notes : List Note) (fault : PassFault) (line : ℕ) → fault ≡ pass.Line line
    → IsRun files name notes → IsNoRun files name before after fault → (files ≡ None) × (after ≡ before)
broke law files name before after notes fault line is run why =
    let breaks = subst (IsNoRun files name before after) is why in
    (no_break law files name breaks.0 notes line run breaks.1 breaks.2, breaks.3)

-- It has too many lines now.
pub grown : OneFront → (files : Option Files) (name : List ℕ) (before after : ℕ) (notes : List Note) (fault : PassFault) → fault ≡ pass.Many
    → IsRun files name notes → IsNoRun files name before after fault → (files ≡ None) × (after ≡ before)
grown front files name before after notes fault is run why =
    let many = subst (IsNoRun files name before after) is why in
    (not_many front files name many.0 notes run many.1 many.2, many.3)

-- ---- results

-- The fault of a refusal
fault_of : {T : Type 0} → Result T PassFault → PassFault
fault_of (Err fault) = fault
fault_of (Ok x) = pass.Memory

-- Refusals that are one have one fault.
pub err_is : {T : Type 0} (a b : PassFault) → ◌≡◌ {A = Result T PassFault} (Err a) (Err b) → a ≡ b
unfolding fault_of
err_is a b e = ap fault_of e

-- What is read isn't a refusal.
pub ok_is : {T : Type 0} (x : T) → ◌≢◌ {A = Result T PassFault} (Ok x) (Err pass.Unread)
unfolding fault_of
ok_is x e = memory_is (ap fault_of e)
