-- The dump of a run whose notes come one by one.
use Rattle.std.specs.Prelude.{◌≡◌, ◌⊎◌, ℕ, List, [], ◌++◌, Option}
use Rattle.psy_door.specs.Files.{Files}
use Rattle.psy_log.specs.declared.note.Note.{Note}
use Rattle.psy_passes.specs.Listing.{agents_in, streams_in, variables_in}
use Rattle.psy_passes.specs.Outcomes.{Begins}
use Rattle.psy_wave.specs.declared.teller.ChangeTeller.{ChangeTeller}
use Rattle.psy_wave.specs.Changes.{change, changes, later, stamp, time_of}
use Rattle.psy_wave.specs.Heads.{head}

-- Of a note is told its time, where that isn't the last one, and what it changes.
pub record TellsChange (old : ChangeTeller) (note : Note) (piece : List ℕ) (new : ChangeTeller) : Type 0 where
  pub change : piece ≡ stamp old.last (time_of note) ++ change old.listed.variables old.listed.streams old.listed.agents note
  pub listed : new.listed ≡ old.listed
  pub last : new.last ≡ later old.last (time_of note)

-- The dump of notes, by the names that a summary among others lists
abbrev pub vcd_under : List Note → List Note → List ℕ
vcd_under before notes =
    head (variables_in before) (streams_in before) (agents_in before) ++ changes (variables_in before) (streams_in before) (agents_in before) 0 notes

-- A text of which a front was written: nothing, or the front of a dump
abbrev pub DumpFront : Option Files → List ℕ → List ℕ → Type 0
DumpFront files name text = (text ≡ []) ⊎ Begins files name vcd_under text
