-- What the words of the command line ask for.
use Rattle.std.specs.Prelude.{◌≡◌, ℕ, ◌^◌, ◌<◌, ◌≤◌, List, [], ◌∷◌, Option, None, Some, codes, option_copied, ⊤}
use Rattle.psy_base.specs.declared.limits.TheConstants.{UNTIL}
use Rattle.psy_text.specs.Words.{number_of}
use Rattle.psy_run.specs.declared.asked.Command.{Command as Read}
use Rattle.psy_run.specs.declared.asked.Command.TheVariants as read

-- The word is a date up to which a program may run: a number of 1 to 12 digits, at most 1,000,000
pub record IsDate (word : List ℕ) (date : ℕ) : Type 0 where
  pub value : number_of word ≡ Some date
  pub most : date ≤ UNTIL

-- The word is a number from which a program may be made: one of 1 to 12 digits and of 32 bits
pub record IsSeed (word : List ℕ) (seed : ℕ) : Type 0 where
  pub value : number_of word ≡ Some seed
  pub most : seed < 2 ^ 32

-- A command, with the names of its files and its numbers
pub data Command : Type 0 where
  Run : (program : List ℕ) (until : ℕ) (inputs script : Option (List ℕ)) → Command
  Check : (program : List ℕ) (until : ℕ) → Command
  Graph : (program : List ℕ) → Command
  Make : (seed : ℕ) → Command
  Trial : (seed until : ℕ) → Command
  Build : (program : List ℕ) → Command
  Exec : (image : List ℕ) (until : ℕ) (inputs script : Option (List ℕ)) → Command
  Audit : (program : List ℕ) (until : ℕ) (trace : List ℕ) (script : Option (List ℕ)) → Command
  Trace : (program : List ℕ) (until : ℕ) (inputs script : Option (List ℕ)) → Command
  Save : (program : List ℕ) (date : ℕ) (inputs script : Option (List ℕ)) → Command
  Resume : (program state : List ℕ) (until : ℕ) (inputs script : Option (List ℕ)) → Command

-- The words ask for a command: `run PROG UNTIL [INPUTS [SCRIPT]]`, `check PROG UNTIL`, `graph PROG`, `make SEED`, `trial SEED UNTIL`, `build PROG`,
-- `exec IMAGE UNTIL [INPUTS [SCRIPT]]`, `audit PROG UNTIL TRACE [SCRIPT]`, `trace PROG UNTIL [INPUTS [SCRIPT]]`, `save PROG DATE [INPUTS [SCRIPT]]` or
-- `resume PROG STATE UNTIL [INPUTS [SCRIPT]]`
pub data Asks (words : List (List ℕ)) : Command → Type 0 where
  asks_run : (program date : List ℕ) (until : ℕ) → words ≡ codes "run" ∷ program ∷ date ∷ [] → IsDate date until → Asks words (Run program until None None)
  asks_run_with_inputs : (program date inputs : List ℕ) (until : ℕ) → words ≡ codes "run" ∷ program ∷ date ∷ inputs ∷ [] → IsDate date until
      → Asks words (Run program until (Some inputs) None)
  asks_run_with_script : (program date inputs script : List ℕ) (until : ℕ) → words ≡ codes "run" ∷ program ∷ date ∷ inputs ∷ script ∷ []
      → IsDate date until → Asks words (Run program until (Some inputs) (Some script))
  asks_check : (program date : List ℕ) (until : ℕ) → words ≡ codes "check" ∷ program ∷ date ∷ [] → IsDate date until → Asks words (Check program until)
  asks_graph : (program : List ℕ) → words ≡ codes "graph" ∷ program ∷ [] → Asks words (Graph program)
  asks_make : (number : List ℕ) (seed : ℕ) → words ≡ codes "make" ∷ number ∷ [] → IsSeed number seed → Asks words (Make seed)
  asks_trial : (number date : List ℕ) (seed until : ℕ) → words ≡ codes "trial" ∷ number ∷ date ∷ [] → IsSeed number seed → IsDate date until
      → Asks words (Trial seed until)
  asks_build : (program : List ℕ) → words ≡ codes "build" ∷ program ∷ [] → Asks words (Build program)
  asks_exec : (image date : List ℕ) (until : ℕ) → words ≡ codes "exec" ∷ image ∷ date ∷ [] → IsDate date until → Asks words (Exec image until None None)
  asks_exec_with_inputs : (image date inputs : List ℕ) (until : ℕ) → words ≡ codes "exec" ∷ image ∷ date ∷ inputs ∷ [] → IsDate date until
      → Asks words (Exec image until (Some inputs) None)
  asks_exec_with_script : (image date inputs script : List ℕ) (until : ℕ) → words ≡ codes "exec" ∷ image ∷ date ∷ inputs ∷ script ∷ []
      → IsDate date until → Asks words (Exec image until (Some inputs) (Some script))
  asks_audit : (program date trace : List ℕ) (until : ℕ) → words ≡ codes "audit" ∷ program ∷ date ∷ trace ∷ [] → IsDate date until
      → Asks words (Audit program until trace None)
  asks_audit_with_script : (program date trace script : List ℕ) (until : ℕ) → words ≡ codes "audit" ∷ program ∷ date ∷ trace ∷ script ∷ []
      → IsDate date until → Asks words (Audit program until trace (Some script))
  asks_trace : (program date : List ℕ) (until : ℕ) → words ≡ codes "trace" ∷ program ∷ date ∷ [] → IsDate date until
      → Asks words (Trace program until None None)
  asks_trace_with_inputs : (program date inputs : List ℕ) (until : ℕ) → words ≡ codes "trace" ∷ program ∷ date ∷ inputs ∷ [] → IsDate date until
      → Asks words (Trace program until (Some inputs) None)
  asks_trace_with_script : (program date inputs script : List ℕ) (until : ℕ) → words ≡ codes "trace" ∷ program ∷ date ∷ inputs ∷ script ∷ []
      → IsDate date until → Asks words (Trace program until (Some inputs) (Some script))
  asks_save : (program word : List ℕ) (date : ℕ) → words ≡ codes "save" ∷ program ∷ word ∷ [] → IsDate word date → Asks words (Save program date None None)
  asks_save_with_inputs : (program word inputs : List ℕ) (date : ℕ) → words ≡ codes "save" ∷ program ∷ word ∷ inputs ∷ [] → IsDate word date
      → Asks words (Save program date (Some inputs) None)
  asks_save_with_script : (program word inputs script : List ℕ) (date : ℕ) → words ≡ codes "save" ∷ program ∷ word ∷ inputs ∷ script ∷ []
      → IsDate word date → Asks words (Save program date (Some inputs) (Some script))
  asks_resume : (program state date : List ℕ) (until : ℕ) → words ≡ codes "resume" ∷ program ∷ state ∷ date ∷ [] → IsDate date until
      → Asks words (Resume program state until None None)
  asks_resume_with_inputs : (program state date inputs : List ℕ) (until : ℕ) → words ≡ codes "resume" ∷ program ∷ state ∷ date ∷ inputs ∷ []
      → IsDate date until → Asks words (Resume program state until (Some inputs) None)
  asks_resume_with_script : (program state date inputs script : List ℕ) (until : ℕ)
      → words ≡ codes "resume" ∷ program ∷ state ∷ date ∷ inputs ∷ script ∷ [] → IsDate date until
      → Asks words (Resume program state until (Some inputs) (Some script))

-- A command, unless what comes of it is found by the call alone: the verdict on an image, and the state of a run
abbrev pub IsPlain : Command → Type 0
IsPlain (Exec image until inputs script) = ⊥
IsPlain (Save program date inputs script) = ⊥
IsPlain (Resume program state until inputs script) = ⊥
IsPlain command = ⊤

-- The words are of no listed form
abbrev pub AskNothing : List (List ℕ) → Type 0
AskNothing words = (command : Command) → Asks words command → ⊥

-- The command that was read from words
abbrev pub asked_by : Read → Command
asked_by (read.Run program until inputs script) = Run program.now until (option_copied inputs) (option_copied script)
asked_by (read.Check program until) = Check program.now until
asked_by (read.Graph program) = Graph program.now
asked_by (read.Make seed) = Make seed
asked_by (read.Trial seed until) = Trial seed until
asked_by (read.Build program) = Build program.now
asked_by (read.Exec image until inputs script) = Exec image.now until (option_copied inputs) (option_copied script)
asked_by (read.Audit program until trace script) = Audit program.now until trace.now (option_copied script)
asked_by (read.Trace program until inputs script) = Trace program.now until (option_copied inputs) (option_copied script)
asked_by (read.Save program date inputs script) = Save program.now date (option_copied inputs) (option_copied script)
asked_by (read.Resume program state until inputs script) = Resume program.now state.now until (option_copied inputs) (option_copied script)
