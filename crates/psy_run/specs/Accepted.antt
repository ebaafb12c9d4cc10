-- What a program may rely on that a check accepts: it runs to its end, with any inputs and any script.
use Rattle.std.specs.Prelude.{ℕ, ◌*◌, ◌≤◌, List, Option, Some, ℤ}
use Rattle.psy_base.specs.declared.limits.TheConstants.{RUN}
use Rattle.psy_base.specs.declared.sizes.Sizes.{Sizes}
use Rattle.psy_door.specs.Files.{Files}
use Rattle.psy_meaning.specs.BufferSizes.{AreSizes}
use Rattle.psy_meaning.specs.Flow.{AreAllNexts}
use Rattle.psy_meaning.specs.KnownWays.{OfText}
use Rattle.psy_tree.specs.declared.unit.Unit.{Unit as Whole}
use Rattle.psy_history.specs.declared.told.Script.{Script}
use Rattle.psy_history.specs.Scripts.{order_of}
use Rattle.psy_kernel.specs.Texts.{run_text}
use Rattle.psy_run.specs.Answer.{Answers, compiling, listing, scripting}
use Rattle.psy_run.specs.Bounds.{KeepsBounds}
use Rattle.psy_run.specs.Services.{meaning_of}

-- The words are answered by status 0 and the text of the dated meaning of the program's statements, and that run keeps its bounds.
pub record IsServed (words : List (List ℕ)) (files : Files) (unit : Whole) (nexts : List (List (List ℕ))) (sizes : Sizes) (until : ℕ)
    (lists : List (List ℤ)) (said : Script) : Type 0 where
  pub answered : Answers words (Some files) 0 (run_text (meaning_of unit nexts lists said) (order_of unit said) sizes until)
  pub bounded : KeepsBounds (meaning_of unit nexts lists said) (order_of unit said) sizes until

-- The program in a file runs up to a date, by the points that follow each of its points and the sizes that its buffers need. It does so with all
-- lists and with every script that the files of inputs and script state, if there are such files, where the run has no more than 100,000,000 cycles.
pub record IsRunnable (words : List (List ℕ)) (files : Files) (program : List ℕ) (until : ℕ) (inputs script : Option (List ℕ)) : Type 0 where
  pub unit : Whole
  pub nexts : List (List (List ℕ))
  pub sizes : Sizes
  pub compiled : (compiling (Some files) program).gives unit
  pub followed : AreAllNexts unit nexts
  pub sized : AreSizes unit (OfText unit) nexts sizes
  pub served : (lists : List (List ℤ)) (said : Script) → (listing (Some files) unit inputs).gives lists
      → (scripting (Some files) unit script).gives said → until * unit.quantum ≤ RUN → IsServed words files unit nexts sizes until lists said
