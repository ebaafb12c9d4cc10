-- The judge of a trace, step by step: where it stops, and what it gives.
use Rattle.std.proofs.Common.{◌≡◌, ℕ, List, Option}
use Rattle.psy_door.specs.Files.{Files}
use Rattle.psy_history.specs.declared.told.Script.{Script as Said}
use Rattle.psy_plan.specs.Supplies.{Supply}
use Rattle.psy_tree.specs.declared.unit.Unit.{Unit as Whole}
use Rattle.psy_run.specs.declared.refusal.File.TheVariants.{Trace}
use Rattle.psy_run.specs.declared.refusal.Stop.{Stop}
use Rattle.psy_run.specs.Answer.{compiling, judging, scripting, supplying}
use Rattle.psy_run.specs.Outcome.{Halts}
use Rattle.psy_run.specs.Services.{Audited, Service}
use Rattle.psy_run.specs.Steps.{Counts, auditing, judged_by, pacing, reading}
use Rattle.psy_run.proofs.Courses.{gives_then, halts_first, halts_later}

module _ (files : Option Files) (name : List ℕ) (until : ℕ) (trace : List ℕ) (script : Option (List ℕ)) (failed : List ℕ) (before after : ℕ) (stop : Stop) where
  -- what it comes to
  abbrev HaltsAudit : Type 0
  HaltsAudit = Halts (judging files name until trace script) failed before after stop

  module _ (unit : Whole) (compiled : (compiling files name).gives unit) (supply : Supply) (supplied : (supplying unit until).gives supply) where
    -- it stops at the file of the trace
    pub audit_unread : Halts (reading files Trace trace) failed before after stop → HaltsAudit
    audit_unread halts = halts_later _ _ failed before after unit stop compiled (halts_later _ _ failed before after supply stop supplied (halts_first _ _ failed before after stop halts))

    module _ (text : List ℕ) (read : (reading files Trace trace).gives text) where
      -- at the script
      pub audit_unscripted : Halts (scripting files unit script) failed before after stop → HaltsAudit
      audit_unscripted halts =
          halts_later _ _ failed before after unit stop compiled (halts_later _ _ failed before after supply stop supplied (halts_later _ _ failed before after text stop read
          (halts_first _ _ failed before after stop halts)))

      module _ (said : Said) (scripted : (scripting files unit script).gives said) where
        -- at its cycles
        pub audit_unpaced : Halts (pacing unit until) failed before after stop → HaltsAudit
        audit_unpaced halts =
            halts_later _ _ failed before after unit stop compiled (halts_later _ _ failed before after supply stop supplied (halts_later _ _ failed before after text stop read
            (halts_later _ _ failed before after said stop scripted (halts_first _ _ failed before after stop halts))))

        -- or at the trace
        pub audit_untrue : (pacing unit until).gives tt → Halts (auditing (judged_by unit supply.nexts supply.sizes until said) text) failed before after stop → HaltsAudit
        audit_untrue paced halts =
            halts_later _ _ failed before after unit stop compiled (halts_later _ _ failed before after supply stop supplied (halts_later _ _ failed before after text stop read
            (halts_later _ _ failed before after said stop scripted (halts_later _ _ failed before after tt stop paced (halts_first _ _ failed before after stop halts)))))

-- Or it gives how much a legal trace tells of.
pub audit_gives : (files : Option Files) (name : List ℕ) (until : ℕ) (trace : List ℕ) (script : Option (List ℕ)) (unit : Whole) → (compiling files name).gives unit → (supply : Supply) → (supplying unit until).gives supply
    → (text : List ℕ) → (reading files Trace trace).gives text → (said : Said) → (scripting files unit script).gives said → (pacing unit until).gives tt
    → (counts : Counts) → (auditing (judged_by unit supply.nexts supply.sizes until said) text).gives counts → (done : Service) → done ≡ Audited counts.acts counts.looks → (judging files name until trace script).gives done
audit_gives files name until trace script unit compiled supply supplied text read said scripted paced counts legal done same =
    gives_then _ _ unit done compiled (gives_then _ _ supply done supplied (gives_then _ _ text done read (gives_then _ _ said done scripted
    (gives_then _ _ tt done paced (gives_then _ _ counts done legal same)))))
