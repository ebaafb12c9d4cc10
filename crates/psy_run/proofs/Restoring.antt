-- A run that goes on from a state, step by step: where it stops, and what it gives.
use Rattle.std.proofs.Common.{◌≡◌, ap, refl, subst, ℕ, List, Option, None, Some, ℤ}
use Rattle.psy_dates.specs.declared.opening.Opening.{Opening as State}
use Rattle.psy_dates.specs.declared.plan.Plan.{Plan}
use Rattle.psy_door.specs.Files.{Files}
use Rattle.psy_graph.specs.declared.graph.Graph.{Graph}
use Rattle.psy_history.specs.declared.told.Script.{Script as Said}
use Rattle.psy_kernel.specs.Progress.{Progress, began}
use Rattle.psy_plan.specs.Supplies.{Supply}
use Rattle.psy_snap.specs.Bytes.{spelling}
use Rattle.psy_snap.specs.Faults.{faults_of, least_fault}
use Rattle.psy_snap.specs.Forms.{Form, form_of}
use Rattle.psy_snap.specs.Ranges.{FitsState}
use Rattle.psy_snap.specs.Shapes.{HasForm}
use Rattle.psy_tree.specs.declared.unit.Unit.{Unit as Whole}
use Rattle.psy_run.specs.declared.refusal.File.TheVariants as file
use Rattle.psy_run.specs.declared.refusal.Stop.{Stop}
use Rattle.psy_run.specs.declared.served.Served.TheVariants as served
use Rattle.psy_run.specs.Answer.{compiling, listing, resuming, scripting, supplying}
use Rattle.psy_run.specs.Outcome.{Halts}
use Rattle.psy_run.specs.Services.{Resumed, Service, compiled_plan, run_from, service_of}
use Rattle.psy_run.specs.Steps.{IsStateOf, pacing, reading, restoring}
use Rattle.psy_run.proofs.Courses.{gives_then, halts_first, halts_later}

-- What bytes spell is a state of them.
pub is_state : (form : Form) (read bytes : List ℕ) (state : State) → read ≡ bytes → spelling state ≡ read → HasForm form state → FitsState state → least_fault (faults_of form read) ≡ None → IsStateOf form bytes state
is_state form read bytes state same spelled formed ranges sound = subst (λ text. IsStateOf form text state) same (record { spelled = spelled; formed = formed; ranges = ranges; sound = sound })

-- The form of a program's states, by what was found of it
abbrev pub form_by : Whole → Supply → ℕ → Form
form_by unit supply until = form_of (compiled_plan unit supply.nexts supply.sizes until) supply.graphs

-- It is that of the plan that is made of it.
pub same_form : (plan : Plan) (graphs : List Graph) (unit : Whole) (supply : Supply) (until : ℕ) → plan ≡ compiled_plan unit supply.nexts supply.sizes until → graphs ≡ supply.graphs → form_of plan graphs ≡ form_by unit supply until
same_form plan graphs unit supply until is drawn = λ i. form_of (is i) (drawn i)

module _ (files : Option Files) (name state : List ℕ) (until : ℕ) (inputs script : Option (List ℕ)) (unit : Whole) (compiled : (compiling files name).gives unit) (supply : Supply) (supplied : (supplying unit until).gives supply) where
  module _ (failed : List ℕ) (before after : ℕ) (stop : Stop) where
    -- what it comes to
    abbrev HaltsResume : Type 0
    HaltsResume = Halts (resuming files name state until inputs script) failed before after stop

    -- it stops at the file of the state
    pub resume_unread : Halts (reading files file.State state) failed before after stop → HaltsResume
    resume_unread halts = halts_later _ _ failed before after unit stop compiled (halts_later _ _ failed before after supply stop supplied (halts_first _ _ failed before after stop halts))

  -- with the plan and the graphs that are made of it
  module _ (plan : Plan) (graphs : List Graph) (is : plan ≡ compiled_plan unit supply.nexts supply.sizes until) (drawn : graphs ≡ supply.graphs) (bytes : List ℕ) (read : (reading files file.State state).gives bytes) where
    its_unit : plan.unit ≡ unit
    its_unit = ap (λ (p : Plan). p.unit) is

    -- at the state
    pub resume_unsound : (failed : List ℕ) (before after : ℕ) (stop : Stop) → Halts (restoring (form_of plan graphs) bytes) failed before after stop → HaltsResume failed before after stop
    resume_unsound failed before after stop halts =
        halts_later _ _ failed before after unit stop compiled (halts_later _ _ failed before after supply stop supplied (halts_later _ _ failed before after bytes stop read
        (halts_first _ _ failed before after stop (subst (λ f. Halts (restoring f bytes) failed before after stop) (same_form plan graphs unit supply until is drawn) halts))))

    module _ (opening : State) (restored : (restoring (form_of plan graphs) bytes).gives opening) where
      restored_by : (restoring (form_by unit supply until) bytes).gives opening
      restored_by = subst (λ f. (restoring f bytes).gives opening) (same_form plan graphs unit supply until is drawn) restored

      -- at the inputs
      pub resume_unlisted : (failed : List ℕ) (before after : ℕ) (stop : Stop) → Halts (listing files plan.unit inputs) failed before after stop → HaltsResume failed before after stop
      resume_unlisted failed before after stop halts =
          halts_later _ _ failed before after unit stop compiled (halts_later _ _ failed before after supply stop supplied (halts_later _ _ failed before after bytes stop read
          (halts_later _ _ failed before after opening stop restored_by (halts_first _ _ failed before after stop (subst (λ u. Halts (listing files u inputs) failed before after stop) its_unit halts)))))

      module _ (lists : List (List ℤ)) (listed : (listing files plan.unit inputs).gives lists) where
        listed_by : (listing files unit inputs).gives lists
        listed_by = subst (λ u. (listing files u inputs).gives lists) its_unit listed

        -- at the script
        pub resume_unscripted : (failed : List ℕ) (before after : ℕ) (stop : Stop) → Halts (scripting files plan.unit script) failed before after stop → HaltsResume failed before after stop
        resume_unscripted failed before after stop halts =
            halts_later _ _ failed before after unit stop compiled (halts_later _ _ failed before after supply stop supplied (halts_later _ _ failed before after bytes stop read
            (halts_later _ _ failed before after opening stop restored_by (halts_later _ _ failed before after lists stop listed_by
            (halts_first _ _ failed before after stop (subst (λ u. Halts (scripting files u script) failed before after stop) its_unit halts))))))

        module _ (said : Said) (scripted : (scripting files plan.unit script).gives said) where
          scripted_by : (scripting files unit script).gives said
          scripted_by = subst (λ u. (scripting files u script).gives said) its_unit scripted

          -- or at its cycles
          pub resume_unpaced : (failed : List ℕ) (before after : ℕ) (stop : Stop) → Halts (pacing plan.unit until) failed before after stop → HaltsResume failed before after stop
          resume_unpaced failed before after stop halts =
              halts_later _ _ failed before after unit stop compiled (halts_later _ _ failed before after supply stop supplied (halts_later _ _ failed before after bytes stop read
              (halts_later _ _ failed before after opening stop restored_by (halts_later _ _ failed before after lists stop listed_by (halts_later _ _ failed before after said stop scripted_by
              (halts_first _ _ failed before after stop (subst (λ u. Halts (pacing u until) failed before after stop) its_unit halts)))))))

          -- Else it gives the run.
          pub resume_gives : (pacing plan.unit until).gives tt → (done : Service) → done ≡ Resumed unit supply.nexts supply.sizes until opening lists said → (resuming files name state until inputs script).gives done
          resume_gives paced done same =
              gives_then _ _ unit done compiled (gives_then _ _ supply done supplied (gives_then _ _ bytes done read (gives_then _ _ opening done restored_by
              (gives_then _ _ lists done listed_by (gives_then _ _ said done scripted_by (gives_then _ _ tt done (subst (λ u. (pacing u until).gives tt) its_unit paced) same))))))

-- What a kernel goes on with that was just opened
pub resumed_is : (kernel : Progress) (plan : Plan) (unit : Whole) (supply : Supply) (until : ℕ) (opening : State) (lists : List (List ℤ)) (said : Said) → kernel ≡ began plan lists said (Some opening)
    → plan ≡ compiled_plan unit supply.nexts supply.sizes until → service_of (served.Resumed kernel) ≡ Resumed unit supply.nexts supply.sizes until opening lists said
resumed_is kernel plan unit supply until opening lists said is made =
    let from : service_of (served.Resumed kernel) ≡ Resumed plan.unit plan.nexts plan.sizes plan.until opening lists said = ap (λ (k : Progress). run_from k k.opening) is in
    subst (λ (p : Plan). service_of (served.Resumed kernel) ≡ Resumed p.unit p.nexts p.sizes p.until opening lists said) made from
