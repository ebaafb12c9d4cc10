-- The state that a whole run leaves at a quiet date is one that bytes spell, and that each later run of the program may go on from.
use Rattle.std.proofs.Common.{◌≡◌, ap, refl, subst, ℕ, suc, ◌*◌, ◌^◌, ◌<◌, ◌≤◌, List, None, ℤ}
use Rattle.psy_base.specs.declared.limits.TheConstants.{UNTIL}
use Rattle.psy_base.specs.declared.sizes.Sizes.{Sizes}
use Rattle.psy_budget.specs.declared.charge.Stall.{Stall}
use Rattle.psy_code.specs.declared.code.Code.{Code}
use Rattle.psy_dates.specs.declared.opening.Opening.{Opening as State}
use Rattle.psy_dates.specs.declared.plan.Plan.{Plan}
use Rattle.psy_dates.specs.Plans.{IsPlan}
use Rattle.psy_gen.specs.Emission.{code_of}
use Rattle.psy_graph.specs.declared.graph.Graph.{Graph}
use Rattle.psy_graph.specs.Graphs.{AreGraphsBy}
use Rattle.psy_history.specs.Compiled.{AreInputs, IsCompiled, coded, stated}
use Rattle.psy_history.specs.declared.told.Script.{Script as Said}
use Rattle.psy_history.specs.History.{history}
use Rattle.psy_history.specs.Likeness.{AreLike}
use Rattle.psy_history.specs.Resuming.{IsQuiet, opening_at}
use Rattle.psy_history.specs.Scheduled.{turns_by}
use Rattle.psy_history.specs.Scripts.{IsScript, order_of, stalls_of}
use Rattle.psy_kernel.specs.Freezing.{BeginWithFirst, left_by, state_by}
use Rattle.psy_kernel.specs.Progress.{Progress, booted, system}
use Rattle.psy_run.specs.Services.{compiled_plan, meaning_of, state_at, state_text}
use Rattle.psy_run.specs.Steps.{IsStateOf}
use Rattle.psy_snap.specs.Bytes.{spelling}
use Rattle.psy_snap.specs.Faults.{faults_of, least_fault}
use Rattle.psy_snap.specs.Forms.{Form, form_of}
use Rattle.psy_snap.specs.Ranges.{FitsState}
use Rattle.psy_snap.specs.Shapes.{HasForm}
use Rattle.psy_tree.specs.declared.unit.Unit.{Unit as Whole}
use Rattle.psy_same.proofs.QuietDates.{quiet_like}

-- What the laws say of histories and of the states that runs leave
pub record StatesHold : Type 0 where
  pub like : (unit : Whole) (code : Code) (nexts : List (List (List ℕ))) (stalls : ℕ → List Stall) (inputs : List (List ℤ))
      → IsCompiled unit code nexts → AreInputs unit inputs
      → (dates agent : ℕ) → AreLike (history (coded unit code nexts stalls inputs) dates agent) (history (stated unit nexts stalls inputs) dates agent)
  pub left : (unit : Whole) (code : Code) (nexts : List (List (List ℕ))) (stalls : ℕ → List Stall) (inputs : List (List ℤ))
      → IsCompiled unit code nexts → AreInputs unit inputs → (sizes : List ℕ) (order : ℕ → List ℕ) (cycles date : ℕ)
      → opening_at (coded unit code nexts stalls inputs) sizes (turns_by (coded unit code nexts stalls inputs) order cycles) date
      ≡ opening_at (stated unit nexts stalls inputs) sizes (turns_by (stated unit nexts stalls inputs) order cycles) date
  pub first : (plan : Plan) → IsCompiled plan.unit plan.code plan.nexts → BeginWithFirst plan
  pub kept : (p : Progress) (graphs : List Graph) (until : ℕ) → IsPlan p.plan → AreInputs p.plan.unit p.inputs → IsScript p.plan.unit p.script
      → p.opening ≡ None → BeginWithFirst p.plan → IsCompiled p.plan.unit p.plan.code p.plan.nexts → AreGraphsBy p.plan.unit p.plan.nexts graphs
      → IsQuiet (system p) p.plan.until → p.plan.until ≤ until → p.plan.until ≤ UNTIL → p.plan.until * p.plan.unit.quantum < 2 ^ 50
      → HasForm (form_of (record (p.plan) { until = until }) graphs) (state_by p.plan (left_by p))
      × FitsState (state_by p.plan (left_by p))
      × (least_fault (faults_of (form_of (record (p.plan) { until = until }) graphs) (spelling (state_by p.plan (left_by p)))) ≡ None)

module _ (laws : StatesHold) (unit : Whole) (nexts : List (List (List ℕ))) (sizes : Sizes) (date : ℕ) (lists : List (List ℤ)) (said : Said)
    (compiled : IsCompiled unit (code_of unit) nexts) (are : AreInputs unit lists) where
  -- The run up to the date, before it begins
  abbrev begun : Progress
  begun = booted (compiled_plan unit nexts sizes date) lists said

  still : IsQuiet (meaning_of unit nexts lists said) date → IsQuiet (system begun) date
  still quiet = quiet_like (coded unit (code_of unit) nexts (stalls_of said) lists) (meaning_of unit nexts lists said) date
      (λ agent. laws.like unit (code_of unit) nexts (stalls_of said) lists compiled are (suc date) agent)
      quiet

  same_state : state_by (compiled_plan unit nexts sizes date) (left_by begun) ≡ state_at unit nexts sizes date lists said
  same_state = ap (state_by (compiled_plan unit nexts sizes date))
      (laws.left unit (code_of unit) nexts (stalls_of said) lists compiled are sizes.rings (order_of unit said) (date * unit.quantum) date)

  pub left_state : (graphs : List Graph) (until : ℕ) → IsPlan (compiled_plan unit nexts sizes date) → IsScript unit said → AreGraphsBy unit nexts graphs
      → IsQuiet (meaning_of unit nexts lists said) date → date ≤ until → date ≤ UNTIL → date * unit.quantum < 2 ^ 50
      → IsStateOf (form_of (compiled_plan unit nexts sizes until) graphs) (state_text unit nexts sizes date lists said)
      (state_at unit nexts sizes date lists said)
  left_state graphs until fits script drawn quiet late near cycles =
      let form : Form = form_of (compiled_plan unit nexts sizes until) graphs in
      let kept = laws.kept begun graphs until fits are script refl (laws.first (compiled_plan unit nexts sizes date) compiled) compiled drawn (still quiet)
      late near cycles in
      record {
        spelled = refl;
        formed = subst (HasForm form) same_state kept.0;
        ranges = subst FitsState same_state kept.1;
        sound = subst (λ (state : State). least_fault (faults_of form (spelling state)) ≡ None) same_state kept.2;
      }
