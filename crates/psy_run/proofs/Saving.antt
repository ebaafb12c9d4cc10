-- What a run leaves is the state of the statements' history.
use Rattle.std.proofs.Common.{◌≡◌, ◌∙◌, ap, refl, sym, subst, ℕ, ◌*◌, ◌<◌, ◌≤◌, List, length, Option, None, ◌⊎◌, inl, inr, ℤ}
use Rattle.psy_base.specs.declared.limits.TheConstants.{FILE_BYTES}
use Rattle.psy_budget.specs.declared.charge.Stall.{Stall}
use Rattle.psy_code.specs.declared.code.Code.{Code}
use Rattle.psy_dates.specs.Beginnings.{beginning_of}
use Rattle.psy_dates.specs.declared.opening.Opening.{Opening as State}
use Rattle.psy_dates.specs.declared.plan.Plan.{Plan}
use Rattle.psy_dates.specs.Plans.{opened_of}
use Rattle.psy_history.specs.Actions.{System}
use Rattle.psy_history.specs.Compiled.{AreInputs, IsCompiled, coded, stated}
use Rattle.psy_history.specs.Resuming.{IsQuiet, opening_at}
use Rattle.psy_history.specs.Scheduled.{turns_by}
use Rattle.psy_history.specs.Scripts.{order_of, stalls_of}
use Rattle.psy_kernel.specs.Freezing.{IsFirstBusy, left_by, state_by}
use Rattle.psy_kernel.specs.Progress.{Progress, system}
use Rattle.psy_kernel.specs.Runs.{ended}
use Rattle.psy_snap.specs.Bytes.{spelling}
use Rattle.psy_tree.specs.Parts.{agent_at}
use Rattle.psy_tree.specs.declared.unit.Unit.{Unit as Whole}
use Rattle.psy_run.specs.declared.refusal.Refusal.TheVariants.{Busy, LongState}
use Rattle.psy_run.specs.declared.refusal.Stop.{Stop}
use Rattle.psy_run.specs.declared.refusal.Stop.TheVariants as stop
use Rattle.psy_run.specs.declared.served.Served.TheVariants as served
use Rattle.psy_run.specs.Answer.{leaving_of}
use Rattle.psy_run.specs.Courses.{in_row}
use Rattle.psy_run.specs.Outcome.{CanServe, Halts, halts_refused, halts_memory}
use Rattle.psy_run.specs.Services.{compiled_plan, meaning_of, opening_by, saved_run, text_of}

-- What is left of code and of the statements that it acts as is the same.
abbrev pub LeavesAlike : Type 0
LeavesAlike = (unit : Whole) (code : Code) (nexts : List (List (List ℕ))) (stalls : ℕ → List Stall) (inputs : List (List ℤ)) → IsCompiled unit code nexts → AreInputs unit inputs
    → (sizes : List ℕ) (order : ℕ → List ℕ) (cycles date : ℕ) → opening_at (coded unit code nexts stalls inputs) sizes (turns_by (coded unit code nexts stalls inputs) order cycles) date
    ≡ opening_at (stated unit nexts stalls inputs) sizes (turns_by (stated unit nexts stalls inputs) order cycles) date

-- A date is quiet in both,
abbrev pub QuietAlike : Type 0
QuietAlike = (unit : Whole) (code : Code) (nexts : List (List (List ℕ))) (stalls : ℕ → List Stall) (inputs : List (List ℤ)) (date : ℕ) → IsCompiled unit code nexts → AreInputs unit inputs
    → IsQuiet (coded unit code nexts stalls inputs) date → IsQuiet (stated unit nexts stalls inputs) date

-- Where it isn't, the same agent is the first whose action is under way.
abbrev pub BusyAlike : Type 0
BusyAlike = (unit : Whole) (code : Code) (nexts : List (List (List ℕ))) (stalls : ℕ → List Stall) (inputs : List (List ℤ)) (date agent : ℕ) → IsCompiled unit code nexts → AreInputs unit inputs
    → IsFirstBusy (coded unit code nexts stalls inputs) date agent → IsFirstBusy (stated unit nexts stalls inputs) date agent

module _ (kernel now : Progress) (can : CanServe (served.Ran kernel)) (over : now ≡ ended kernel) where
  -- its plan
  abbrev plan : Plan
  plan = kernel.plan

  -- its history, by the code
  abbrev by_code : System
  by_code = coded plan.unit plan.code plan.nexts (stalls_of kernel.script) kernel.inputs

  -- and by the statements
  abbrev by_meaning : System
  by_meaning = meaning_of plan.unit plan.nexts kernel.inputs kernel.script

  -- the history that the kernel stands for, where it begins with this opening
  abbrev system_from : Option State → System
  system_from opening = opened_of plan (beginning_of plan opening) kernel.inputs (stalls_of kernel.script)

  -- it began at date 0
  whole : kernel.opening ≡ None
  whole = ap (λ (p : Progress). p.opening) can.0

  its_system : system now ≡ by_code
  its_system = ap system over ∙ ap system_from whole

  -- its plan is that of its program
  made : plan ≡ compiled_plan plan.unit plan.nexts plan.sizes plan.until
  made = λ i. record { unit = plan.unit; code = can.1.made i; nexts = plan.nexts; sizes = plan.sizes; until = plan.until }

  left_is : LeavesAlike → left_by now ≡ opening_by plan.unit plan.nexts plan.sizes plan.until kernel.inputs kernel.script
  left_is same = ap left_by over
      ∙ ap (λ opening. opening_at (system_from opening) plan.sizes.rings (turns_by (system_from opening) (order_of plan.unit kernel.script) (plan.until * plan.unit.quantum)) plan.until) whole
      ∙ same plan.unit plan.code plan.nexts (stalls_of kernel.script) kernel.inputs can.1.stated.compiled can.2 plan.sizes.rings (order_of plan.unit kernel.script) (plan.until * plan.unit.quantum) plan.until

  -- the bytes of what it leaves are those of the statements' state
  pub left_text : LeavesAlike → spelling (state_by now.plan (left_by now)) ≡ text_of (saved_run kernel)
  left_text same = ap (λ (p : Progress). spelling (state_by p.plan (left_by now))) over ∙ (λ i. spelling (state_by (made i) (left_is same i)))

  -- its last date is quiet in the statements' history
  left_quiet : QuietAlike → IsQuiet (system now) now.plan.until → IsQuiet by_meaning plan.until
  left_quiet same quiet =
      let at = subst (λ (p : Progress). IsQuiet (system now) p.plan.until) over quiet in
      same plan.unit plan.code plan.nexts (stalls_of kernel.script) kernel.inputs plan.until can.1.stated.compiled can.2 (subst (λ s. IsQuiet s plan.until) its_system at)

  left_busy : BusyAlike → (agent : ℕ) → IsFirstBusy (system now) now.plan.until agent → IsFirstBusy by_meaning plan.until agent
  left_busy same agent busy =
      let at = subst (λ (p : Progress). IsFirstBusy (system now) p.plan.until agent) over busy in
      same plan.unit plan.code plan.nexts (stalls_of kernel.script) kernel.inputs plan.until agent can.1.stated.compiled can.2 (subst (λ s. IsFirstBusy s plan.until agent) its_system at)

  -- so it is saved
  pub leaving_gives : QuietAlike → LeavesAlike → IsQuiet (system now) now.plan.until → length (spelling (state_by now.plan (left_by now))) ≤ FILE_BYTES → (leaving_of kernel).gives tt
  unfolding in_row
  leaving_gives quiet same is few = (tt, left_quiet quiet is, subst (λ text. length text ≤ FILE_BYTES) (left_text same) few)

  -- An action may be under way, which the refusal tells, unless memory runs out
  pub leaving_busy : BusyAlike → (failed : List ℕ) (before after agent : ℕ) (at : Stop) → IsFirstBusy (system now) now.plan.until agent
      → (at ≡ stop.Refused (Busy (agent_at now.plan.unit agent).name)) ⊎ (at ≡ stop.Memory) → Halts (leaving_of kernel) failed before after at
  unfolding in_row
  leaving_busy same failed before after agent at busy (inl is) =
      let name = ap (λ (p : Progress). (agent_at p.plan.unit agent).name) over in
      subst (Halts (leaving_of kernel) failed before after) (sym is) (halts_refused (Busy (agent_at now.plan.unit agent).name) (inl (agent, left_busy same agent busy, name)))
  leaving_busy same failed before after agent at busy (inr is) = subst (Halts (leaving_of kernel) failed before after) (sym is) halts_memory

  -- The state may be too long
  pub leaving_long : QuietAlike → LeavesAlike → (failed : List ℕ) (before after : ℕ) → IsQuiet (system now) now.plan.until → FILE_BYTES < length (spelling (state_by now.plan (left_by now)))
      → Halts (leaving_of kernel) failed before after (stop.Refused LongState)
  unfolding in_row
  leaving_long quiet same failed before after is long =
      halts_refused LongState (inr (tt, left_quiet quiet is, (refl, subst (λ text. FILE_BYTES < length text) (left_text same) long)))
