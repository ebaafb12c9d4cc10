-- Where the program of a text is planned, and where that stops, for which no file is read; and what a kernel of it writes.
use Rattle.std.proofs.Common.{◌≡◌, ◌∙◌, ◌⊎◌, ℕ, List, [], ap, refl, sym, subst, inl, inr, Option, Some, None, IfSome, Result, Ok, Err, IfOk, IfErr}
use Rattle.std.specs.Result.{IsErrOf}
use Rattle.psy_history.specs.Compiled.{AreInputs}
use Rattle.psy_history.specs.Scripts.{IsScript}
use Rattle.psy_history.proofs.lemmas.NoInputs.{are_no_inputs}
use Rattle.psy_kernel.specs.Progress.{Progress, booted, order, system}
use Rattle.psy_kernel.specs.Texts.{run_text}
use Rattle.psy_tree.specs.declared.unit.Unit.{Unit as Whole}
use Rattle.psy_plan.specs.Supplies.{Supply}
use Rattle.psy_run.specs.declared.refusal.File.{File}
use Rattle.psy_run.specs.declared.refusal.Refusal.{Refusal}
use Rattle.psy_run.specs.declared.refusal.Stop.{Stop}
use Rattle.psy_run.specs.declared.refusal.Stop.TheVariants as stop
use Rattle.psy_run.specs.declared.served.Served.{Served}
use Rattle.psy_run.specs.declared.served.Served.TheVariants as served
use Rattle.psy_run.specs.Answer.{planning, supplying, translating}
use Rattle.psy_run.specs.Courses.{Course, in_row}
use Rattle.psy_run.specs.Outcome.{CanServe, Halts, halts_refused, halts_unread, halts_memory}
use Rattle.psy_run.specs.Planned.{IsPlanned}
use Rattle.psy_run.specs.Services.{Service, Ran, Tried, no_inputs, no_script, text_of}
use Rattle.psy_run.proofs.Courses.{gives_then, halts_first, halts_later}
use Rattle.psy_run.proofs.MeaningText.{Always, AreAlike, is_no_script, served_text}

-- ---- the two steps

module _ (text : List ℕ) (until : ℕ) where
  pub plan_untranslated : (failed : List ℕ) (before after : ℕ) (s : Stop) → Halts (translating text) failed before after s → Halts (planning text until) failed before after s
  plan_untranslated failed before after s halts = halts_first _ _ failed before after s halts

  module _ (unit : Whole) (made : (translating text).gives unit) where
    pub plan_unsupplied : (failed : List ℕ) (before after : ℕ) (s : Stop) → Halts (supplying unit until) failed before after s → Halts (planning text until) failed before after s
    plan_unsupplied failed before after s halts = halts_later _ _ failed before after unit s made (halts_first _ _ failed before after s halts)

    pub plan_gives : (supply : Supply) → (supplying unit until).gives supply → (done : Service) → done ≡ Tried unit supply.nexts supply.sizes until → (planning text until).gives done
    plan_gives supply supplied done same = gives_then _ _ unit done made (gives_then _ _ supply done supplied same)

-- ---- no file

-- A course that reads no file
abbrev Unread : {X : Type 0} → Course X → Type 0
Unread course = (file : File) (name : List ℕ) → course.reads file name → ⊥

unread_then : {X Y : Type 0} (c : Course X) (f : X → Course Y) → Unread c → ((x : X) → Unread (f x)) → Unread (in_row c f)
unfolding in_row
unread_then c f first next file name (inl reads) = first file name reads
unread_then c f first next file name (inr (x, gives, reads)) = next x file name reads

pub unread_planning : (text : List ℕ) (until : ℕ) → Unread (planning text until)
unread_planning text until = unread_then _ _ (λ file name reads. reads) (λ unit. unread_then _ _ (λ file name reads. reads) (λ supply file name reads. reads))

-- ---- why there is no kernel

-- Where a refusal is answered, a step refuses.
pub refused_by : {X K : Type 0} (course : Course X) (result : Result K Stop) (refusal : Refusal) → IfErr result (Halts course [] 0 0) → IsErrOf result (stop.Refused refusal) → course.stops refusal
refused_by course (Ok kernel) refusal halts is = absurd (let no : ◌≡◌ {A = Result _ Stop} (Ok kernel) (Err (stop.Refused refusal)) = is in cc)
refused_by course (Err s) refusal halts is = by s halts (let same : s ≡ stop.Refused refusal = cc in same)
  where
    by : (s : Stop) → Halts course [] 0 0 s → s ≡ stop.Refused refusal → course.stops refusal
    by _ (halts_refused other stops) same = subst course.stops (let one : other ≡ refusal = cc in one) stops
    by _ (halts_unread file reads rose) same = absurd cc
    by _ halts_memory same = absurd cc

-- Where one refuses, that is answered, or memory is wanting.
refused_or : {X K : Type 0} (course : Course X) (refusal : Refusal) → ((other : Refusal) → course.stops other → other ≡ refusal) → Unread course → (s : Stop) → Halts course [] 0 0 s
    → ◌≡◌ {A = Result K Stop} (Err s) (Err (stop.Refused refusal)) ⊎ ◌≡◌ {A = Result K Stop} (Err s) (Err stop.Memory)
refused_or course refusal one unread _ (halts_refused other stops) = inl (ap (λ r. Err (stop.Refused r)) (one other stops))
refused_or course refusal one unread _ (halts_unread file reads rose) = absurd (unread file [] reads)
refused_or course refusal one unread _ halts_memory = inr refl

pub refused_where : {X K : Type 0} (course : Course X) (given : K → X) (result : Result K Stop) (refusal : Refusal) → ((other : Refusal) → course.stops other → other ≡ refusal) → ((done : X) → course.gives done → ⊥)
    → IfErr result (Halts course [] 0 0) → IfOk result (λ kernel. course.gives (given kernel)) → Unread course → IsErrOf result (stop.Refused refusal) ⊎ IsErrOf result stop.Memory
refused_where course given (Ok kernel) refusal one apart halts gives unread = absurd (apart (given kernel) gives)
refused_where course given (Err s) refusal one apart halts gives unread = refused_or course refusal one unread s halts

-- No file that couldn't be read is answered.
pub unread_never : {K : Type 0} (text : List ℕ) (until : ℕ) (result : Result K Stop) (file : File) → IfErr result (Halts (planning text until) [] 0 0) → IsErrOf result (stop.Unread file) → ⊥
unread_never text until (Ok kernel) file halts is = absurd cc
unread_never text until (Err s) file halts is = by s halts (let same : s ≡ stop.Unread file = cc in same)
  where
    by : (s : Stop) → Halts (planning text until) [] 0 0 s → s ≡ stop.Unread file → ⊥
    by _ (halts_refused other stops) same = absurd cc
    by _ (halts_unread other reads rose) same = unread_planning text until other [] reads
    by _ halts_memory same = absurd cc

-- ---- what it writes

-- A kernel of a plan, without inputs and script, writes the dated meaning of the program's statements.
pub kernel_meant : {E : Type 0} → Always AreAlike → (result : Result Progress E) → IfOk result (λ kernel. kernel ≡ booted kernel.plan kernel.inputs kernel.script) → IfOk result (λ kernel. IsPlanned kernel.plan)
    → IfOk result (λ kernel. kernel.inputs ≡ no_inputs kernel.plan.unit) → IfOk result (λ kernel. kernel.script ≡ no_script)
    → IfOk result (λ kernel. run_text (system kernel) (order kernel) kernel.plan.sizes kernel.plan.until ≡ text_of (Ran kernel.plan.unit kernel.plan.nexts kernel.plan.sizes kernel.plan.until (no_inputs kernel.plan.unit) no_script))
kernel_meant alike (Err fault) was planned alone unscripted = tt
kernel_meant alike (Ok kernel) was planned alone unscripted =
    let plan = kernel.plan in
    let can : CanServe (served.Ran kernel) = (was, planned, subst (AreInputs plan.unit) (sym alone) (are_no_inputs plan.unit), subst (IsScript plan.unit) (sym unscripted) (is_no_script plan.unit)) in
    served_text alike kernel can ∙ (λ i. text_of (Ran plan.unit plan.nexts plan.sizes plan.until (alone i) (unscripted i)))

-- ---- the kernel that words ask for

-- What holds of what is served holds of the kernel of a run, where it is one.
pub asked_has : (P : Served → Type 0) (Q : Progress → Type 0) (done : Served) (asked : Option Progress) → ((kernel : Progress) → P (served.Ran kernel) → Q kernel) → P done → IfSome asked (λ kernel. done ≡ served.Ran kernel) → IfSome asked Q
asked_has P Q done None by has is = tt
asked_has P Q done (Some kernel) by has is = by kernel (subst P is has)
