-- The text of a run, from date 0 or from a state, is the same by the code and by the statements; what a run leaves; and that it keeps its bounds.
use Rattle.std.proofs.Common.{◌≡◌, refl, sym, ap, subst, ◌∙◌, ℕ, ◌+◌, ◌*◌, List, [], ◌∷◌, ◌++◌, length, get_or, map, Option, None, Some, ℤ, arith}
use Rattle.std.specs.List.{flat_map, range_with_len}
use Rattle.std.proofs.Math.Path.{fun_ext}
use Rattle.psy_audit.specs.Spelled.{trace_text}
use Rattle.psy_budget.specs.declared.charge.Stall.{Stall}
use Rattle.psy_code.specs.declared.code.Code.{Code}
use Rattle.psy_tree.specs.declared.unit.Unit.{Unit as Whole}
use Rattle.psy_base.specs.declared.sizes.Sizes.{Sizes}
use Rattle.psy_dates.specs.declared.plan.Plan.{Plan}
use Rattle.psy_base.specs.Extremes.{least_of, lesser}
use Rattle.psy_dates.specs.Beginnings.{beginning_of, behind}
use Rattle.psy_dates.specs.declared.opening.Opening.{Opening as State}
use Rattle.psy_dates.specs.Plans.{IsPlan, IsSoundFor, opened_of}
use Rattle.psy_history.specs.Compiled.{AreInputs, IsCompiled, coded, coded_behind, stated, stated_behind}
use Rattle.psy_history.specs.Executors.{Executor, by_code, by_statements}
use Rattle.psy_history.specs.Openings.{IsSound}
use Rattle.psy_history.specs.Scheduled.{turns_by}
use Rattle.psy_history.specs.declared.told.Order.{Order}
use Rattle.psy_history.specs.declared.told.Script.{Script}
use Rattle.psy_kernel.specs.Progress.{Progress, began, booted, order, system}
use Rattle.psy_history.specs.Scripts.{IsScript, order_of, stalls_of}
use Rattle.psy_kernel.specs.Texts.{agent_end, event_line, lines_of, run_text, stream_end, summary_of, text_of, variable_end}
use Rattle.psy_log.specs.Forms.{agent_line, end_line, stream_line, variable_line}
use Rattle.psy_history.specs.Actions.{Opening, System, plain, stream_of, variable_of}
use Rattle.psy_tree.specs.Parts.{agent_at}
use Rattle.psy_history.specs.History.{history}
use Rattle.psy_history.specs.Lines.{events}
use Rattle.psy_history.specs.Summary.{added_to, dates_from, due_by, due_count, least_slack, most_held, numbers_in, reach, slack}
use Rattle.psy_meaning.specs.BufferSizes.{AreSizes}
use Rattle.psy_meaning.specs.KnownWays.{OfText}
use Rattle.psy_run.specs.Bounds.{IsBounded, KeepsBounds, KeepsBoundsBehind}
use Rattle.psy_run.specs.Outcome.{CanServe, HasTold}
use Rattle.psy_run.specs.Planned.{IsPlanned, IsStatedPlan}
use Rattle.psy_kernel.specs.Runs.{ended}
use Rattle.psy_run.specs.Services.{HasRun, Leaves, compiled_plan, meaning_behind, meaning_by, meaning_of, no_inputs, no_script, run_from, saved_run, service_of, traced_run}
use Rattle.psy_run.specs.Services as service
use Rattle.psy_run.specs.declared.served.Served.{Served}
use Rattle.psy_run.specs.declared.served.Served.TheVariants as served
use Rattle.psy_history.proofs.lemmas.NoInputs.{are_no_inputs}

-- ---- what the laws say of code and statements that are alike

-- Two histories have the same lines
abbrev pub SameLines : System → System → Type 0
SameLines a b = (date : ℕ) → events a date ≡ events b date

-- As many actions that are due, with those that were before
abbrev pub SameCounts : System → System → Type 0
SameCounts a b = (dates until agent : ℕ) → due_count a agent (due_by until (history a dates agent)) ≡ due_count b agent (due_by until (history b dates agent))

-- The same least slacks
abbrev pub SameSlacks : System → System → Type 0
SameSlacks a b = (order : ℕ → List ℕ) (dates cycles until agent : ℕ) → least_slack a (turns_by a order cycles agent) agent (due_by until (history a dates agent)) ≡ least_slack b (turns_by b order cycles agent) agent (due_by until (history b dates agent))

-- As many messages held
abbrev pub SameHeld : System → System → Type 0
SameHeld a b = (until stream : ℕ) → most_held a until stream ≡ most_held b until stream

-- And reach as far back
abbrev pub SameReaches : System → System → Type 0
SameReaches a b = (order : ℕ → List ℕ) (dates cycles variable : ℕ) → reach a (turns_by a order cycles) (history a dates) variable ≡ reach b (turns_by b order cycles) (history b dates) variable

-- All of that
pub record AreAlike (a b : System) : Type 0 where
  pub lines : SameLines a b
  pub counts : SameCounts a b
  pub slacks : SameSlacks a b
  pub held : SameHeld a b
  pub reaches : SameReaches a b

-- Something holds of the code and the statements of each program that was compiled, with all inputs and stalls.
abbrev pub Always : (System → System → Type 0) → Type 0
Always Same = (unit : Whole) (code : Code) (nexts : List (List (List ℕ))) (stalls : ℕ → List Stall) (inputs : List (List ℤ)) → IsCompiled unit code nexts → AreInputs unit inputs
    → Same (coded unit code nexts stalls inputs) (stated unit nexts stalls inputs)

pub are_alike : Always SameLines → Always SameCounts → Always SameSlacks → Always SameHeld → Always SameReaches → Always AreAlike
are_alike lines counts slacks held reaches unit code nexts stalls inputs compiled are = record {
  lines = lines unit code nexts stalls inputs compiled are;
  counts = counts unit code nexts stalls inputs compiled are;
  slacks = slacks unit code nexts stalls inputs compiled are;
  held = held unit code nexts stalls inputs compiled are;
  reaches = reaches unit code nexts stalls inputs compiled are;
}

-- Something holds of them behind each sound opening.
abbrev pub Behind : (System → System → Type 0) → Type 0
Behind Same = (unit : Whole) (code : Code) (nexts : List (List (List ℕ))) (stalls : ℕ → List Stall) (inputs : List (List ℤ)) (opening : Opening) → IsCompiled unit code nexts → AreInputs unit inputs
    → IsSound (coded_behind unit code nexts stalls inputs opening) (OfText unit) code → Same (coded_behind unit code nexts stalls inputs opening) (stated_behind unit nexts stalls inputs opening)

-- As many actions of two histories are due
abbrev pub SameDue : System → System → Type 0
SameDue a b = (dates until agent : ℕ) → length (due_by until (history a dates agent)) ≡ length (due_by until (history b dates agent))

-- These have the same least slacks
abbrev pub SameDueSlacks : System → System → Type 0
SameDueSlacks a b = (order : ℕ → List ℕ) (dates cycles until agent : ℕ) → slack a.unit.quantum (turns_by a order cycles agent) (due_by until (history a dates agent)) ≡ slack b.unit.quantum (turns_by b order cycles agent) (due_by until (history b dates agent))

-- Numbers with the same least one have the same least one with one more.
least_with : (before : Option ℕ) (ns ms : List ℕ) → least_of ns ≡ least_of ms → least_of (numbers_in before ++ ns) ≡ least_of (numbers_in before ++ ms)
least_with None ns ms same = same
least_with (Some n) ns ms same = ap (lesser n) same

pub are_alike_behind : Behind SameLines → Behind SameDue → Behind SameDueSlacks → Behind SameHeld → Behind SameReaches → Behind AreAlike
are_alike_behind lines counts slacks held reaches unit code nexts stalls inputs opening compiled are sound = record {
  lines = lines unit code nexts stalls inputs opening compiled are sound;
  counts = λ dates until agent. ap (added_to (opening.count agent)) (counts unit code nexts stalls inputs opening compiled are sound dates until agent);
  slacks = λ order dates cycles until agent. least_with (opening.slack agent) _ _ (slacks unit code nexts stalls inputs opening compiled are sound order dates cycles until agent);
  held = held unit code nexts stalls inputs opening compiled are sound;
  reaches = reaches unit code nexts stalls inputs opening compiled are sound;
}

-- ---- the same text

-- Two histories of a program that begin behind as many dates
module _ (unit : Whole) (nexts : List (List (List ℕ))) (stalls : ℕ → List Stall) (inputs : List (List ℤ)) (these those : Executor) (opening other : Opening) where
  -- the one
  abbrev first : System
  first = record { unit = unit; nexts = nexts; executor = these; stalls = stalls; inputs = inputs; opening = opening }

  -- and the other
  abbrev second : System
  second = record { unit = unit; nexts = nexts; executor = those; stalls = stalls; inputs = inputs; opening = other }

  module _ (alike : AreAlike first second) (ties : ℕ → List ℕ) (sizes : Sizes) (until : ℕ) where
    same_lines : (date : ℕ) → text_of (lines_of first date) ≡ text_of (lines_of second date)
    same_lines date = ap (λ told. text_of (map (event_line second date) told)) (alike.lines date)

    same_agent : (agent : ℕ) → agent_end first (turns_by first ties (until * unit.quantum)) until agent ≡ agent_end second (turns_by second ties (until * unit.quantum)) until agent
    same_agent agent = λ i. agent_line (agent_at unit agent).name (alike.counts (until + 1) until agent i) (alike.slacks ties (until + 1) (until * unit.quantum) until agent i)

    same_variable : (variable : ℕ) → variable_end first (turns_by first ties (until * unit.quantum)) sizes until variable ≡ variable_end second (turns_by second ties (until * unit.quantum)) sizes until variable
    same_variable variable = ap (λ far. variable_line (variable_of second variable).name (get_or sizes.rings variable 0) far) (alike.reaches ties (until + 1) (until * unit.quantum) variable)

    same_stream : (stream : ℕ) → stream_end first sizes until stream ≡ stream_end second sizes until stream
    same_stream stream = ap (λ most. stream_line (stream_of second stream).name (get_or sizes.queues stream 0) most) (alike.held until stream)

    same_summary : summary_of first ties sizes until ≡ summary_of second ties sizes until
    same_summary = λ i. end_line until ∷ (map (fun_ext same_agent i) (range_with_len 0 (length unit.agents)) ++ (map (fun_ext same_variable i) (range_with_len 0 (length unit.variables)) ++ map (fun_ext same_stream i) (range_with_len 0 (length unit.streams))))

    same_text : opening.dates ≡ other.dates → run_text first ties sizes until ≡ run_text second ties sizes until
    same_text dates = λ i. flat_map (fun_ext same_lines i) (dates_from (dates i) (until + 1)) ++ text_of (same_summary i)

-- ---- rounds

-- The text of a run asks a script for its stalls and its orders alone.
pub same_but_rounds : (unit : Whole) (nexts : List (List (List ℕ))) (sizes : Sizes) (until : ℕ) (inputs : List (List ℤ)) (script other : Script) → script.stalls ≡ other.stalls → script.orders ≡ other.orders
    → service.text_of (service.Ran unit nexts sizes until inputs script) ≡ service.text_of (service.Ran unit nexts sizes until inputs other)
same_but_rounds unit nexts sizes until inputs script other stalls orders =
    let said : List Stall → List Order → Script = λ these those. record { stalls = these; orders = those; rounds = [] } in
    λ i. run_text (meaning_of unit nexts inputs (said (stalls i) (orders i))) (order_of unit (said (stalls i) (orders i))) sizes until

-- ---- what is left

-- The kernel of a run at its end
has_run : (kernel : Progress) (inputs : List (List ℤ)) (script : Script) (opening : Option State) → kernel.inputs ≡ inputs → kernel.script ≡ script → kernel.opening ≡ opening
    → HasRun kernel.plan.unit kernel.plan.nexts kernel.plan.sizes kernel.plan.until inputs script opening (ended kernel)
has_run kernel inputs script opening are is from = record {
  its_unit = refl;
  its_nexts = refl;
  its_sizes = refl;
  its_until = refl;
  its_inputs = are;
  its_script = is;
  its_opening = from;
  dates = refl;
  cycles = refl;
  given = refl;
}

-- A run leaves its kernel, once it has ended
pub ran_leaves : (kernel now : Progress) → CanServe (served.Ran kernel) → now ≡ ended kernel → Leaves (service_of (served.Ran kernel)) (Some now)
ran_leaves kernel now (is, plan, are, script) over =
    let ran = has_run kernel kernel.inputs kernel.script None refl refl (ap (λ (p : Progress). p.opening) is) in
    (now, refl, subst (λ (p : Progress). IsPlanned p.plan) (sym over) plan, subst (HasRun kernel.plan.unit kernel.plan.nexts kernel.plan.sizes kernel.plan.until kernel.inputs kernel.script None) (sym over) ran)

-- So does the run of the code of an image
pub executed_leaves : (kernel now : Progress) → CanServe (served.Executed kernel) → now ≡ ended kernel → Leaves (service_of (served.Executed kernel)) (Some now)
executed_leaves kernel now (is, plan, are, script) over =
    let ran = has_run kernel kernel.inputs kernel.script None refl refl (ap (λ (p : Progress). p.opening) is) in
    (now, refl, subst (λ (p : Progress). IsPlan p.plan) (sym over) plan, ap (λ (p : Progress). p.plan.code) over, subst (HasRun kernel.plan.unit kernel.plan.nexts kernel.plan.sizes kernel.plan.until kernel.inputs kernel.script None) (sym over) ran)

-- And so does the run of a program that was made
pub tried_leaves : (kernel now : Progress) → CanServe (served.Tried kernel) → now ≡ ended kernel → Leaves (service_of (served.Tried kernel)) (Some now)
tried_leaves kernel now (is, plan) over =
    let ran = has_run kernel (no_inputs kernel.plan.unit) no_script None (ap (λ (p : Progress). p.inputs) is) (ap (λ (p : Progress). p.script) is) (ap (λ (p : Progress). p.opening) is) in
    (now, refl, subst (λ (p : Progress). IsPlanned p.plan) (sym over) plan, subst (HasRun kernel.plan.unit kernel.plan.nexts kernel.plan.sizes kernel.plan.until (no_inputs kernel.plan.unit) no_script None) (sym over) ran)

-- A kernel that ran for its trace is left too,
pub traced_leaves : (kernel : Progress) (text : List ℕ) → HasTold traced_run kernel text → Leaves (traced_run kernel) (Some kernel)
traced_leaves kernel text has =
    let ran = has_run (booted kernel.plan kernel.inputs kernel.script) kernel.inputs kernel.script None refl refl refl in
    (kernel, refl, has.planned, subst (HasRun kernel.plan.unit kernel.plan.nexts kernel.plan.sizes kernel.plan.until kernel.inputs kernel.script None) (sym has.over) ran)

-- So is one that ran for its state.
pub saved_leaves : (kernel : Progress) (text : List ℕ) → HasTold saved_run kernel text → Leaves (saved_run kernel) (Some kernel)
saved_leaves kernel text has =
    let ran = has_run (booted kernel.plan kernel.inputs kernel.script) kernel.inputs kernel.script None refl refl refl in
    (kernel, refl, has.planned, subst (HasRun kernel.plan.unit kernel.plan.nexts kernel.plan.sizes kernel.plan.until kernel.inputs kernel.script None) (sym has.over) ran)

-- A kernel that was opened behind a state begins with it,
begins_behind : (kernel : Progress) (can : CanServe (served.Resumed kernel)) → kernel.opening ≡ Some can.state
begins_behind kernel can = ap (λ (p : Progress). p.opening) can.opened

-- Once it has ended it is left.
pub resumed_leaves : (kernel now : Progress) → CanServe (served.Resumed kernel) → now ≡ ended kernel → Leaves (service_of (served.Resumed kernel)) (Some now)
resumed_leaves kernel now can over =
    let ran = has_run kernel kernel.inputs kernel.script (Some can.state) refl refl (begins_behind kernel can) in
    let left : Leaves (run_from kernel (Some can.state)) (Some now) =
    (now, refl, subst (λ (p : Progress). IsPlanned p.plan) (sym over) can.planned, subst (HasRun kernel.plan.unit kernel.plan.nexts kernel.plan.sizes kernel.plan.until kernel.inputs kernel.script (Some can.state)) (sym over) ran) in
    subst (λ opening. Leaves (run_from kernel opening) (Some now)) (sym (begins_behind kernel can)) left

-- What is served leaves something
pub some_left : (done : Served) → CanServe done → (left : Option Progress) × Leaves (service_of done) left
some_left (served.Ran kernel) can = (Some (ended kernel), ran_leaves kernel (ended kernel) can refl)
some_left (served.Checked unit sizes lines extent) can = (None, refl)
some_left (served.Drawn unit graphs costs) can = (None, refl)
some_left (served.Made text) can = (None, refl)
some_left (served.Built image) can = (None, refl)
some_left (served.Audited acts looks) can = (None, refl)
some_left (served.Executed kernel) can = (Some (ended kernel), executed_leaves kernel (ended kernel) can refl)
some_left (served.Traced kernel text) can = (Some kernel, traced_leaves kernel text.items can)
some_left (served.Saved kernel text) can = (Some kernel, saved_leaves kernel text.items can)
some_left (served.Resumed kernel) can = (Some (ended kernel), resumed_leaves kernel (ended kernel) can refl)
some_left (served.Tried kernel) can = (Some (ended kernel), tried_leaves kernel (ended kernel) can refl)

-- ---- where a run begins

-- What began with some opening, or at date 0, began with its own.
began_opening : (plan : Plan) (inputs : List (List ℤ)) (script : Script) (opening : Option State) → (began plan inputs script opening).opening ≡ opening
began_opening plan inputs script None = refl
began_opening plan inputs script (Some state) = refl

pub begins : (kernel : Progress) (opening : Option State) → kernel ≡ began kernel.plan kernel.inputs kernel.script opening → kernel ≡ began kernel.plan kernel.inputs kernel.script kernel.opening
begins kernel opening is = is ∙ ap (began kernel.plan kernel.inputs kernel.script) (sym (ap (λ (p : Progress). p.opening) is ∙ began_opening kernel.plan kernel.inputs kernel.script opening))

-- ---- the text of what is served

-- A kernel writes the text of the history that begins with its opening.
from_opening : (kernel : Progress) (opening : Option State) → kernel.opening ≡ opening → run_text (system kernel) (order kernel) kernel.plan.sizes kernel.plan.until
    ≡ run_text (opened_of kernel.plan (beginning_of kernel.plan opening) kernel.inputs (stalls_of kernel.script)) (order kernel) kernel.plan.sizes kernel.plan.until
from_opening kernel opening is =
    ap (λ begun. run_text (opened_of kernel.plan (beginning_of kernel.plan begun) kernel.inputs (stalls_of kernel.script)) (order kernel) kernel.plan.sizes kernel.plan.until) is

-- One that was just booted writes that of the statements.
pub served_text : Always AreAlike → (kernel : Progress) → CanServe (served.Ran kernel) → run_text (system kernel) (order kernel) kernel.plan.sizes kernel.plan.until ≡ service.text_of (service_of (served.Ran kernel))
served_text law kernel (is, plan, are, script) =
    let unit = kernel.plan.unit in
    let code = kernel.plan.code in
    let nexts = kernel.plan.nexts in
    let stalls = stalls_of kernel.script in
    from_opening kernel None (ap (λ (p : Progress). p.opening) is)
    ∙ same_text unit nexts stalls kernel.inputs (by_code code) (by_statements unit) (plain unit nexts (by_code code)) (plain unit nexts (by_statements unit))
    (law unit code nexts stalls kernel.inputs plan.stated.compiled are) (order kernel) kernel.plan.sizes kernel.plan.until refl

-- One of an image writes that of its code.
pub executed_text : (kernel : Progress) → CanServe (served.Executed kernel) → run_text (system kernel) (order kernel) kernel.plan.sizes kernel.plan.until ≡ service.text_of (service_of (served.Executed kernel))
executed_text kernel (is, plan, are, script) = from_opening kernel None (ap (λ (p : Progress). p.opening) is)

-- An opening from which runs of a plan may go on is sound by the ways of the statements.
abbrev pub IsByText : Type 0
IsByText = (plan : Plan) (opening : Opening) (inputs : List (List ℤ)) (stalls : ℕ → List Stall) → IsPlan plan → AreSizes plan.unit (OfText plan.unit) plan.nexts plan.sizes → IsSoundFor plan opening inputs stalls
    → IsSound (opened_of plan opening inputs stalls) (OfText plan.unit) plan.code

-- One that was opened behind a state writes that of the statements behind it.
pub resumed_text : Behind AreAlike → IsByText → (kernel : Progress) → CanServe (served.Resumed kernel) → run_text (system kernel) (order kernel) kernel.plan.sizes kernel.plan.until ≡ service.text_of (service_of (served.Resumed kernel))
resumed_text law by_text kernel can =
    let plan = kernel.plan in
    let unit = plan.unit in
    let nexts = plan.nexts in
    let stalls = stalls_of kernel.script in
    let opening = behind plan can.state in
    let sound = by_text plan opening kernel.inputs stalls can.planned.fits can.planned.stated.buffers can.sound in
    let alike = law unit plan.code nexts stalls kernel.inputs opening can.planned.stated.compiled can.its_inputs sound in
    let made : plan ≡ compiled_plan unit nexts plan.sizes plan.until = λ i. record { unit = unit; code = can.planned.made i; nexts = nexts; sizes = plan.sizes; until = plan.until } in
    from_opening kernel (Some can.state) (begins_behind kernel can)
    ∙ same_text unit nexts stalls kernel.inputs (by_code plan.code) (by_statements unit) opening opening alike (order kernel) plan.sizes plan.until refl
    ∙ ap (λ (p : Plan). run_text (stated_behind unit nexts stalls kernel.inputs (behind p can.state)) (order kernel) plan.sizes plan.until) made
    ∙ sym (ap (λ begun. service.text_of (run_from kernel begun)) (begins_behind kernel can))

-- The trace of a run is the one of the statements
abbrev pub SameTraces : System → System → Type 0
SameTraces a b = (order : ℕ → List ℕ) (sizes : Sizes) (until : ℕ) → trace_text a order sizes until ≡ trace_text b order sizes until

pub traced_text : Always SameTraces → (kernel : Progress) → CanServe (served.Ran kernel) → trace_text (system kernel) (order kernel) kernel.plan.sizes kernel.plan.until ≡ service.text_of (traced_run kernel)
traced_text law kernel (is, plan, are, script) =
    ap (λ opening. trace_text (opened_of kernel.plan (beginning_of kernel.plan opening) kernel.inputs (stalls_of kernel.script)) (order kernel) kernel.plan.sizes kernel.plan.until) (ap (λ (p : Progress). p.opening) is)
    ∙ law kernel.plan.unit kernel.plan.code kernel.plan.nexts (stalls_of kernel.script) kernel.inputs plan.stated.compiled are (order kernel) kernel.plan.sizes kernel.plan.until

-- And so does one that writes its summary alone
pub tried_text : Always AreAlike → (kernel : Progress) → CanServe (served.Tried kernel)
    → text_of (summary_of (system kernel) (order kernel) kernel.plan.sizes kernel.plan.until) ≡ service.text_of (service_of (served.Tried kernel))
tried_text law kernel (is, plan) =
    let unit = kernel.plan.unit in
    let inputs = ap (λ (p : Progress). p.inputs) is in
    let script = ap (λ (p : Progress). p.script) is in
    let opening = ap (λ (p : Progress). p.opening) is in
    let alike = law unit kernel.plan.code kernel.plan.nexts (stalls_of no_script) (no_inputs unit) plan.stated.compiled (are_no_inputs unit) in
    (λ i. text_of (summary_of (opened_of kernel.plan (beginning_of kernel.plan (opening i)) (inputs i) (stalls_of (script i))) (order_of unit (script i)) kernel.plan.sizes kernel.plan.until))
    ∙ ap text_of (same_summary unit kernel.plan.nexts (stalls_of no_script) (no_inputs unit) (by_code kernel.plan.code) (by_statements unit) (plain unit kernel.plan.nexts (by_code kernel.plan.code)) (plain unit kernel.plan.nexts (by_statements unit)) alike (order_of unit no_script) kernel.plan.sizes kernel.plan.until)

-- ---- its bounds

-- Runs of a plan keep their bounds.
abbrev pub Keeps : Type 0
Keeps = (plan : Plan) (inputs : List (List ℤ)) (script : Script) → IsStatedPlan plan → AreInputs plan.unit inputs → IsScript plan.unit script
    → KeepsBounds (meaning_of plan.unit plan.nexts inputs script) (order_of plan.unit script) plan.sizes plan.until

-- So do runs of code by plans that fit.
abbrev pub KeepsByCode : Type 0
KeepsByCode = (plan : Plan) (inputs : List (List ℤ)) (script : Script) → IsPlan plan → AreInputs plan.unit inputs → IsScript plan.unit script
    → KeepsBounds (meaning_by plan.unit plan.code plan.nexts inputs script) (order_of plan.unit script) plan.sizes plan.until

-- And so do runs that go on from a state.
abbrev pub KeepsBehind : Type 0
KeepsBehind = (plan : Plan) (state : State) (inputs : List (List ℤ)) (script : Script) → IsPlanned plan → AreInputs plan.unit inputs → IsScript plan.unit script
    → IsSoundFor plan (behind plan state) inputs (stalls_of script)
    → KeepsBoundsBehind (meaning_behind plan.unit plan.nexts plan.sizes plan.until state inputs script) (order_of plan.unit script) plan.sizes plan.until

-- A script with nothing in it
pub is_no_script : (unit : Whole) → IsScript unit no_script
is_no_script unit = record {
  stalls = λ k d none. absurd (omega (arith, none));
  stalls_rise = λ i j d less none. absurd (omega (arith, none));
  orders = λ k d none. absurd (omega (arith, none));
  orders_rise = λ i j d less none. absurd (omega (arith, none));
  rounds = λ k d none. absurd (omega (arith, none));
  rounds_rise = λ i j d less none. absurd (omega (arith, none));
}

-- What is served keeps its bounds
pub is_bounded : Keeps → KeepsByCode → KeepsBehind → (done : Served) → CanServe done → IsBounded (service_of done)
is_bounded keeps by_code from_state (served.Ran kernel) (is, plan, are, script) = keeps kernel.plan kernel.inputs kernel.script plan.stated are script
is_bounded keeps by_code from_state (served.Traced kernel text) can = keeps kernel.plan kernel.inputs kernel.script can.planned.stated can.its_inputs can.its_script
is_bounded keeps by_code from_state (served.Saved kernel text) can = keeps kernel.plan kernel.inputs kernel.script can.planned.stated can.its_inputs can.its_script
is_bounded keeps by_code from_state (served.Resumed kernel) can =
    let kept : IsBounded (run_from kernel (Some can.state)) = from_state kernel.plan can.state kernel.inputs kernel.script can.planned can.its_inputs can.its_script can.sound in
    subst (λ opening. IsBounded (run_from kernel opening)) (sym (begins_behind kernel can)) kept
is_bounded keeps by_code from_state (served.Checked unit sizes lines extent) can = tt
is_bounded keeps by_code from_state (served.Drawn unit graphs costs) can = tt
is_bounded keeps by_code from_state (served.Made text) can = tt
is_bounded keeps by_code from_state (served.Built image) can = tt
is_bounded keeps by_code from_state (served.Audited acts looks) can = tt
is_bounded keeps by_code from_state (served.Executed kernel) (is, plan, are, script) = by_code kernel.plan kernel.inputs kernel.script plan are script
is_bounded keeps by_code from_state (served.Tried kernel) (is, plan) = keeps kernel.plan (no_inputs kernel.plan.unit) no_script plan.stated (are_no_inputs kernel.plan.unit) (is_no_script kernel.plan.unit)
