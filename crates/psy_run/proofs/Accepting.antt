-- What words come to keeps its bounds; what a check tells is borne out, and what it accepts can be run.
use Rattle.std.proofs.Common.{◌≡◌, ◌↔◌, ◌∙◌, refl, sym, subst, ap, ℕ, ◌*◌, ◌≤◌, List, length, Option, None, Some, ℤ}
use Rattle.std.specs.Prelude.{FitsSigned}
use Rattle.std.specs.Int.{w32}
use Rattle.std.specs.List.{All}
use Rattle.psy_base.specs.declared.limits.TheConstants.{FILE_BYTES, RUN}
use Rattle.psy_base.specs.declared.ways.Ways.{Ways as WayLists}
use Rattle.psy_budget.specs.declared.charge.Stall.{Stall}
use Rattle.psy_dates.specs.Beginnings.{behind}
use Rattle.psy_dates.specs.declared.opening.Opening.{Opening as State}
use Rattle.psy_dates.specs.declared.plan.Plan.{Plan}
use Rattle.psy_dates.specs.Plans.{IsPlan, IsSoundFor}
use Rattle.psy_door.specs.Files.{Files, bytes_under}
use Rattle.psy_gen.specs.Emission.{code_of}
use Rattle.psy_graph.specs.declared.graph.Graph.{Graph as Drawing}
use Rattle.psy_graph.specs.Graphs.{AreGraphs, AreGraphsBy, IsTimingOf}
use Rattle.psy_history.specs.Compiled.{AreInputs}
use Rattle.psy_history.specs.declared.told.Script.{Script as Said}
use Rattle.psy_history.specs.Scripts.{IsScript, order_of, stalls_of}
use Rattle.psy_image.specs.declared.image.Image.{Image as CodeImage}
use Rattle.psy_image.specs.Images.{spells_image}
use Rattle.psy_make.specs.Text.{made_text}
use Rattle.psy_meaning.specs.Alike.{ActsAlike}
use Rattle.psy_meaning.specs.Flow.{AreAllNexts}
use Rattle.psy_meaning.specs.ListedWays.{AreWaysOf}
use Rattle.psy_meaning.specs.Timing.{Timing}
use Rattle.psy_meaning.specs.Units.{IsBare, IsOfText}
use Rattle.psy_script.specs.Inputs.{AreListsOf}
use Rattle.psy_script.specs.Script.{IsScriptOf}
use Rattle.psy_snap.specs.Bytes.{spelling}
use Rattle.psy_snap.specs.Faults.{faults_of, least_fault}
use Rattle.psy_snap.specs.Forms.{form_of}
use Rattle.psy_snap.specs.Ranges.{FitsState}
use Rattle.psy_snap.specs.Shapes.{HasForm}
use Rattle.psy_tree.specs.declared.unit.Unit.{Unit as Whole}
use Rattle.psy_history.proofs.lemmas.NoInputs.{are_no_inputs}
use Rattle.psy_plan.specs.Courses.{in_row as plan_in_row}
use Rattle.psy_plan.specs.Supplies.{IsSupply, Supply}
use Rattle.psy_plan.specs.Supplies as supplies
use Rattle.psy_run.specs.Accepted.{IsRunnable}
use Rattle.psy_run.specs.Answer.{Answers, refused, served, compiling, supplying, supplying_by, listing, scripting, running, trying, executing, tracing, saving, resuming, serving, answering}
use Rattle.psy_run.specs.Asked.{Asks, Command, Run, Check, Graph, Make, Trial, Build, Exec, Audit, Trace, Save, Resume}
use Rattle.psy_run.specs.Bounds.{IsBounded, IsBorneOut, KeepsBounds, KeepsBoundsBehind}
use Rattle.psy_run.specs.Courses.{in_row}
use Rattle.psy_run.specs.Planned.{IsPlanned, IsStatedPlan}
use Rattle.psy_run.specs.Services.{Service, Ran, compiled_plan, meaning_behind, meaning_by, meaning_of, no_inputs, no_script}
use Rattle.psy_run.specs.Steps.{IsStateOf}
use Rattle.psy_verify.specs.Fits.{IsChecked}
use Rattle.psy_run.proofs.AskingForms.{decided_asking}
use Rattle.psy_run.proofs.Courses.{gives_then}
use Rattle.psy_run.proofs.DecidedAnswers.{compiled, translated}
use Rattle.psy_run.proofs.DecidedSteps.{TextsHold}
use Rattle.psy_run.proofs.MeaningText.{Keeps, KeepsBehind, KeepsByCode, is_no_script}
use Rattle.psy_run.proofs.PlanLemmas.{Apart, is_feasible_for}
use Rattle.psy_run.proofs.TopLemmas.{AllBounded, status_some}

-- What is supplied has its graphs, points, sizes and lines, and processors that supply its demand.
abbrev pub SuppliesHold : Type 0
SuppliesHold = (unit : Whole) (until : ℕ) (supply : Supply) → IsOfText unit → (supplies.supplying unit until).gives supply → IsSupply unit until supply

-- Where a state has the form of a plan's, numbers in their ranges and no fault, a run of the plan may go on from it.
abbrev pub StatesHold : Type 0
StatesHold = (plan : Plan) (graphs : List Drawing) (state : State) (inputs : List (List ℤ)) (stalls : ℕ → List Stall) → AreGraphsBy plan.unit plan.nexts graphs → HasForm (form_of plan graphs) state → FitsState state
    → least_fault (faults_of (form_of plan graphs) (spelling state)) ≡ None → IsSoundFor plan (behind plan state) inputs stalls

-- ---- bounds

-- What the laws of the steps say of a run
pub record RunsHold : Type 0 where
  pub of_text : TextsHold
  pub short : (seed : ℕ) → length (made_text seed) ≤ FILE_BYTES
  pub alike : (unit : Whole) → IsOfText unit → ActsAlike unit (code_of unit)
  pub timing : (unit : Whole) (number : ℕ) (timing other : Timing) → IsTimingOf unit number timing → IsTimingOf unit number other → timing ≡ other
  pub apart : Apart
  pub inputs : (unit : Whole) (text : List ℕ) (lists : List (List ℤ)) → AreListsOf unit text lists → AreInputs unit lists
  pub script : (unit : Whole) (text : List ℕ) (said : Said) → IsScriptOf unit text said → IsScript unit said
  pub keeps : Keeps
  pub met : SuppliesHold
  pub sound : (bytes : List ℕ) (it : CodeImage) → spells_image it bytes → IsBare it.unit × All (λ v. FitsSigned w32 v.init) it.unit.variables
  pub fits : (plan : Plan) (ways : WayLists) (supply : Supply) → IsBare plan.unit → All (λ v. FitsSigned w32 v.init) plan.unit.variables → IsChecked plan.unit plan.code ways → (supplying_by plan.unit ways plan.until).gives supply
      → plan.nexts ≡ ways.nexts → plan.sizes ≡ supply.sizes → IsPlan plan
  pub keeps_by : KeepsByCode
  pub ways : (unit : Whole) (nexts : List (List (List ℕ))) → IsOfText unit → AreAllNexts unit nexts → (ways : WayLists) × AreWaysOf unit ways
  pub fits_text : (plan : Plan) (ways : WayLists) → IsStatedPlan plan → AreWaysOf plan.unit ways → IsPlan plan
  pub graphs : (unit : Whole) (nexts : List (List (List ℕ))) (graphs : List Drawing) → AreAllNexts unit nexts → AreGraphs unit graphs ↔ AreGraphsBy unit nexts graphs
  pub states : StatesHold
  pub keeps_behind : KeepsBehind

-- The points that follow are those of the ways.
supplied_nexts : (unit : Whole) (ways : WayLists) (until : ℕ) (supply : Supply) → (supplies.supplying_by unit ways until).gives supply → supply.nexts ≡ ways.nexts
unfolding plan_in_row
supplied_nexts unit ways until supply (graphs, drawn, (sizes, sized, (lines, rated, (extent, looked, (few, held, (done, feasible, is)))))) = ap (λ (s : Supply). s.nexts) is

module _ (hold : RunsHold) where
  -- A program that is supplied has a plan,
  supplied_plan : (unit : Whole) (until : ℕ) (supply : Supply) → IsOfText unit → IsSupply unit until supply → IsStatedPlan (compiled_plan unit supply.nexts supply.sizes until)
  supplied_plan unit until supply text is = record {
    compiled = record { text = text; alike = hold.alike unit text; followed = is.followed };
    buffers = is.sized;
    supplied = is_feasible_for hold.timing hold.apart (compiled_plan unit supply.nexts supply.sizes until) text.bare is.followed supply is;
  }

  -- and so keeps its bounds.
  supplied_bounded : (unit : Whole) (until : ℕ) (supply : Supply) (lists : List (List ℤ)) (said : Said) → IsOfText unit → (supplying unit until).gives supply → AreInputs unit lists → IsScript unit said
      → KeepsBounds (meaning_of unit supply.nexts lists said) (order_of unit said) supply.sizes until
  supplied_bounded unit until supply lists said text supplied are script =
      hold.keeps (compiled_plan unit supply.nexts supply.sizes until) lists said (supplied_plan unit until supply text (hold.met unit until supply text supplied)) are script

  -- It goes on from a state that its bytes spell without a fault, and keeps its bounds behind that.
  restored_bounded : (unit : Whole) (until : ℕ) (supply : Supply) (bytes : List ℕ) (state : State) (lists : List (List ℤ)) (said : Said) → IsOfText unit → (supplying unit until).gives supply
      → IsStateOf (form_of (compiled_plan unit supply.nexts supply.sizes until) supply.graphs) bytes state → AreInputs unit lists → IsScript unit said
      → KeepsBoundsBehind (meaning_behind unit supply.nexts supply.sizes until state lists said) (order_of unit said) supply.sizes until
  restored_bounded unit until supply bytes state lists said text supplied restored are script =
      let plan = compiled_plan unit supply.nexts supply.sizes until in
      let is = hold.met unit until supply text supplied in
      let stated = supplied_plan unit until supply text is in
      let (ways, listed) = hold.ways unit supply.nexts text is.followed in
      let planned : IsPlanned plan = record { made = refl; stated = stated; fits = hold.fits_text plan ways stated listed } in
      let none = subst (λ text. least_fault (faults_of (form_of plan supply.graphs) text) ≡ None) (sym restored.spelled) restored.sound in
      let sound = hold.states plan supply.graphs state lists (stalls_of said) ((hold.graphs unit supply.nexts supply.graphs is.followed).0 is.drawn) restored.formed restored.ranges none in
      hold.keeps_behind plan state lists said planned are script sound

  -- The lists of an inputs file are inputs of the program.
  listed_inputs : (files : Option Files) (unit : Whole) (inputs : Option (List ℕ)) (lists : List (List ℤ)) → (listing files unit inputs).gives lists → AreInputs unit lists
  unfolding in_row
  listed_inputs files unit None lists is = subst (AreInputs unit) (sym is) (are_no_inputs unit)
  listed_inputs files unit (Some name) lists (bytes, read, stated) = hold.inputs unit bytes lists stated

  -- The script of a script file is one of the program.
  told_script : (files : Option Files) (unit : Whole) (script : Option (List ℕ)) (said : Said) → (scripting files unit script).gives said → IsScript unit said
  unfolding in_row
  told_script files unit None said is = subst (IsScript unit) (sym is) (is_no_script unit)
  told_script files unit (Some name) said (bytes, read, stated) = hold.script unit bytes said stated

  running_bounded : (files : Option Files) (name : List ℕ) (until : ℕ) (inputs script : Option (List ℕ)) (done : Service) → (running files name until inputs script).gives done → IsBounded done
  unfolding in_row
  running_bounded files name until inputs script done (unit, made, (supply, supplied, (lists, listed, (said, told, (paced, fits, is))))) =
      subst IsBounded (sym is)
      (supplied_bounded unit until supply lists said (compiled hold.of_text files name unit made) supplied (listed_inputs files unit inputs lists listed) (told_script files unit script said told))

  tracing_bounded : (files : Option Files) (name : List ℕ) (until : ℕ) (inputs script : Option (List ℕ)) (done : Service) → (tracing files name until inputs script).gives done → IsBounded done
  unfolding in_row
  tracing_bounded files name until inputs script done (unit, made, (supply, supplied, (lists, listed, (said, told, (paced, few, (fits, short, is)))))) =
      subst IsBounded (sym is)
      (supplied_bounded unit until supply lists said (compiled hold.of_text files name unit made) supplied (listed_inputs files unit inputs lists listed) (told_script files unit script said told))

  saving_bounded : (files : Option Files) (name : List ℕ) (date : ℕ) (inputs script : Option (List ℕ)) (done : Service) → (saving files name date inputs script).gives done → IsBounded done
  unfolding in_row
  saving_bounded files name date inputs script done (unit, made, (supply, supplied, (lists, listed, (said, told, (paced, few, (left, leaves, is)))))) =
      subst IsBounded (sym is)
      (supplied_bounded unit date supply lists said (compiled hold.of_text files name unit made) supplied (listed_inputs files unit inputs lists listed) (told_script files unit script said told))

  resuming_bounded : (files : Option Files) (name state : List ℕ) (until : ℕ) (inputs script : Option (List ℕ)) (done : Service) → (resuming files name state until inputs script).gives done → IsBounded done
  unfolding in_row
  resuming_bounded files name state until inputs script done (unit, made, (supply, supplied, (bytes, read, (opening, restored, (lists, listed, (said, told, (paced, few, is))))))) =
      subst IsBounded (sym is)
      (restored_bounded unit until supply bytes opening lists said (compiled hold.of_text files name unit made) supplied restored (listed_inputs files unit inputs lists listed) (told_script files unit script said told))

  trying_bounded : (seed until : ℕ) (done : Service) → (trying seed until).gives done → IsBounded done
  unfolding in_row
  trying_bounded seed until done (unit, made, (supply, supplied, (paced, fits, is))) =
      subst IsBounded (sym is)
      (supplied_bounded unit until supply (no_inputs unit) no_script (translated hold.of_text (made_text seed) unit (hold.short seed) made) supplied (are_no_inputs unit) (is_no_script unit))

  -- An image that is supplied has a plan too.
  executed_bounded : (bytes : List ℕ) (it : CodeImage) (ways : WayLists) (until : ℕ) (supply : Supply) (lists : List (List ℤ)) (said : Said) → spells_image it bytes → IsChecked it.unit it.code ways
      → (supplying_by it.unit ways until).gives supply → AreInputs it.unit lists → IsScript it.unit said → KeepsBounds (meaning_by it.unit it.code supply.nexts lists said) (order_of it.unit said) supply.sizes until
  executed_bounded bytes it ways until supply lists said spelled checked supplied are script =
      let plan : Plan = record { unit = it.unit; code = it.code; nexts = supply.nexts; sizes = supply.sizes; until = until } in
      let sound = hold.sound bytes it spelled in
      hold.keeps_by plan lists said (hold.fits plan ways supply sound.0 sound.1 checked supplied (supplied_nexts it.unit ways until supply supplied) refl) are script

  executing_bounded : (files : Option Files) (name : List ℕ) (until : ℕ) (inputs script : Option (List ℕ)) (done : Service) → (executing files name until inputs script).gives done → IsBounded done
  unfolding in_row
  executing_bounded files name until inputs script done (bytes, read, (it, spelled, (ways, checked, (supply, supplied, (lists, listed, (said, told, (paced, fits, is))))))) =
      subst IsBounded (sym is) (executed_bounded bytes it ways until supply lists said spelled checked supplied (listed_inputs files it.unit inputs lists listed) (told_script files it.unit script said told))

  serving_bounded : (files : Option Files) (command : Command) (done : Service) → (serving files command).gives done → IsBounded done
  unfolding in_row
  serving_bounded files (Run name until inputs script) done gives = running_bounded files name until inputs script done gives
  serving_bounded files (Check name until) done (unit, made, (supply, supplied, is)) = subst IsBounded (sym is) tt
  serving_bounded files (Graph name) done (unit, made, (graphs, drawn, (costs, found, is))) = subst IsBounded (sym is) tt
  serving_bounded files (Make seed) done is = subst IsBounded (sym is) tt
  serving_bounded files (Trial seed until) done gives = trying_bounded seed until done gives
  serving_bounded files (Build name) done (unit, made, (image, imaged, is)) = subst IsBounded (sym is) tt
  serving_bounded files (Exec name until inputs script) done gives = executing_bounded files name until inputs script done gives
  serving_bounded files (Audit name until trace script) done (unit, made, (supply, supplied, (text, read, (said, told, (paced, fits, (counts, judged, is)))))) = subst IsBounded (sym is) tt
  serving_bounded files (Trace name until inputs script) done gives = tracing_bounded files name until inputs script done gives
  serving_bounded files (Save name date inputs script) done gives = saving_bounded files name date inputs script done gives
  serving_bounded files (Resume name state until inputs script) done gives = resuming_bounded files name state until inputs script done gives

  pub answering_bounded : (words : List (List ℕ)) (files : Option Files) (done : Service) → (answering words files).gives done → IsBounded done
  unfolding in_row
  answering_bounded words files done (command, asks, gives) = serving_bounded files command done gives

-- ---- what a check tells

module _ (of_text : TextsHold) (met : SuppliesHold) where
  serving_borne_out : (files : Option Files) (command : Command) (done : Service) → (serving files command).gives done → IsBorneOut done
  unfolding in_row
  serving_borne_out files (Run name until inputs script) done (unit, made, (supply, supplied, (lists, listed, (said, told, (paced, fits, is))))) = subst IsBorneOut (sym is) tt
  serving_borne_out files (Check name until) done (unit, made, (supply, supplied, is)) =
      let its = met unit until supply (compiled of_text files name unit made) supplied in
      subst IsBorneOut (sym is) (supply.graphs, its.drawn, its.rated, its.met)
  serving_borne_out files (Graph name) done (unit, made, (graphs, drawn, (costs, found, is))) = subst IsBorneOut (sym is) tt
  serving_borne_out files (Make seed) done is = subst IsBorneOut (sym is) tt
  serving_borne_out files (Trial seed until) done (unit, made, (supply, supplied, (paced, fits, is))) = subst IsBorneOut (sym is) tt
  serving_borne_out files (Build name) done (unit, made, (image, imaged, is)) = subst IsBorneOut (sym is) tt
  serving_borne_out files (Exec name until inputs script) done (bytes, read, (it, spelled, (ways, checked, (supply, supplied, (lists, listed, (said, told, (paced, fits, is))))))) = subst IsBorneOut (sym is) tt
  serving_borne_out files (Audit name until trace script) done (unit, made, (supply, supplied, (text, read, (said, told, (paced, fits, (counts, judged, is)))))) = subst IsBorneOut (sym is) tt
  serving_borne_out files (Trace name until inputs script) done (unit, made, (supply, supplied, (lists, listed, (said, told, (paced, few, (fits, short, is)))))) = subst IsBorneOut (sym is) tt
  serving_borne_out files (Save name date inputs script) done (unit, made, (supply, supplied, (lists, listed, (said, told, (paced, few, (left, leaves, is)))))) = subst IsBorneOut (sym is) tt
  serving_borne_out files (Resume name state until inputs script) done (unit, made, (supply, supplied, (bytes, read, (opening, restored, (lists, listed, (said, told, (paced, few, is))))))) = subst IsBorneOut (sym is) tt

  pub answering_borne_out : (words : List (List ℕ)) (files : Option Files) (done : Service) → (answering words files).gives done → IsBorneOut done
  unfolding in_row
  answering_borne_out words files done (command, asks, gives) = serving_borne_out files command done gives

-- ---- what is accepted

-- Where the status is 0, something is given.
given_by : (words : List (List ℕ)) (files : Option Files) (status : ℕ) (text : List ℕ) → Answers words files status text → status ≡ 0 → (done : Service) × (answering words files).gives done
given_by words files _ _ (refused refusal stops) zero = absurd (status_some refusal zero)
given_by words files _ _ (served done gives) zero = (done, gives)

-- What a program has that a check accepts
record IsAccepted (files : Files) (program : List ℕ) (until : ℕ) : Type 0 where
  unit : Whole
  supply : Supply
  made : (compiling (Some files) program).gives unit
  supplied : (supplying unit until).gives supply

accepted_by : (files : Files) (words : List (List ℕ)) (program : List ℕ) (until : ℕ) (text : List ℕ) → Asks words (Check program until) → Answers words (Some files) 0 text → IsAccepted files program until
unfolding in_row
accepted_by files words program until text asks answers =
    let (done, (command, asked, gives)) = given_by words (Some files) 0 text answers refl in
    let same : command ≡ Check program until = (decided_asking words).one.gift command (Check program until) asked asks in
    let (unit, made, (supply, supplied, is)) = subst (λ c. (serving (Some files) c).gives done) same gives in
    record { unit = unit; supply = supply; made = made; supplied = supplied }

-- Another file with the same bytes is compiled to the same program.
compiled_again : (files others : Files) (program again : List ℕ) (unit : Whole) → bytes_under others again ≡ bytes_under files program → (compiling (Some files) program).gives unit → (compiling (Some others) again).gives unit
unfolding in_row
compiled_again files others program again unit same (bytes, (few, is), made) = (bytes, (few, is ∙ sym same), made)

pub is_runnable : AllBounded → TextsHold → SuppliesHold → (files others : Files) (checked ran : List (List ℕ)) (program again : List ℕ) (until : ℕ) (inputs script : Option (List ℕ)) (text : List ℕ)
    → Asks checked (Check program until) → Answers checked (Some files) 0 text → Asks ran (Run again until inputs script) → bytes_under others again ≡ bytes_under files program
    → IsRunnable ran others again until inputs script
is_runnable bounded of_text met files others checked ran program again until inputs script text asks answers runs same =
    let accepted = accepted_by files checked program until text asks answers in
    let unit = accepted.unit in
    let supply = accepted.supply in
    let made = compiled_again files others program again unit same accepted.made in
    let its = met unit until supply (compiled of_text (Some files) program unit accepted.made) accepted.supplied in
    let gives : (lists : List (List ℤ)) (said : Said) → (listing (Some others) unit inputs).gives lists → (scripting (Some others) unit script).gives said → until * unit.quantum ≤ RUN
    → (answering ran (Some others)).gives (Ran unit supply.nexts supply.sizes until lists said) =
    λ lists said listed told fits. gives_then _ _ (Run again until inputs script) _ runs
    (gives_then _ _ unit _ made (gives_then _ _ supply _ accepted.supplied (gives_then _ _ lists _ listed (gives_then _ _ said _ told (gives_then _ _ tt _ fits refl))))) in
    record {
      unit = unit;
      nexts = supply.nexts;
      sizes = supply.sizes;
      compiled = made;
      followed = its.followed;
      sized = its.sized;
      served = λ lists said listed told fits. record {
        answered = served (Ran unit supply.nexts supply.sizes until lists said) (gives lists said listed told fits);
        bounded = bounded ran (Some others) (Ran unit supply.nexts supply.sizes until lists said) (gives lists said listed told fits);
      };
    }
