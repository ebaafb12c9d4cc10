-- What a given service has: a program of a text, a date up to which it runs, and sizes; so what it writes can be told, and is read.
use Rattle.std.proofs.Common.{◌≡◌, refl, sym, subst, ℕ, ◌*◌, ◌<◌, ◌≤◌, List, All, length, get_or, slice_get, Option, Some, None, ℤ, arith}
use Rattle.std.specs.Prelude.{FitsSigned}
use Rattle.std.specs.Int.{w32}
use Rattle.std.proofs.lemmas.Option.{slice_get-get_or, slice_get_within}
use Rattle.psy_base.specs.declared.limits.TheConstants.{COST, FILE_BYTES, RUN, UNTIL}
use Rattle.psy_base.specs.declared.message.Message.{Message}
use Rattle.psy_base.specs.declared.sizes.Sizes.{Sizes}
use Rattle.psy_lists.proofs.lemmas.Places.{there}
use Rattle.psy_budget.specs.declared.charge.Stall.{Stall}
use Rattle.psy_door.specs.Files.{Files}
use Rattle.psy_flow.specs.Costs.{AreAllCosts}
use Rattle.psy_graph.specs.declared.graph.Graph.{Graph}
use Rattle.psy_graph.specs.Graphs.{AreGraphs}
use Rattle.psy_graph.specs.Near.{IsNear}
use Rattle.psy_history.specs.Compiled.{AreInputs, stated}
use Rattle.psy_history.specs.Scheduled.{turns_by}
use Rattle.psy_kernel.specs.Texts.{summary_of, text_of as lines_text}
use Rattle.psy_make.specs.Text.{made_text}
use Rattle.psy_history.specs.Actions.{System}
use Rattle.psy_meaning.specs.KnownWays.{OfText}
use Rattle.psy_meaning.specs.BufferSizes.{AreSizes}
use Rattle.psy_history.specs.History.{history}
use Rattle.psy_history.specs.Schedule.{Turn}
use Rattle.psy_meaning.specs.Units.{IsOfText}
use Rattle.psy_history.specs.Visible.{messages, published}
use Rattle.psy_notes.specs.Stands.{graph_begins, run_begins}
use Rattle.psy_notes.specs.Texts.{BreaksAt, IsText}
use Rattle.psy_notes.specs.declared.stand.Stand.{Stand}
use Rattle.psy_log.specs.declared.note.Note.{Note}
use Rattle.psy_tree.specs.declared.unit.Unit.{Unit as Whole}
use Rattle.psy_window.specs.Windows.{IsEdge}
use Rattle.psy_history.specs.declared.told.Script.{Script}
use Rattle.psy_plan.specs.Programs.{IsProgram}
use Rattle.psy_plan.specs.Supplies.{IsSupply, Supply}
use Rattle.psy_plan.specs.Supplies as plan
use Rattle.psy_run.specs.Answer.{answering, building, checking, compiling, drawing, executing, judging, listing, resuming, running, saving, serving, supplying, tracing, translating, trying}
use Rattle.psy_run.specs.Bounds.{IsBounded, KeepsBounds}
use Rattle.psy_run.specs.Courses.{in_row}
use Rattle.psy_run.specs.Services.{Service, Ran, Drawn, meaning_of, no_inputs, no_script, text_of}
use Rattle.psy_script.specs.Inputs.{AreListsOf}
use Rattle.psy_run.specs.Asked.{Asks, Command, asks_check, asks_graph, asks_make, asks_run, asks_run_with_inputs, asks_run_with_script, asks_trial, asks_build, asks_exec, asks_exec_with_inputs, asks_exec_with_script, asks_audit, asks_audit_with_script, asks_trace, asks_trace_with_inputs, asks_trace_with_script, asks_save, asks_save_with_inputs, asks_save_with_script, asks_resume, asks_resume_with_inputs, asks_resume_with_script}
use Rattle.psy_history.specs.Scripts.{order_of, stalls_of}
use Rattle.psy_agree.specs.Readable.{IsRead, IsReadBack}
use Rattle.psy_history.proofs.lemmas.NoInputs.{are_no_inputs}
use Rattle.psy_agree.proofs.GraphFacts.{graphs_tellable}
use Rattle.psy_agree.proofs.GraphNotes.{graphs_are_read}
use Rattle.psy_agree.proofs.RunFacts.{HasValues, run_tellable}
use Rattle.psy_agree.proofs.RunNotes.{IsTellableRun, run_is_read, summary_is_read}

-- What the laws of the crates below say
pub record AreLaws : Type 0 where
  pub of_text : (bytes : List ℕ) (unit : Whole) → length bytes ≤ FILE_BYTES → IsProgram bytes unit → IsOfText unit
  pub supplies : (unit : Whole) (until : ℕ) (supply : Supply) → IsOfText unit → (plan.supplying unit until).gives supply → IsSupply unit until supply
  pub short : (seed : ℕ) → length (made_text seed) ≤ FILE_BYTES
  pub edges : (unit : Whole) (graphs : List Graph) → IsOfText unit → AreGraphs unit graphs → All (λ (graph : Graph). All (IsEdge (length graph.nodes)) graph.edges) graphs
  pub near : (unit : Whole) (graphs : List Graph) → IsOfText unit → AreGraphs unit graphs → All IsNear graphs
  pub published_fit : (unit : Whole) (nexts : List (List (List ℕ))) (stalls : ℕ → List Stall) (inputs : List (List ℤ)) (dates variable date : ℕ) → IsOfText unit → AreInputs unit inputs
      → FitsSigned w32 (published (stated unit nexts stalls inputs) (history (stated unit nexts stalls inputs) dates) variable date)
  pub messages_fit : (unit : Whole) (nexts : List (List (List ℕ))) (stalls : ℕ → List Stall) (inputs : List (List ℤ)) (dates stream : ℕ) → IsOfText unit → AreInputs unit inputs
      → All (λ (m : Message). FitsSigned w32 m.value) (messages (stated unit nexts stalls inputs) (history (stated unit nexts stalls inputs) dates) stream)
  pub inputs : (unit : Whole) (text : List ℕ) (lists : List (List ℤ)) → AreListsOf unit text lists → AreInputs unit lists
  pub bounded : (words : List (List ℕ)) (files : Option Files) (done : Service) → (answering words files).gives done → IsBounded done
  pub not_both : (first : Stand) (text : List ℕ) (notes : List Note) (line : ℕ) → IsText first text notes → BreaksAt first text line → ⊥

module _ (laws : AreLaws) where
  -- ---- the program

  translated_of : (bytes : List ℕ) (unit : Whole) → length bytes ≤ FILE_BYTES → (translating bytes).gives unit → IsOfText unit
  translated_of bytes unit few made = laws.of_text bytes unit few made

  compiled_of : (files : Option Files) (name : List ℕ) (unit : Whole) → (compiling files name).gives unit → IsOfText unit
  unfolding in_row
  compiled_of files name unit (bytes, few, translated) = translated_of bytes unit few.0 translated

  sized_of : (unit : Whole) (until : ℕ) (supply : Supply) → IsOfText unit → (supplying unit until).gives supply → AreSizes unit (OfText unit) supply.nexts supply.sizes
  sized_of unit until supply text supplied = (laws.supplies unit until supply text supplied).sized

  -- ---- what is written

  module _ (unit : Whole) (text : IsOfText unit) (until : ℕ) (nexts : List (List (List ℕ))) (sizes : Sizes) (sized : AreSizes unit (OfText unit) nexts sizes) (inputs : List (List ℤ)) (script : Script) (are : AreInputs unit inputs) (most : until ≤ UNTIL)
      (paced : until * unit.quantum ≤ RUN) (bounds : KeepsBounds (meaning_of unit nexts inputs script) (order_of unit script) sizes until) where
    abbrev s : System
    s = meaning_of unit nexts inputs script

    abbrev turns : ℕ → List (Option Turn)
    turns agent = turns_by s (order_of unit script) (until * unit.quantum) agent

    tellable : IsTellableRun s turns sizes until
    tellable =
        let values : HasValues s = record {
          published_fit = λ dates variable date. laws.published_fit unit nexts (stalls_of script) inputs dates variable date text are;
          messages_fit = λ dates stream. laws.messages_fit unit nexts (stalls_of script) inputs dates stream text are;
        } in
        run_tellable s turns sizes until text.bare sized values (record { whole = refl; count = λ agent. refl; slack = λ agent. refl }) most paced bounds.rings bounds.queues

    run_read : IsRead run_begins (text_of (Ran unit nexts sizes until inputs script))
    run_read =
        let (notes, reads) = run_is_read s turns sizes until tellable in
        record { notes = notes; are = reads; in_form = λ line. laws.not_both run_begins (text_of (Ran unit nexts sizes until inputs script)) notes line reads }

    summary_read : IsRead run_begins (lines_text (summary_of s (order_of unit script) sizes until))
    summary_read =
        let (notes, reads) = summary_is_read s turns sizes until tellable in
        record { notes = notes; are = reads; in_form = λ line. laws.not_both run_begins (lines_text (summary_of s (order_of unit script) sizes until)) notes line reads }

  costs_small : (unit : Whole) (costs : List (List ℕ)) → AreAllCosts unit costs → (number : ℕ) (list : List ℕ) → slice_get costs number ≡ Some list → All (λ cost. cost ≤ COST) list
  costs_small unit costs are number list at k d less =
      let known : number < length unit.agents = subst (λ n. number < n) are.count (slice_get_within costs number list at) in
      let agent = there unit.agents number known in
      let cut = (are.each number agent.0 list agent.1 at).each k (get_or list k d) (slice_get-get_or list k d less) in
      let same = cut.2 in
      omega (arith, same)

  graphs_read_back : (unit : Whole) (graphs : List Graph) (costs : List (List ℕ)) → IsOfText unit → AreGraphs unit graphs → AreAllCosts unit costs → IsRead graph_begins (text_of (Drawn unit graphs costs))
  graphs_read_back unit graphs costs text are costed =
      let told = graphs_tellable unit graphs costs text.bare are (laws.near unit graphs text are) (laws.edges unit graphs text are) (costs_small unit costs costed) in
      let (notes, reads) = graphs_are_read unit.agents graphs costs text.bare.agent_limit told in
      record { notes = notes; are = reads; in_form = λ line. laws.not_both graph_begins (text_of (Drawn unit graphs costs)) notes line reads }

  -- ---- the commands

  inputs_of : (files : Option Files) (unit : Whole) (name : Option (List ℕ)) (lists : List (List ℤ)) → (listing files unit name).gives lists → AreInputs unit lists
  unfolding in_row
  inputs_of files unit None lists same = subst (AreInputs unit) (sym same) (are_no_inputs unit)
  inputs_of files unit (Some name) lists (bytes, few, stated) = laws.inputs unit bytes lists stated

  -- What keeps its bounds is read back.
  abbrev Reads : Service → Type 0
  Reads done = IsBounded done → IsReadBack done

  running_read : (files : Option Files) (name : List ℕ) (until : ℕ) (inputs script : Option (List ℕ)) (done : Service) → until ≤ UNTIL → (running files name until inputs script).gives done → Reads done
  unfolding in_row
  running_read files name until inputs script done most (unit, compiled, (supply, supplied, (lists, listed, (said, scripted, (paces, paced, same))))) =
      let text = compiled_of files name unit compiled in
      subst Reads (sym same) (run_read unit text until supply.nexts supply.sizes (sized_of unit until supply text supplied) lists said (inputs_of files unit inputs lists listed) most paced)

  checking_read : (files : Option Files) (name : List ℕ) (until : ℕ) (done : Service) → (checking files name until).gives done → Reads done
  unfolding in_row
  checking_read files name until done (unit, compiled, (supply, supplied, same)) = subst Reads (sym same) (λ bounds. tt)

  drawing_read : (files : Option Files) (name : List ℕ) (done : Service) → (drawing files name).gives done → Reads done
  unfolding in_row
  drawing_read files name done (unit, compiled, (graphs, drawn, (costs, costed, same))) = subst Reads (sym same) (λ bounds. graphs_read_back unit graphs costs (compiled_of files name unit compiled) drawn costed)

  trying_read : (seed until : ℕ) (done : Service) → until ≤ UNTIL → (trying seed until).gives done → Reads done
  unfolding in_row
  trying_read seed until done most (unit, translated, (supply, supplied, (paces, paced, same))) =
      let text = translated_of (made_text seed) unit (laws.short seed) translated in
      subst Reads (sym same) (summary_read unit text until supply.nexts supply.sizes (sized_of unit until supply text supplied) (no_inputs unit) no_script (are_no_inputs unit) most paced)

  building_read : (files : Option Files) (name : List ℕ) (done : Service) → (building files name).gives done → Reads done
  unfolding in_row
  building_read files name done (unit, compiled, (image, imaged, same)) = subst Reads (sym same) (λ bounds. tt)

  executing_read : (files : Option Files) (name : List ℕ) (until : ℕ) (inputs script : Option (List ℕ)) (done : Service) → (executing files name until inputs script).gives done → Reads done
  unfolding in_row
  executing_read files name until inputs script done (bytes, read, (it, spelled, (ways, checked, (supply, supplied, (lists, listed, (said, scripted, (paces, paced, same))))))) = subst Reads (sym same) (λ bounds. tt)

  judging_read : (files : Option Files) (name : List ℕ) (until : ℕ) (trace : List ℕ) (script : Option (List ℕ)) (done : Service) → (judging files name until trace script).gives done → Reads done
  unfolding in_row
  judging_read files name until trace script done (unit, compiled, (supply, supplied, (text, read, (said, scripted, (paces, paced, (counts, legal, same)))))) = subst Reads (sym same) (λ bounds. tt)

  tracing_read : (files : Option Files) (name : List ℕ) (until : ℕ) (inputs script : Option (List ℕ)) (done : Service) → (tracing files name until inputs script).gives done → Reads done
  unfolding in_row
  tracing_read files name until inputs script done (unit, compiled, (supply, supplied, (lists, listed, (said, scripted, (paces, paced, (fits, few, same)))))) = subst Reads (sym same) (λ bounds. tt)

  saving_read : (files : Option Files) (name : List ℕ) (date : ℕ) (inputs script : Option (List ℕ)) (done : Service) → (saving files name date inputs script).gives done → Reads done
  unfolding in_row
  saving_read files name date inputs script done (unit, compiled, (supply, supplied, (lists, listed, (said, scripted, (paces, paced, (leaves, left, same)))))) = subst Reads (sym same) (λ bounds. tt)

  resuming_read : (files : Option Files) (name state : List ℕ) (until : ℕ) (inputs script : Option (List ℕ)) (done : Service) → (resuming files name state until inputs script).gives done → Reads done
  unfolding in_row
  resuming_read files name state until inputs script done (unit, compiled, (supply, supplied, (bytes, read, (opening, restored, (lists, listed, (said, scripted, (paces, paced, same))))))) = subst Reads (sym same) (λ bounds. tt)

  serving_read : (words : List (List ℕ)) (files : Option Files) (command : Command) (done : Service) → Asks words command → (serving files command).gives done → Reads done
  serving_read words files _ done (asks_run program date until is asked) gives = running_read files program until None None done asked.most gives
  serving_read words files _ done (asks_run_with_inputs program date inputs until is asked) gives = running_read files program until (Some inputs) None done asked.most gives
  serving_read words files _ done (asks_run_with_script program date inputs script until is asked) gives = running_read files program until (Some inputs) (Some script) done asked.most gives
  serving_read words files _ done (asks_check program date until is asked) gives = checking_read files program until done gives
  serving_read words files _ done (asks_graph program is) gives = drawing_read files program done gives
  serving_read words files _ done (asks_make number seed is asked) gives = subst Reads (sym gives) (λ bounds. tt)
  serving_read words files _ done (asks_trial number date seed until is seeded asked) gives = trying_read seed until done asked.most gives
  serving_read words files _ done (asks_build program is) gives = building_read files program done gives
  serving_read words files _ done (asks_exec image date until is asked) gives = executing_read files image until None None done gives
  serving_read words files _ done (asks_exec_with_inputs image date inputs until is asked) gives = executing_read files image until (Some inputs) None done gives
  serving_read words files _ done (asks_exec_with_script image date inputs script until is asked) gives = executing_read files image until (Some inputs) (Some script) done gives
  serving_read words files _ done (asks_audit program date trace until is asked) gives = judging_read files program until trace None done gives
  serving_read words files _ done (asks_audit_with_script program date trace script until is asked) gives = judging_read files program until trace (Some script) done gives
  serving_read words files _ done (asks_trace program date until is asked) gives = tracing_read files program until None None done gives
  serving_read words files _ done (asks_trace_with_inputs program date inputs until is asked) gives = tracing_read files program until (Some inputs) None done gives
  serving_read words files _ done (asks_trace_with_script program date inputs script until is asked) gives = tracing_read files program until (Some inputs) (Some script) done gives
  serving_read words files _ done (asks_save program word date is asked) gives = saving_read files program date None None done gives
  serving_read words files _ done (asks_save_with_inputs program word inputs date is asked) gives = saving_read files program date (Some inputs) None done gives
  serving_read words files _ done (asks_save_with_script program word inputs script date is asked) gives = saving_read files program date (Some inputs) (Some script) done gives
  serving_read words files _ done (asks_resume program state date until is asked) gives = resuming_read files program state until None None done gives
  serving_read words files _ done (asks_resume_with_inputs program state date inputs until is asked) gives = resuming_read files program state until (Some inputs) None done gives
  serving_read words files _ done (asks_resume_with_script program state date inputs script until is asked) gives = resuming_read files program state until (Some inputs) (Some script) done gives

  -- Whatever words ask for is read back.
  pub answer_read : (words : List (List ℕ)) (files : Option Files) (done : Service) → (answering words files).gives done → IsReadBack done
  unfolding in_row
  answer_read words files done gives =
      let (command, asks, served) = gives in
      serving_read words files command done asks served (laws.bounded words files done gives)
