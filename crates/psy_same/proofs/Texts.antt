-- The text of a run reads no statement, slot or function: that of the code of an image is that of the program's statements.
use Rattle.std.proofs.Common.{◌≡◌, ◌∙◌, refl, ℕ, ◌+◌, ◌*◌, List, ◌∷◌, ◌++◌, map, length, None, Some, flat_map, get_or, ℤ}
use Rattle.std.specs.List.{range_with_len}
use Rattle.psy_base.specs.declared.sizes.Sizes.{Sizes}
use Rattle.psy_budget.specs.declared.charge.Stall.{Stall}
use Rattle.psy_code.specs.declared.code.Code.{Code}
use Rattle.psy_history.specs.Actions.{System, stream_of, variable_of}
use Rattle.psy_history.specs.Compiled.{AreInputs, IsCompiled, coded, stated}
use Rattle.psy_history.specs.Lines.{Event, Publish, Show, Stop}
use Rattle.psy_history.specs.Scheduled.{turns_by}
use Rattle.psy_kernel.specs.Texts.{agent_end, event_line, lines_of, log_of, run_text, stream_end, summary_of, text_of, variable_end}
use Rattle.psy_log.specs.Forms.{agent_line, end_line, stop_overrun_line, stop_trap_line, stream_line, variable_line}
use Rattle.psy_tree.specs.declared.unit.Unit.{Unit as Whole}
use Rattle.psy_same.proofs.Emptied.{same_agent, same_count}
use Rattle.psy_same.proofs.Histories.{bare}
use Rattle.psy_same.proofs.Schedules.{AreAlike, are_alike}

-- What is compiled and its statements have the same lines and the same figures, with all stalls and inputs.
abbrev pub ActAlike : Type 0
ActAlike = (unit : Whole) (code : Code) (nexts : List (List (List ℕ))) (stalls : ℕ → List Stall) (inputs : List (List ℤ)) → IsCompiled unit code nexts
    → AreInputs unit inputs → AreAlike (coded unit code nexts stalls inputs) (stated unit nexts stalls inputs)

module _ (unit : Whole) (code : Code) (nexts : List (List (List ℕ))) (stalls : ℕ → List Stall) (inputs : List (List ℤ)) where
  module _ (alike : AreAlike (coded unit code nexts stalls inputs) (stated unit nexts stalls inputs)) (order : ℕ → List ℕ) (sizes : Sizes) (until : ℕ) where
    abbrev less : System
    less = bare unit code nexts stalls inputs

    abbrev meant : System
    meant = stated unit nexts stalls inputs

    its : AreAlike less (coded unit code nexts stalls inputs)
    its = are_alike unit code nexts stalls inputs

    -- ---- dates

    line_alike : (at : ℕ) (event : Event) → event_line less at event ≡ event_line meant at event
    line_alike at (Stop agent None) = λ i. stop_overrun_line at (same_agent unit agent i).name
    line_alike at (Stop agent (Some kind)) = λ i. stop_trap_line at (same_agent unit agent i).name kind
    line_alike at (Publish variable value) = refl
    line_alike at (Show stream value) = refl

    lines_alike : (at : ℕ) → lines_of less at ≡ lines_of meant at
    lines_alike at = λ i. map (λ event. line_alike at event i) ((its.lines at ∙ alike.lines at) i)

    log_alike : (dates : ℕ) → log_of less dates ≡ log_of meant dates
    log_alike dates = λ i. flat_map (λ at. text_of (lines_alike at i)) (range_with_len 0 dates)

    -- ---- the summary

    agent_alike : (cycles agent : ℕ) → agent_end less (turns_by less order cycles) until agent ≡ agent_end meant (turns_by meant order cycles) until agent
    agent_alike cycles agent = λ i. agent_line (same_agent unit agent i).name ((its.counts (until + 1) until agent ∙ alike.counts (until + 1) until agent) i)
        ((its.slacks order (until + 1) cycles until agent ∙ alike.slacks order (until + 1) cycles until agent) i)

    variable_alike : (cycles variable : ℕ) → variable_end less (turns_by less order cycles) sizes until variable
        ≡ variable_end meant (turns_by meant order cycles) sizes until variable
    variable_alike cycles variable = λ i. variable_line (variable_of meant variable).name (get_or sizes.rings variable 0)
        ((its.reaches order (until + 1) cycles variable ∙ alike.reaches order (until + 1) cycles variable) i)

    stream_alike : (stream : ℕ) → stream_end less sizes until stream ≡ stream_end meant sizes until stream
    stream_alike stream = λ i. stream_line (stream_of meant stream).name (get_or sizes.queues stream 0)
        ((its.held until stream ∙ alike.held until stream) i)

    summary_alike : summary_of less order sizes until ≡ summary_of meant order sizes until
    summary_alike = λ i.
        end_line until
        ∷ (map (λ agent. agent_alike (until * unit.quantum) agent i) (range_with_len 0 (same_count unit i))
        ++ (map (λ variable. variable_alike (until * unit.quantum) variable i) (range_with_len 0 (length unit.variables))
        ++ map (λ stream. stream_alike stream i) (range_with_len 0 (length unit.streams))))

    pub text_alike : run_text less order sizes until ≡ run_text meant order sizes until
    text_alike = λ i. log_alike (until + 1) i ++ text_of (summary_alike i)
