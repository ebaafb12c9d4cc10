-- Words ask for one command, and a date that they save at is no later than the last one that there is.
use Rattle.std.proofs.Common.{◌≡◌, ◌∙◌, sym, ap, ℕ, ◌≤◌, List, [], ◌∷◌, Option, Some, None, if◌then◌else◌, bytes_eq, codes, option_map}
use Rattle.std.proofs.lemmas.Option.{same_Some}
use Rattle.psy_base.specs.declared.limits.TheConstants.{UNTIL}
use Rattle.psy_text.specs.Words.{number_of}
use Rattle.psy_run.specs.Asked.{Asks, Audit, Build, Check, Command, Exec, Graph, Make, Resume, Run, Save, Trace, Trial}
use Rattle.psy_run.specs.Asked.{asks_audit, asks_audit_with_script, asks_build, asks_check, asks_exec, asks_exec_with_inputs}
use Rattle.psy_run.specs.Asked.{asks_exec_with_script, asks_graph, asks_make, asks_run, asks_run_with_inputs, asks_run_with_script, asks_trace}
use Rattle.psy_run.specs.Asked.{asks_resume, asks_resume_with_inputs, asks_resume_with_script, asks_save, asks_save_with_inputs, asks_save_with_script}
use Rattle.psy_run.specs.Asked.{asks_trace_with_inputs, asks_trace_with_script, asks_trial}

-- ---- one command

-- A trial by two numbers, where both are there
abbrev trial_of : Option ℕ → Option ℕ → Option Command
trial_of (Some seed) (Some until) = Some (Trial seed until)
trial_of _ _ = None

-- What a first word asks for that goes with a program, a date, inputs and a script: of words that ask for nothing it is `save`.
abbrev told : List ℕ → List ℕ → Option (List ℕ) → Option (List ℕ) → ℕ → Command
told first program inputs script date =
    if bytes_eq first (codes "run") then Run program date inputs script
    else if bytes_eq first (codes "exec") then Exec program date inputs script
    else if bytes_eq first (codes "trace") then Trace program date inputs script
    else Save program date inputs script

-- The command that words ask for, if they ask for one, by their count, the first of them and their numbers
abbrev command_in : List (List ℕ) → Option Command
command_in (first ∷ word ∷ []) =
    if bytes_eq first (codes "graph") then Some (Graph word)
    else if bytes_eq first (codes "build") then Some (Build word)
    else option_map Make (number_of word)
command_in (first ∷ word ∷ date ∷ []) =
    if bytes_eq first (codes "trial") then trial_of (number_of word) (number_of date)
    else if bytes_eq first (codes "check") then option_map (Check word) (number_of date)
    else option_map (told first word None None) (number_of date)
command_in (first ∷ program ∷ date ∷ last ∷ []) =
    if bytes_eq first (codes "resume") then option_map (λ until. Resume program date until None None) (number_of last)
    else if bytes_eq first (codes "audit") then option_map (λ until. Audit program until last None) (number_of date)
    else option_map (told first program (Some last) None) (number_of date)
command_in (first ∷ program ∷ date ∷ inputs ∷ last ∷ []) =
    if bytes_eq first (codes "resume") then option_map (λ until. Resume program date until (Some last) None) (number_of inputs)
    else if bytes_eq first (codes "audit") then option_map (λ until. Audit program until inputs (Some last)) (number_of date)
    else option_map (told first program (Some inputs) (Some last)) (number_of date)
command_in (first ∷ program ∷ state ∷ date ∷ inputs ∷ script ∷ []) =
    option_map (λ until. Resume program state until (Some inputs) (Some script)) (number_of date)
command_in _ = None

-- It is the one that they ask for.
asked : (words : List (List ℕ)) (command : Command) → Asks words command → command_in words ≡ Some command
asked words command (asks_run program date until is dated) = ap command_in is ∙ ap (option_map (λ until. Run program until None None)) dated.value
asked words command (asks_run_with_inputs program date inputs until is dated) =
    ap command_in is ∙ ap (option_map (λ until. Run program until (Some inputs) None)) dated.value
asked words command (asks_run_with_script program date inputs script until is dated) =
    ap command_in is ∙ ap (option_map (λ until. Run program until (Some inputs) (Some script))) dated.value
asked words command (asks_check program date until is dated) = ap command_in is ∙ ap (option_map (Check program)) dated.value
asked words command (asks_graph program is) = ap command_in is
asked words command (asks_make number seed is seeded) = ap command_in is ∙ ap (option_map Make) seeded.value
asked words command (asks_trial number date seed until is seeded dated) =
    ap command_in is ∙ ap (λ drawn. trial_of drawn (number_of date)) seeded.value ∙ ap (trial_of (Some seed)) dated.value
asked words command (asks_build program is) = ap command_in is
asked words command (asks_exec image date until is dated) = ap command_in is ∙ ap (option_map (λ until. Exec image until None None)) dated.value
asked words command (asks_exec_with_inputs image date inputs until is dated) =
    ap command_in is ∙ ap (option_map (λ until. Exec image until (Some inputs) None)) dated.value
asked words command (asks_exec_with_script image date inputs script until is dated) =
    ap command_in is ∙ ap (option_map (λ until. Exec image until (Some inputs) (Some script))) dated.value
asked words command (asks_audit program date trace until is dated) =
    ap command_in is ∙ ap (option_map (λ until. Audit program until trace None)) dated.value
asked words command (asks_audit_with_script program date trace script until is dated) =
    ap command_in is ∙ ap (option_map (λ until. Audit program until trace (Some script))) dated.value
asked words command (asks_trace program date until is dated) =
    ap command_in is ∙ ap (option_map (λ until. Trace program until None None)) dated.value
asked words command (asks_trace_with_inputs program date inputs until is dated) =
    ap command_in is ∙ ap (option_map (λ until. Trace program until (Some inputs) None)) dated.value
asked words command (asks_trace_with_script program date inputs script until is dated) =
    ap command_in is ∙ ap (option_map (λ until. Trace program until (Some inputs) (Some script))) dated.value
asked words command (asks_save program word date is dated) = ap command_in is ∙ ap (option_map (λ date. Save program date None None)) dated.value
asked words command (asks_save_with_inputs program word inputs date is dated) =
    ap command_in is ∙ ap (option_map (λ date. Save program date (Some inputs) None)) dated.value
asked words command (asks_save_with_script program word inputs script date is dated) =
    ap command_in is ∙ ap (option_map (λ date. Save program date (Some inputs) (Some script))) dated.value
asked words command (asks_resume program state date until is dated) =
    ap command_in is ∙ ap (option_map (λ until. Resume program state until None None)) dated.value
asked words command (asks_resume_with_inputs program state date inputs until is dated) =
    ap command_in is ∙ ap (option_map (λ until. Resume program state until (Some inputs) None)) dated.value
asked words command (asks_resume_with_script program state date inputs script until is dated) =
    ap command_in is ∙ ap (option_map (λ until. Resume program state until (Some inputs) (Some script))) dated.value

pub one_command : (words : List (List ℕ)) (command it : Command) → Asks words command → Asks words it → command ≡ it
one_command words command it asks also = same_Some command it (sym (asked words command asks) ∙ asked words it also)

-- ---- dates

-- A date that is saved at is no later than the last one that there is.
abbrev IsNear : Command → Type 0
IsNear (Save program date inputs script) = date ≤ UNTIL
IsNear _ = Unit {0}

near : (words : List (List ℕ)) (command : Command) → Asks words command → IsNear command
near words command (asks_save program word date is dated) = dated.most
near words command (asks_save_with_inputs program word inputs date is dated) = dated.most
near words command (asks_save_with_script program word inputs script date is dated) = dated.most
near words command _ = tt

pub saved_near : (words : List (List ℕ)) (program : List ℕ) (date : ℕ) (inputs script : Option (List ℕ)) → Asks words (Save program date inputs script)
    → date ≤ UNTIL
saved_near words program date inputs script asks = near words (Save program date inputs script) asks
