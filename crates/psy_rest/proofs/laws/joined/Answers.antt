-- What is left of the proof of `laws::joined`.
use Rattle.std.proofs.Common.{◌≡◌, ◌∙◌, ℕ, suc, ◌+◌, ◌*◌, ◌++◌, List, refl, sym, ap, ap₂, subst}
use Rattle.std.specs.Prelude.{ℤ}
use Rattle.psy_budget.specs.declared.charge.Stall.{Stall}
use Rattle.psy_code.specs.declared.code.Code.{Code}
use Rattle.psy_dates.specs.Beginnings.{behind}
use Rattle.psy_history.specs.Actions.{Opening, System, plain}
use Rattle.psy_history.specs.Compiled.{AreInputs, IsCompiled, coded, coded_behind, stated, stated_behind}
use Rattle.psy_history.specs.Executors.{by_code, by_statements}
use Rattle.psy_history.specs.Openings.{IsSound}
use Rattle.psy_history.specs.Resuming.{IsQuiet, opening_at, resumed_at}
use Rattle.psy_history.specs.Scheduled.{turns_by}
use Rattle.psy_history.specs.Scripts.{order_of, stalls_of}
use Rattle.psy_kernel.specs.Freezing.{state_by}
use Rattle.psy_kernel.specs.Progress.{booted}
use Rattle.psy_kernel.specs.Texts.{log_of, run_text}
use Rattle.psy_meaning.specs.KnownWays.{OfText}
use Rattle.psy_tree.specs.declared.unit.Unit.{Unit as Whole}
use Rattle.psy_rest.proofs.EarlierPlans.{earlier, may_save, up_to}
use Rattle.psy_rest.proofs.OtherExecutors.{AreAlike, same_log, same_text}
use Rattle.psy_rest.proofs.QuietDates.{quiet_like}
use Rattle.psy_rest.proofs.laws.joined.Goals as goal

module _ (c : goal.After-rest) (unit : Whole) (code : Code) (nexts : List (List (List ℕ))) (stalls : ℕ → List Stall) (inputs : List (List ℤ)) (compiled : IsCompiled unit code nexts) (are : AreInputs unit inputs) where
  -- The opening of date 0
  abbrev first : Opening
  first = plain unit nexts (by_code code)

  abbrev of_code : Opening → System
  of_code = coded_behind unit code nexts stalls inputs

  abbrev of_stmts : Opening → System
  of_stmts = stated_behind unit nexts stalls inputs

  -- Code and statements are alike behind a sound opening,
  alike : (opening : Opening) → IsSound (of_code opening) (OfText unit) code → AreAlike (of_code opening) (of_stmts opening)
  alike opening sound =
      let law = c.alike_behind.ensures in
      record {
        lines = law.lines unit code nexts stalls inputs opening compiled are sound;
        counts = law.counts unit code nexts stalls inputs opening compiled are sound;
        slacks = law.slacks unit code nexts stalls inputs opening compiled are sound;
        held = law.held unit code nexts stalls inputs opening compiled are sound;
        reaches = law.reaches unit code nexts stalls inputs opening compiled are sound;
      }

  -- and have that of date 0 in common, which is one.
  sound_first : IsSound (of_code first) (OfText unit) code
  sound_first = c.openings.ensures.plain unit code nexts stalls inputs compiled are

  same_first : of_stmts first ≡ stated unit nexts stalls inputs
  same_first = ap of_stmts (c.alike_behind.ensures.plain unit code nexts compiled)

  quiet_code : (date : ℕ) → IsQuiet (stated unit nexts stalls inputs) date → IsQuiet (of_code first) date
  quiet_code date quiet =
      quiet_like (of_code first) (of_stmts first) date (λ agent. c.alike_behind.ensures.actions unit code nexts stalls inputs first compiled are sound_first (suc date) agent)
      (subst (λ s. IsQuiet s date) (sym same_first) quiet)

pub returns : goal.returns
returns c plan date inputs script its compiled sizes are of within near cycles quiet =
    let unit = plan.unit in
    let stalls : ℕ → List Stall = stalls_of script in
    let order : ℕ → List ℕ = order_of unit script in
    let these : System = coded unit plan.code plan.nexts stalls inputs in
    let those : System = stated unit plan.nexts stalls inputs in
    let begun : Opening = first c unit plan.code plan.nexts stalls inputs compiled are in
    let begun_sound = sound_first c unit plan.code plan.nexts stalls inputs compiled are in
    let begun_alike = alike c unit plan.code plan.nexts stalls inputs compiled are begun begun_sound in
    let begun_same = same_first c unit plan.code plan.nexts stalls inputs compiled are in
    let still = quiet_code c unit plan.code plan.nexts stalls inputs compiled are date quiet in
    let run = c.compiled.ensures.run unit plan.code plan.nexts stalls inputs compiled are in
    let lawful = c.regular.ensures.lawful these (OfText unit) plan.code run in
    let values = c.first_values.ensures plan compiled in
    let save = may_save plan its date within inputs script of run lawful sizes values near cycles in
    let may = c.saved.ensures these (OfText unit) plan.code plan.sizes.rings order date save still in
    let left : System → Opening = λ s. opening_at s plan.sizes.rings (turns_by s order (date * unit.quantum)) date in
    let left_alike = alike c unit plan.code plan.nexts stalls inputs compiled are (left these) may.sound in
    let left_same : left these ≡ left those = c.alike_behind.ensures.left unit plan.code plan.nexts stalls inputs compiled are plan.sizes.rings order (date * unit.quantum) date in
    let taken : behind plan (state_by plan (left these)) ≡ left these =
    c.taken_up.ensures (booted (up_to plan its date within) inputs script) (earlier plan its date within) are of refl still values in
    let text : System → List ℕ = λ s. run_text s order plan.sizes plan.until in
    let written : Opening → List ℕ = λ opening. text (stated_behind unit plan.nexts stalls inputs opening) in
    let whole : text these ≡ text those = same_text these (by_statements unit) begun_alike order plan.sizes plan.until ∙ ap text begun_same in
    let logs : log_of these (date + 1) ≡ log_of those (date + 1) = same_log these (by_statements unit) begun_alike (date + 1) ∙ ap (λ s. log_of s (date + 1)) begun_same in
    let behind_it : text (resumed_at these plan.sizes.rings order date) ≡ written (behind plan (state_by plan (left those))) =
    same_text (resumed_at these plan.sizes.rings order date) (by_statements unit) left_alike order plan.sizes plan.until
    ∙ ap written (sym taken ∙ ap (λ opening. behind plan (state_by plan opening)) left_same) in
    sym whole ∙ c.rest.ensures these (OfText unit) plan.code order plan.sizes date plan.until may within ∙ ap₂ (λ log more. log ++ more) logs behind_it
