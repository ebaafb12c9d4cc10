-- What is left of the proof of `laws::alike_behind`.
use Rattle.std.proofs.Common.{ℕ, List, ap, ◌∙◌}
use Rattle.psy_meaning.specs.KnownWays.{OfText}
use Rattle.psy_meaning.specs.Sound.{IsSoundUnit}
use Rattle.psy_code.specs.declared.code.Code.{Code}
use Rattle.psy_tree.specs.declared.unit.Unit.{Unit as Whole}
use Rattle.psy_history.specs.Actions.{System, plain}
use Rattle.psy_history.specs.Compiled.{IsCompiled, coded, coded_behind, stated_behind}
use Rattle.psy_history.specs.Executors.{by_code}
use Rattle.psy_history.specs.History.{history}
use Rattle.psy_history.specs.Processors.{served}
use Rattle.psy_history.specs.Resuming.{opening_at}
use Rattle.psy_history.specs.Scheduled.{turns_by}
use Rattle.psy_history.specs.Summary.{due_by, slack}
use Rattle.psy_history.proofs.LikeActions.{length_like}
use Rattle.psy_history.proofs.LikeHistories.{histories_like}
use Rattle.psy_history.proofs.LikeLines.{events_same, most_held_same}
use Rattle.psy_history.proofs.LikeOpenings.{left_same, plain_same, reaches_same, turns_by_same}
use Rattle.psy_history.proofs.LikeSchedules.{due_like, slack_same, turns_same}
use Rattle.psy_history.proofs.OpenedRuns.{opened_run}
use Rattle.psy_history.proofs.RunActions.{AreRunLaws}
use Rattle.psy_history.proofs.Stores.{AreStoreLaws}
use Rattle.psy_history.proofs.laws.alike_behind.Goals as goal

store_laws : (c : goal.After-compiled) (unit : Whole) (code : Code) (nexts : List (List (List ℕ))) → IsCompiled unit code nexts → AreStoreLaws unit code
store_laws c unit code nexts compiled =
    let sound : IsSoundUnit unit = c.sound.ensures.unit compiled.text.text.0 unit compiled.text.text.1 in
    record {
      sound = sound;
      keeps = λ number agent point store view. c.keeps.ensures.action unit number agent point store view sound;
      first = λ number agent. c.keeps.ensures.first unit number agent sound;
      lasted = λ its. c.lasting.ensures.lasted code its;
    }

run_laws : (c : goal.After-compiled) (code : Code) → AreRunLaws code
run_laws c code = record {
  lasted = λ its s t n. c.lasting.ensures.lasted code its s t n;
  ended = λ its s t n point. c.lasting.ensures.ended code its s t n point;
  late = c.distances.ensures.late;
  again = c.distances.ensures.again;
}

pub returns-clause-actions : goal.returns-clause-actions
returns-clause-actions c unit code nexts stalls inputs opening compiled are sound =
    let run = opened_run (coded unit code nexts stalls inputs) opening (OfText unit) code (c.compiled.ensures.run unit code nexts stalls inputs compiled are) sound in
    histories_like unit code nexts stalls inputs opening (store_laws c unit code nexts compiled) compiled (run_laws c code) run

pub returns-clause-lines : goal.returns-clause-lines
returns-clause-lines c unit code nexts stalls inputs opening compiled are sound date =
    events_same unit code nexts stalls inputs opening (returns-clause-actions c unit code nexts stalls inputs opening compiled are sound) date

pub returns-clause-schedule : goal.returns-clause-schedule
returns-clause-schedule c unit code nexts stalls inputs opening compiled are sound order cycles processor =
    turns_same (λ cycle. served unit processor (order cycle)) unit.quantum (history (coded_behind unit code nexts stalls inputs opening))
    (history (stated_behind unit nexts stalls inputs opening)) (returns-clause-actions c unit code nexts stalls inputs opening compiled are sound) cycles

pub returns-clause-counts : goal.returns-clause-counts
returns-clause-counts c unit code nexts stalls inputs opening compiled are sound dates until agent =
    let these = history (coded_behind unit code nexts stalls inputs opening) dates agent in
    let those = history (stated_behind unit nexts stalls inputs opening) dates agent in
    let like = returns-clause-actions c unit code nexts stalls inputs opening compiled are sound dates agent in
    length_like (due_by until these) (due_by until those) (due_like until these those like)

pub returns-clause-slacks : goal.returns-clause-slacks
returns-clause-slacks c unit code nexts stalls inputs opening compiled are sound order dates cycles until agent =
    let these = history (coded_behind unit code nexts stalls inputs opening) dates agent in
    let those = history (stated_behind unit nexts stalls inputs opening) dates agent in
    let like = returns-clause-actions c unit code nexts stalls inputs opening compiled are sound in
    ap (λ done. slack unit.quantum done (due_by until these)) (turns_by_same unit code nexts stalls inputs opening like order cycles agent)
    ∙ slack_same unit.quantum (turns_by (stated_behind unit nexts stalls inputs opening) order cycles agent) (due_by until these) (due_by until those)
    (due_like until these those (like dates agent))

pub returns-clause-held : goal.returns-clause-held
returns-clause-held c unit code nexts stalls inputs opening compiled are sound until stream =
    most_held_same unit code nexts stalls inputs opening (returns-clause-actions c unit code nexts stalls inputs opening compiled are sound) until stream

pub returns-clause-reaches : goal.returns-clause-reaches
returns-clause-reaches c unit code nexts stalls inputs opening compiled are sound order dates cycles variable =
    reaches_same unit code nexts stalls inputs opening (returns-clause-actions c unit code nexts stalls inputs opening compiled are sound) order cycles dates variable

pub returns-clause-plain : goal.returns-clause-plain
returns-clause-plain c unit code nexts compiled = plain_same unit code nexts (store_laws c unit code nexts compiled) compiled

pub returns-clause-left : goal.returns-clause-left
returns-clause-left c unit code nexts stalls inputs compiled are sizes order cycles date =
    let opening = plain unit nexts (by_code code) in
    let these : System = coded unit code nexts stalls inputs in
    let sound = (c.compiled.ensures.run unit code nexts stalls inputs compiled are).opened in
    let like = returns-clause-actions c unit code nexts stalls inputs opening compiled are sound in
    left_same unit code nexts stalls inputs opening like order cycles sizes date
    ∙ ap (λ begun. opening_at (stated_behind unit nexts stalls inputs begun) sizes (turns_by (stated_behind unit nexts stalls inputs begun) order cycles) date)
    (returns-clause-plain c unit code nexts compiled)
