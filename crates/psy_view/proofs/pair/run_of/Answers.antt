-- What is left of the proof of `pair::run_of`.
use Rattle.std.proofs.Common.{Err, ap, sym, subst, ◌∙◌}
use Rattle.std.specs.Prelude.{codes}
use Rattle.psy_match.specs.Belonging.{foreign_in_run}
use Rattle.psy_notes.specs.Stands.{run_begins}
use Rattle.psy_plan.specs.Courses.{Stops}
use Rattle.psy_plan.specs.Programs.{IsRefused}
use Rattle.psy_view.specs.Views.{breaks, is_foreign, no_program}
use Rattle.psy_view.proofs.PairLemmas.{said}
use Rattle.psy_view.proofs.pair.run_of.Goals as goal

pub returns-in-Err-Line : goal.returns-in-Err-Line
returns-in-Err-Line c =
    let line = c.in-Err-Line.line in
    said run_begins (codes "run") foreign_in_run c.args.name.now c.args.program.now c.args.bytes.now c.args.text.now c.broken.result _ c.broken.ensures
    (breaks line (c.in-Err-Line.ensures.line line (ap Err c.in-Err-Line.field-0-is)))

pub returns-in-Err-Refused : goal.returns-in-Err-Refused
returns-in-Err-Refused c =
    let came = c.in_ok-refused-in-Err-Refused.ensures in (
      came.status,
      no_program c.in-Ok.notes.items c.in-Err-Refused.refusal _ c.in-Ok.ensures.notes
          (subst (Stops (IsRefused c.args.text.now)) c.in-Err-Refused.field-0-is c.in-Err-Refused.ensures.refused) came.told,
    )

pub returns-in-Some : goal.returns-in-Some
returns-in-Some c =
    let unit = c.in-Ok-program_of.read.unit in
    said run_begins (codes "run") foreign_in_run c.args.name.now c.args.program.now c.args.bytes.now c.args.text.now c.foreign.result _ c.foreign.ensures
    (is_foreign c.in-Ok.notes.items unit c.in-Some.line c.in-Ok.ensures.notes c.in-Ok-program_of.ensures.unit
    (sym (ap (foreign_in_run unit) c.as_slice.ensures.value) ∙ sym c.foreign_in_run.ensures ∙ c.in-Some.is))
