-- What is left of the proof of `state_commands::resume`.
use Rattle.std.proofs.Common.{◌≡◌, ◌∙◌, refl, subst, sym, Some}
use Rattle.std.specs.Prelude.{[], option_copied}
use Rattle.psy_dates.specs.Beginnings.{behind}
use Rattle.psy_dates.specs.Plans.{IsSoundFor}
use Rattle.psy_history.specs.Compiled.{AreInputs}
use Rattle.psy_history.specs.Scripts.{IsScript, stalls_of}
use Rattle.psy_kernel.specs.Progress.{began}
use Rattle.psy_snap.specs.Forms.{form_of}
use Rattle.psy_run.specs.declared.refusal.File.TheVariants.{State}
use Rattle.psy_run.specs.Answer.{compiling, listing, scripting, supplying}
use Rattle.psy_run.specs.Outcome.{halts_memory}
use Rattle.psy_run.specs.Planned.{IsPlanned}
use Rattle.psy_run.specs.Steps.{pacing, reading, restoring}
use Rattle.psy_run.specs.Supplies.{supply_of}
use Rattle.psy_run.proofs.Courses.{halts_exit, halts_first, halts_later}
use Rattle.psy_run.proofs.FaultLemmas.{unfailed_behind, unfailed_exit}
use Rattle.psy_run.proofs.LongFiles.{pacing_never_long, restoring_never_long, supplying_never_long, took_exit, took_for_memory, took_never}
use Rattle.psy_run.proofs.Restoring.{resume_gives, resume_unlisted, resume_unpaced, resume_unread, resume_unscripted, resume_unsound, resumed_is}
use Rattle.psy_run.proofs.ToldLemmas.{gives_behind, halts_behind}
use Rattle.psy_run.proofs.state_commands.resume.Goals as goal

pub returns-in_err-unit-clause-err : goal.returns-in_err-unit-clause-err
returns-in_err-unit-clause-err g c = halts_exit _ _ _ _ _ _ c.from_residual.ensures.1 (halts_first (compiling _ _) _ _ _ _ _ c.in_err-unit.ensures.err)

pub returns-in_err-supply-clause-err : goal.returns-in_err-supply-clause-err
returns-in_err-supply-clause-err g c = halts_exit _ _ _ _ _ _ c.from_residual-in_err-supply.ensures.1
    (halts_later (compiling _ _) _ _ _ _ _ _ c.in_ok-unit.ensures.ok (halts_first (supplying _ _) _ _ _ _ _ (c.in_err-supply.ensures.err _ _ _)))

pub returns-in_err-bytes-clause-err : goal.returns-in_err-bytes-clause-err
returns-in_err-bytes-clause-err g c =
    let unit = c.in_ok-unit.unit in
    let supply = supply_of c.in_ok-supply.supply in
    let inputs = option_copied c.args.inputs in
    let script = option_copied c.args.script in
    halts_exit _ _ _ _ _ _ c.from_residual-in_err-bytes.ensures.1
    (resume_unread _ c.args.name.now c.args.state.now c.args.until inputs script unit c.in_ok-unit.ensures.ok supply c.in_ok-supply.ensures.ok _ _ _ _
    (halts_behind (λ files. reading files State c.args.state.now) c.in_ok-unit.ensures.shelf c.in_err-bytes.ensures.err))

pub returns-in_err-opening-clause-err : goal.returns-in_err-opening-clause-err
returns-in_err-opening-clause-err g c =
    let unit = c.in_ok-unit.unit in
    let supply = supply_of c.in_ok-supply.supply in
    let inputs = option_copied c.args.inputs in
    let script = option_copied c.args.script in
    let read = gives_behind (λ files. reading files State c.args.state.now) c.in_ok-unit.ensures.shelf c.in_ok-bytes.ensures.ok in
    let drawn = c.drawn_of-drawn.result in
    let its = c.drawn_of-drawn.ensures in
    halts_exit _ _ _ _ _ _ c.from_residual-in_err-opening.ensures.1
    (resume_unsound _ c.args.name.now c.args.state.now c.args.until inputs script unit c.in_ok-unit.ensures.ok supply c.in_ok-supply.ensures.ok drawn.plan drawn.graphs its.is its.graphs _ read _ _ _ _ (c.in_err-opening.ensures.err _ _ _))

pub returns-in_err-inputs-clause-err : goal.returns-in_err-inputs-clause-err
returns-in_err-inputs-clause-err g c =
    let unit = c.in_ok-unit.unit in
    let supply = supply_of c.in_ok-supply.supply in
    let inputs = option_copied c.args.inputs in
    let script = option_copied c.args.script in
    let read = gives_behind (λ files. reading files State c.args.state.now) c.in_ok-unit.ensures.shelf c.in_ok-bytes.ensures.ok in
    let drawn = c.drawn_of-drawn.result in
    let its = c.drawn_of-drawn.ensures in
    halts_exit _ _ _ _ _ _ c.from_residual-in_err-inputs.ensures.1
    (resume_unlisted _ c.args.name.now c.args.state.now c.args.until inputs script unit c.in_ok-unit.ensures.ok supply c.in_ok-supply.ensures.ok drawn.plan drawn.graphs its.is its.graphs _ read _ c.in_ok-opening.ensures.ok _ _ _ _
    (halts_behind (λ files. listing files drawn.plan.unit inputs) c.in_ok-unit.ensures.shelf (halts_behind (λ files. listing files drawn.plan.unit inputs) c.in_ok-bytes.ensures.shelf c.in_err-inputs.ensures.err)))

pub returns-in_err-script-clause-err : goal.returns-in_err-script-clause-err
returns-in_err-script-clause-err g c =
    let unit = c.in_ok-unit.unit in
    let supply = supply_of c.in_ok-supply.supply in
    let inputs = option_copied c.args.inputs in
    let script = option_copied c.args.script in
    let read = gives_behind (λ files. reading files State c.args.state.now) c.in_ok-unit.ensures.shelf c.in_ok-bytes.ensures.ok in
    let drawn = c.drawn_of-drawn.result in
    let its = c.drawn_of-drawn.ensures in
    let listed = gives_behind (λ files. listing files drawn.plan.unit inputs) c.in_ok-unit.ensures.shelf (gives_behind (λ files. listing files drawn.plan.unit inputs) c.in_ok-bytes.ensures.shelf c.in_ok-inputs.ensures.ok) in
    halts_exit _ _ _ _ _ _ c.from_residual-in_err-script.ensures.1
    (resume_unscripted _ c.args.name.now c.args.state.now c.args.until inputs script unit c.in_ok-unit.ensures.ok supply c.in_ok-supply.ensures.ok drawn.plan drawn.graphs its.is its.graphs _ read _ c.in_ok-opening.ensures.ok _ listed _ _ _ _
    (halts_behind (λ files. scripting files drawn.plan.unit script) c.in_ok-unit.ensures.shelf (halts_behind (λ files. scripting files drawn.plan.unit script) c.in_ok-bytes.ensures.shelf
    (halts_behind (λ files. scripting files drawn.plan.unit script) c.in_ok-inputs.ensures.shelf c.in_err-script.ensures.err))))

pub returns-in_err-pace-clause-err : goal.returns-in_err-pace-clause-err
returns-in_err-pace-clause-err g c =
    let unit = c.in_ok-unit.unit in
    let supply = supply_of c.in_ok-supply.supply in
    let inputs = option_copied c.args.inputs in
    let script = option_copied c.args.script in
    let read = gives_behind (λ files. reading files State c.args.state.now) c.in_ok-unit.ensures.shelf c.in_ok-bytes.ensures.ok in
    let drawn = c.drawn_of-drawn.result in
    let its = c.drawn_of-drawn.ensures in
    let listed = gives_behind (λ files. listing files drawn.plan.unit inputs) c.in_ok-unit.ensures.shelf (gives_behind (λ files. listing files drawn.plan.unit inputs) c.in_ok-bytes.ensures.shelf c.in_ok-inputs.ensures.ok) in
    let scripted = gives_behind (λ files. scripting files drawn.plan.unit script) c.in_ok-unit.ensures.shelf (gives_behind (λ files. scripting files drawn.plan.unit script) c.in_ok-bytes.ensures.shelf
    (gives_behind (λ files. scripting files drawn.plan.unit script) c.in_ok-inputs.ensures.shelf c.in_ok-script.ensures.ok)) in
    halts_exit _ _ _ _ _ _ c.from_residual-in_err-pace.ensures.1
    (resume_unpaced _ c.args.name.now c.args.state.now c.args.until inputs script unit c.in_ok-unit.ensures.ok supply c.in_ok-supply.ensures.ok drawn.plan drawn.graphs its.is its.graphs _ read _ c.in_ok-opening.ensures.ok _ listed _ scripted _ _ _ _ (c.in_err-pace.ensures.err _ _ _))

pub returns-in-Ok-clause-ok : goal.returns-in-Ok-clause-ok
returns-in-Ok-clause-ok g c =
    let unit = c.in_ok-unit.unit in
    let supply = supply_of c.in_ok-supply.supply in
    let inputs = option_copied c.args.inputs in
    let script = option_copied c.args.script in
    let read = gives_behind (λ files. reading files State c.args.state.now) c.in_ok-unit.ensures.shelf c.in_ok-bytes.ensures.ok in
    let drawn = c.drawn_of-drawn.result in
    let its = c.drawn_of-drawn.ensures in
    let listed = gives_behind (λ files. listing files drawn.plan.unit inputs) c.in_ok-unit.ensures.shelf (gives_behind (λ files. listing files drawn.plan.unit inputs) c.in_ok-bytes.ensures.shelf c.in_ok-inputs.ensures.ok) in
    let scripted = gives_behind (λ files. scripting files drawn.plan.unit script) c.in_ok-unit.ensures.shelf (gives_behind (λ files. scripting files drawn.plan.unit script) c.in_ok-bytes.ensures.shelf
    (gives_behind (λ files. scripting files drawn.plan.unit script) c.in_ok-inputs.ensures.shelf c.in_ok-script.ensures.ok)) in
    resume_gives _ c.args.name.now c.args.state.now c.args.until inputs script unit c.in_ok-unit.ensures.ok supply c.in_ok-supply.ensures.ok drawn.plan drawn.graphs its.is its.graphs _ read _ c.in_ok-opening.ensures.ok _ listed _ scripted c.in_ok-pace.ensures.ok _
    (resumed_is _ drawn.plan unit supply c.args.until c.in_ok-opening.opening _ _ c.in-Ok.ensures its.is)

pub open-requires-clause-sound : goal.open-requires-clause-sound
open-requires-clause-sound g c = c.in_ok-opening.ensures.sound _ _

pub returns-in-Ok-clause-can : goal.returns-in-Ok-clause-can
returns-in-Ok-clause-can g c = record {
  state = c.in_ok-opening.opening;
  opened = subst (λ k. k ≡ began k.plan k.inputs k.script (Some c.in_ok-opening.opening)) (sym c.in-Ok.ensures) refl;
  planned = subst (λ k. IsPlanned k.plan) (sym c.in-Ok.ensures) c.drawn_of-drawn.ensures.plan;
  its_inputs = subst (λ k. AreInputs k.plan.unit k.inputs) (sym c.in-Ok.ensures) c.in_ok-inputs.ensures.inputs;
  its_script = subst (λ k. IsScript k.plan.unit k.script) (sym c.in-Ok.ensures) c.in_ok-script.ensures.script;
  sound = subst (λ k. IsSoundFor k.plan (behind k.plan c.in_ok-opening.opening) k.inputs (stalls_of k.script)) (sym c.in-Ok.ensures) (c.in_ok-opening.ensures.sound _ _);
}

pub returns-clause-err : goal.returns-clause-err
returns-clause-err g c = halts_memory

pub returns-in_err-unit-clause-long : goal.returns-in_err-unit-clause-long
returns-in_err-unit-clause-long g c = took_exit _ _ _ c.from_residual.ensures.1 c.in_err-unit.ensures.long

pub returns-in_err-supply-clause-long : goal.returns-in_err-supply-clause-long
returns-in_err-supply-clause-long g c = took_exit _ _ _ c.from_residual-in_err-supply.ensures.1 (took_never (supplying _ _) [] 0 0 _ _ (supplying_never_long c.in_ok-unit.unit c.args.until) (c.in_err-supply.ensures.err _ _ _))

pub returns-in_err-bytes-clause-long : goal.returns-in_err-bytes-clause-long
returns-in_err-bytes-clause-long g c = took_exit _ _ _ c.from_residual-in_err-bytes.ensures.1 c.in_err-bytes.ensures.long

pub returns-in_err-opening-clause-long : goal.returns-in_err-opening-clause-long
returns-in_err-opening-clause-long g c =
    let form = form_of c.drawn_of-drawn.result.plan c.drawn_of-drawn.result.graphs in
    let bytes = c.in_ok-bytes.bytes.items in
    took_exit _ _ _ c.from_residual-in_err-opening.ensures.1 (took_never (restoring form bytes) [] 0 0 _ _ (restoring_never_long form bytes) (c.in_err-opening.ensures.err _ _ _))

pub returns-in_err-inputs-clause-long : goal.returns-in_err-inputs-clause-long
returns-in_err-inputs-clause-long g c = took_exit _ _ _ c.from_residual-in_err-inputs.ensures.1 c.in_err-inputs.ensures.long

pub returns-in_err-script-clause-long : goal.returns-in_err-script-clause-long
returns-in_err-script-clause-long g c = took_exit _ _ _ c.from_residual-in_err-script.ensures.1 c.in_err-script.ensures.long

pub returns-in_err-pace-clause-long : goal.returns-in_err-pace-clause-long
returns-in_err-pace-clause-long g c = took_exit _ _ _ c.from_residual-in_err-pace.ensures.1 (took_never (pacing c.drawn_of-drawn.result.plan.unit c.args.until) [] 0 0 _ _ (pacing_never_long c.drawn_of-drawn.result.plan.unit c.args.until) (c.in_err-pace.ensures.err _ _ _))

pub returns-clause-long : goal.returns-clause-long
returns-clause-long g c = took_for_memory _

pub returns-in_err-unit-clause-unread : goal.returns-in_err-unit-clause-unread
returns-in_err-unit-clause-unread g c = unfailed_exit _ _ _ _ c.from_residual.ensures.1 c.in_err-unit.ensures.unread

pub returns-in_err-supply-clause-unread : goal.returns-in_err-supply-clause-unread
returns-in_err-supply-clause-unread g c = unfailed_exit _ _ _ _ c.from_residual-in_err-supply.ensures.1 (λ other. c.in_ok-unit.ensures.unfailed)

pub returns-in_err-bytes-clause-unread : goal.returns-in_err-bytes-clause-unread
returns-in_err-bytes-clause-unread g c = unfailed_exit _ _ _ _ c.from_residual-in_err-bytes.ensures.1 (unfailed_behind _ _ _ _ c.in_ok-unit.ensures.unfailed c.in_err-bytes.ensures.unread)

pub returns-in_err-opening-clause-unread : goal.returns-in_err-opening-clause-unread
returns-in_err-opening-clause-unread g c = unfailed_exit _ _ _ _ c.from_residual-in_err-opening.ensures.1 (λ other. c.in_ok-bytes.ensures.unfailed ∙ c.in_ok-unit.ensures.unfailed)

pub returns-in_err-inputs-clause-unread : goal.returns-in_err-inputs-clause-unread
returns-in_err-inputs-clause-unread g c = unfailed_exit _ _ _ _ c.from_residual-in_err-inputs.ensures.1 (unfailed_behind _ _ _ _ (c.in_ok-bytes.ensures.unfailed ∙ c.in_ok-unit.ensures.unfailed) c.in_err-inputs.ensures.unread)

pub returns-in_err-script-clause-unread : goal.returns-in_err-script-clause-unread
returns-in_err-script-clause-unread g c = unfailed_exit _ _ _ _ c.from_residual-in_err-script.ensures.1 (unfailed_behind _ _ _ _ (c.in_ok-inputs.ensures.unfailed ∙ c.in_ok-bytes.ensures.unfailed ∙ c.in_ok-unit.ensures.unfailed) c.in_err-script.ensures.unread)

pub returns-in_err-pace-clause-unread : goal.returns-in_err-pace-clause-unread
returns-in_err-pace-clause-unread g c = unfailed_exit _ _ _ _ c.from_residual-in_err-pace.ensures.1 (λ other. c.in_ok-script.ensures.unfailed ∙ c.in_ok-inputs.ensures.unfailed ∙ c.in_ok-bytes.ensures.unfailed ∙ c.in_ok-unit.ensures.unfailed)

pub returns-clause-unread : goal.returns-clause-unread
returns-clause-unread g c = λ other. c.in_ok-script.ensures.unfailed ∙ c.in_ok-inputs.ensures.unfailed ∙ c.in_ok-bytes.ensures.unfailed ∙ c.in_ok-unit.ensures.unfailed
