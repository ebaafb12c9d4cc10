-- What is left of the proof of `ready::ready`.
use Rattle.std.proofs.Common.{◌∙◌}
use Rattle.std.specs.Prelude.{[], option_copied}
use Rattle.psy_run.specs.Answer.{compiling, supplying, listing, scripting}
use Rattle.psy_run.specs.Outcome.{halts_memory}
use Rattle.psy_run.specs.Steps.{pacing}
use Rattle.psy_run.specs.Supplies.{supply_of}
use Rattle.psy_run.proofs.Courses.{halts_exit, halts_first, halts_later}
use Rattle.psy_run.proofs.ToldLemmas.{halts_behind, gives_behind, run_unlisted, run_unscripted, run_unpaced, run_gives, can_run, ran_is}
use Rattle.psy_run.proofs.LongFiles.{took_exit, took_for_memory, took_never, supplying_never_long, pacing_never_long}
use Rattle.psy_run.proofs.FaultLemmas.{unfailed_behind, unfailed_exit}
use Rattle.psy_run.proofs.ready.ready.Goals as goal

pub returns-in_err-unit-clause-err : goal.returns-in_err-unit-clause-err
returns-in_err-unit-clause-err g c = halts_exit _ _ _ _ _ _ c.from_residual.ensures.1 (halts_first (compiling _ _) _ _ _ _ _ c.in_err-unit.ensures.err)

pub returns-in_err-supply-clause-err : goal.returns-in_err-supply-clause-err
returns-in_err-supply-clause-err g c = halts_exit _ _ _ _ _ _ c.from_residual-in_err-supply.ensures.1
    (halts_later (compiling _ _) _ _ _ _ _ _ c.in_ok-unit.ensures.ok (halts_first (supplying _ _) _ _ _ _ _ (c.in_err-supply.ensures.err _ _ _)))

pub returns-in_err-inputs-clause-err : goal.returns-in_err-inputs-clause-err
returns-in_err-inputs-clause-err g c =
    let unit = c.in_ok-unit.unit in
    let supply = c.in_ok-supply.supply in
    let gives = c.in_ok-supply.ensures.ok in
    let inputs = option_copied c.args.inputs in
    halts_exit _ _ _ _ _ _ c.from_residual-in_err-inputs.ensures.1
    (run_unlisted _ c.args.name.now c.args.until inputs (option_copied c.args.script) unit (supply_of supply) c.in_ok-unit.ensures.ok gives _ _ _ _
    (halts_behind (λ files. listing files unit inputs) c.in_ok-unit.ensures.shelf c.in_err-inputs.ensures.err))

pub returns-in_err-script-clause-err : goal.returns-in_err-script-clause-err
returns-in_err-script-clause-err g c =
    let unit = c.in_ok-unit.unit in
    let supply = c.in_ok-supply.supply in
    let gives = c.in_ok-supply.ensures.ok in
    let inputs = option_copied c.args.inputs in
    let script = option_copied c.args.script in
    let listed = gives_behind (λ files. listing files unit inputs) c.in_ok-unit.ensures.shelf c.in_ok-inputs.ensures.ok in
    halts_exit _ _ _ _ _ _ c.from_residual-in_err-script.ensures.1
    (run_unscripted _ c.args.name.now c.args.until inputs script unit (supply_of supply) c.in_ok-unit.ensures.ok gives _ listed _ _ _ _
    (halts_behind (λ files. scripting files unit script) c.in_ok-unit.ensures.shelf (halts_behind (λ files. scripting files unit script) c.in_ok-inputs.ensures.shelf c.in_err-script.ensures.err)))

pub returns-in_err-pace-clause-err : goal.returns-in_err-pace-clause-err
returns-in_err-pace-clause-err g c =
    let unit = c.in_ok-unit.unit in
    let supply = c.in_ok-supply.supply in
    let gives = c.in_ok-supply.ensures.ok in
    let inputs = option_copied c.args.inputs in
    let script = option_copied c.args.script in
    let listed = gives_behind (λ files. listing files unit inputs) c.in_ok-unit.ensures.shelf c.in_ok-inputs.ensures.ok in
    let scripted = gives_behind (λ files. scripting files unit script) c.in_ok-unit.ensures.shelf (gives_behind (λ files. scripting files unit script) c.in_ok-inputs.ensures.shelf c.in_ok-script.ensures.ok) in
    halts_exit _ _ _ _ _ _ c.from_residual-in_err-pace.ensures.1
    (run_unpaced _ c.args.name.now c.args.until inputs script unit (supply_of supply) c.in_ok-unit.ensures.ok gives _ listed _ scripted _ _ _ _ (c.in_err-pace.ensures.err _ _ _))

pub returns-in-Ok-clause-ok : goal.returns-in-Ok-clause-ok
returns-in-Ok-clause-ok g c =
    let unit = c.in_ok-unit.unit in
    let supply = c.in_ok-supply.supply in
    let gives = c.in_ok-supply.ensures.ok in
    let inputs = option_copied c.args.inputs in
    let script = option_copied c.args.script in
    let listed = gives_behind (λ files. listing files unit inputs) c.in_ok-unit.ensures.shelf c.in_ok-inputs.ensures.ok in
    let scripted = gives_behind (λ files. scripting files unit script) c.in_ok-unit.ensures.shelf (gives_behind (λ files. scripting files unit script) c.in_ok-inputs.ensures.shelf c.in_ok-script.ensures.ok) in
    let its = c.in-Ok.ensures in
    run_gives _ c.args.name.now c.args.until inputs script unit (supply_of supply) c.in_ok-unit.ensures.ok gives _ listed _ scripted _
    c.in_ok-pace.ensures.ok (ran_is _ _ _ _ _ _ _ its.booted its.its_unit its.its_nexts its.its_sizes its.its_until)

pub returns-in-Ok-clause-can : goal.returns-in-Ok-clause-can
returns-in-Ok-clause-can g c =
    let its = c.in-Ok.ensures in
    can_run c.in-Ok.kernel c.in_ok-unit.unit c.in_ok-inputs.inputs.lists c.in_ok-script.script its.booted its.plan its.its_unit c.in_ok-inputs.ensures.inputs c.in_ok-script.ensures.script

pub returns-in-Err-clause-err : goal.returns-in-Err-clause-err
returns-in-Err-clause-err g c = halts_memory

pub returns-in_err-unit-clause-long : goal.returns-in_err-unit-clause-long
returns-in_err-unit-clause-long g c = took_exit _ _ _ c.from_residual.ensures.1 c.in_err-unit.ensures.long

pub returns-in_err-supply-clause-long : goal.returns-in_err-supply-clause-long
returns-in_err-supply-clause-long g c = took_exit _ _ _ c.from_residual-in_err-supply.ensures.1 (took_never (supplying _ _) [] 0 0 _ _ (supplying_never_long c.in_ok-unit.unit c.args.until) (c.in_err-supply.ensures.err _ _ _))

pub returns-in_err-inputs-clause-long : goal.returns-in_err-inputs-clause-long
returns-in_err-inputs-clause-long g c = took_exit _ _ _ c.from_residual-in_err-inputs.ensures.1 c.in_err-inputs.ensures.long

pub returns-in_err-script-clause-long : goal.returns-in_err-script-clause-long
returns-in_err-script-clause-long g c = took_exit _ _ _ c.from_residual-in_err-script.ensures.1 c.in_err-script.ensures.long

pub returns-in_err-pace-clause-long : goal.returns-in_err-pace-clause-long
returns-in_err-pace-clause-long g c = took_exit _ _ _ c.from_residual-in_err-pace.ensures.1 (took_never (pacing c.in_ok-unit.unit c.args.until) [] 0 0 _ _ (pacing_never_long c.in_ok-unit.unit c.args.until) (c.in_err-pace.ensures.err _ _ _))

pub returns-in-Err-clause-long : goal.returns-in-Err-clause-long
returns-in-Err-clause-long g c = took_for_memory _

pub returns-in_err-unit-clause-unread : goal.returns-in_err-unit-clause-unread
returns-in_err-unit-clause-unread g c = unfailed_exit _ _ _ _ c.from_residual.ensures.1 c.in_err-unit.ensures.unread

pub returns-in_err-supply-clause-unread : goal.returns-in_err-supply-clause-unread
returns-in_err-supply-clause-unread g c = unfailed_exit _ _ _ _ c.from_residual-in_err-supply.ensures.1 (λ other. c.in_ok-unit.ensures.unfailed)

pub returns-in_err-inputs-clause-unread : goal.returns-in_err-inputs-clause-unread
returns-in_err-inputs-clause-unread g c = unfailed_exit _ _ _ _ c.from_residual-in_err-inputs.ensures.1 (unfailed_behind _ _ _ _ c.in_ok-unit.ensures.unfailed c.in_err-inputs.ensures.unread)

pub returns-in_err-script-clause-unread : goal.returns-in_err-script-clause-unread
returns-in_err-script-clause-unread g c = unfailed_exit _ _ _ _ c.from_residual-in_err-script.ensures.1
    (unfailed_behind _ _ _ _ (c.in_ok-inputs.ensures.unfailed ∙ c.in_ok-unit.ensures.unfailed) c.in_err-script.ensures.unread)

pub returns-in_err-pace-clause-unread : goal.returns-in_err-pace-clause-unread
returns-in_err-pace-clause-unread g c = unfailed_exit _ _ _ _ c.from_residual-in_err-pace.ensures.1
    (λ other. c.in_ok-script.ensures.unfailed ∙ c.in_ok-inputs.ensures.unfailed ∙ c.in_ok-unit.ensures.unfailed)

pub returns-in-Err-clause-unread : goal.returns-in-Err-clause-unread
returns-in-Err-clause-unread g c = λ other. c.in_ok-script.ensures.unfailed ∙ c.in_ok-inputs.ensures.unfailed ∙ c.in_ok-unit.ensures.unfailed
