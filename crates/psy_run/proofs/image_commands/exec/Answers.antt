-- What is left of the proof of `image_commands::exec`.
use Rattle.std.proofs.Common.{◌∙◌, sym, subst}
use Rattle.std.specs.Prelude.{[], option_copied}
use Rattle.psy_image.specs.Images.{spells_image}
use Rattle.psy_plan.specs.Supplies.{supply_of}
use Rattle.psy_run.specs.declared.refusal.File.TheVariants.{Image}
use Rattle.psy_run.specs.Answer.{listing, scripting, supplying_by}
use Rattle.psy_run.specs.Outcome.{halts_memory}
use Rattle.psy_run.specs.Steps.{decoding, pacing, reading, verifying}
use Rattle.psy_run.proofs.Courses.{halts_exit, halts_first}
use Rattle.psy_run.proofs.Executions.{can_execute, exec_gives, exec_unlisted, exec_unpaced, exec_unscripted, exec_unspelled, exec_unsupplied, exec_unverified, executed_is}
use Rattle.psy_run.proofs.FaultLemmas.{unfailed_behind, unfailed_exit}
use Rattle.psy_run.proofs.LongFiles.{decoding_never_long, pacing_never_long, supplying_by_never_long, took_exit, took_never, verifying_never_long}
use Rattle.psy_run.proofs.ToldLemmas.{gives_behind, halts_behind}
use Rattle.psy_run.proofs.image_commands.exec.Goals as goal

pub returns-in_err-bytes-clause-err : goal.returns-in_err-bytes-clause-err
returns-in_err-bytes-clause-err g c = halts_exit _ _ _ _ _ _ c.from_residual.ensures.1 (halts_first (reading _ Image _) _ _ _ _ _ c.in_err-bytes.ensures.err)

pub returns-in_err-image-clause-err : goal.returns-in_err-image-clause-err
returns-in_err-image-clause-err g c = halts_exit _ _ _ _ _ _ c.from_residual-in_err-image.ensures.1
    (exec_unspelled _ c.args.name.now c.args.until (option_copied c.args.inputs) (option_copied c.args.script) _ _ _ _ c.in_ok-bytes.bytes.items c.in_ok-bytes.ensures.ok (c.in_err-image.ensures.err _ _ _))

pub returns-in_err-checked-clause-err : goal.returns-in_err-checked-clause-err
returns-in_err-checked-clause-err g c = halts_exit _ _ _ _ _ _ c.from_residual-in_err-checked.ensures.1
    (exec_unverified _ c.args.name.now c.args.until (option_copied c.args.inputs) (option_copied c.args.script) _ _ _ _ c.in_ok-bytes.bytes.items c.in_ok-bytes.ensures.ok c.in_ok-image.image c.in_ok-image.ensures.ok (c.in_err-checked.ensures.err _ _ _))

pub returns-in_err-found-clause-err : goal.returns-in_err-found-clause-err
returns-in_err-found-clause-err g c =
    let it = c.in_ok-checked.checked.image in
    let bytes = c.in_ok-bytes.bytes.items in
    let read = c.in_ok-bytes.ensures.ok in
    let spelled : spells_image it bytes = subst (λ i. spells_image i bytes) (sym c.in_ok-checked.ensures.same) c.in_ok-image.ensures.ok in
    let ways = c.in_ok-checked.checked.ways in
    let checked = c.in_ok-checked.ensures.checked in
    halts_exit _ _ _ _ _ _ c.from_residual-in_err-found.ensures.1
    (exec_unsupplied _ c.args.name.now c.args.until (option_copied c.args.inputs) (option_copied c.args.script) _ _ _ _ bytes read it spelled ways checked (c.in_err-found.ensures.err _ _ _))

pub returns-in_err-inputs-clause-err : goal.returns-in_err-inputs-clause-err
returns-in_err-inputs-clause-err g c =
    let it = c.in_ok-checked.checked.image in
    let bytes = c.in_ok-bytes.bytes.items in
    let read = c.in_ok-bytes.ensures.ok in
    let spelled : spells_image it bytes = subst (λ i. spells_image i bytes) (sym c.in_ok-checked.ensures.same) c.in_ok-image.ensures.ok in
    let ways = c.in_ok-checked.checked.ways in
    let checked = c.in_ok-checked.ensures.checked in
    let supply = supply_of ways.nexts c.in_ok-found.found in
    let supplied = c.in_ok-found.ensures.ok in
    let inputs = option_copied c.args.inputs in
    halts_exit _ _ _ _ _ _ c.from_residual-in_err-inputs.ensures.1
    (exec_unlisted _ c.args.name.now c.args.until inputs (option_copied c.args.script) _ _ _ _ bytes read it spelled ways checked supply supplied
    (halts_behind (λ files. listing files it.unit inputs) c.in_ok-bytes.ensures.shelf c.in_err-inputs.ensures.err))

pub returns-in_err-script-clause-err : goal.returns-in_err-script-clause-err
returns-in_err-script-clause-err g c =
    let it = c.in_ok-checked.checked.image in
    let bytes = c.in_ok-bytes.bytes.items in
    let read = c.in_ok-bytes.ensures.ok in
    let spelled : spells_image it bytes = subst (λ i. spells_image i bytes) (sym c.in_ok-checked.ensures.same) c.in_ok-image.ensures.ok in
    let ways = c.in_ok-checked.checked.ways in
    let checked = c.in_ok-checked.ensures.checked in
    let supply = supply_of ways.nexts c.in_ok-found.found in
    let supplied = c.in_ok-found.ensures.ok in
    let inputs = option_copied c.args.inputs in
    let script = option_copied c.args.script in
    let listed = gives_behind (λ files. listing files it.unit inputs) c.in_ok-bytes.ensures.shelf c.in_ok-inputs.ensures.ok in
    halts_exit _ _ _ _ _ _ c.from_residual-in_err-script.ensures.1
    (exec_unscripted _ c.args.name.now c.args.until inputs script _ _ _ _ bytes read it spelled ways checked supply supplied _ listed
    (halts_behind (λ files. scripting files it.unit script) c.in_ok-bytes.ensures.shelf (halts_behind (λ files. scripting files it.unit script) c.in_ok-inputs.ensures.shelf c.in_err-script.ensures.err)))

pub returns-in_err-pace-clause-err : goal.returns-in_err-pace-clause-err
returns-in_err-pace-clause-err g c =
    let it = c.in_ok-checked.checked.image in
    let bytes = c.in_ok-bytes.bytes.items in
    let read = c.in_ok-bytes.ensures.ok in
    let spelled : spells_image it bytes = subst (λ i. spells_image i bytes) (sym c.in_ok-checked.ensures.same) c.in_ok-image.ensures.ok in
    let ways = c.in_ok-checked.checked.ways in
    let checked = c.in_ok-checked.ensures.checked in
    let supply = supply_of ways.nexts c.in_ok-found.found in
    let supplied = c.in_ok-found.ensures.ok in
    let inputs = option_copied c.args.inputs in
    let script = option_copied c.args.script in
    let listed = gives_behind (λ files. listing files it.unit inputs) c.in_ok-bytes.ensures.shelf c.in_ok-inputs.ensures.ok in
    let scripted = gives_behind (λ files. scripting files it.unit script) c.in_ok-bytes.ensures.shelf (gives_behind (λ files. scripting files it.unit script) c.in_ok-inputs.ensures.shelf c.in_ok-script.ensures.ok) in
    halts_exit _ _ _ _ _ _ c.from_residual-in_err-pace.ensures.1
    (exec_unpaced _ c.args.name.now c.args.until inputs script _ _ _ _ bytes read it spelled ways checked supply supplied _ listed _ scripted (c.in_err-pace.ensures.err _ _ _))

pub returns-in-Ok-clause-ok : goal.returns-in-Ok-clause-ok
returns-in-Ok-clause-ok g c =
    let it = c.in_ok-checked.checked.image in
    let bytes = c.in_ok-bytes.bytes.items in
    let read = c.in_ok-bytes.ensures.ok in
    let spelled : spells_image it bytes = subst (λ i. spells_image i bytes) (sym c.in_ok-checked.ensures.same) c.in_ok-image.ensures.ok in
    let ways = c.in_ok-checked.checked.ways in
    let checked = c.in_ok-checked.ensures.checked in
    let supply = supply_of ways.nexts c.in_ok-found.found in
    let supplied = c.in_ok-found.ensures.ok in
    let inputs = option_copied c.args.inputs in
    let script = option_copied c.args.script in
    let listed = gives_behind (λ files. listing files it.unit inputs) c.in_ok-bytes.ensures.shelf c.in_ok-inputs.ensures.ok in
    let scripted = gives_behind (λ files. scripting files it.unit script) c.in_ok-bytes.ensures.shelf (gives_behind (λ files. scripting files it.unit script) c.in_ok-inputs.ensures.shelf c.in_ok-script.ensures.ok) in
    let its = c.in-Ok.ensures in
    exec_gives _ c.args.name.now c.args.until inputs script bytes read it spelled ways checked supply supplied _ listed _ scripted
    c.in_ok-pace.ensures.ok _ (executed_is _ _ _ _ _ _ _ _ its.booted its.its_unit its.its_code its.its_nexts its.its_sizes its.its_until)

pub returns-in-Ok-clause-can : goal.returns-in-Ok-clause-can
returns-in-Ok-clause-can g c =
    let its = c.in-Ok.ensures in
    can_execute c.in-Ok.kernel c.in_ok-checked.checked.image.unit c.in_ok-inputs.inputs.lists c.in_ok-script.script its.booted its.plan its.its_unit c.in_ok-inputs.ensures.inputs c.in_ok-script.ensures.script

pub returns-clause-err : goal.returns-clause-err
returns-clause-err g c = halts_memory

pub returns-in_err-bytes-clause-long : goal.returns-in_err-bytes-clause-long
returns-in_err-bytes-clause-long g c = took_exit _ _ _ c.from_residual.ensures.1 c.in_err-bytes.ensures.long

pub returns-in_err-image-clause-long : goal.returns-in_err-image-clause-long
returns-in_err-image-clause-long g c = took_exit _ _ _ c.from_residual-in_err-image.ensures.1 (took_never (decoding _) [] 0 0 _ _ (decoding_never_long c.in_ok-bytes.bytes.items) (c.in_err-image.ensures.err _ _ _))

pub returns-in_err-checked-clause-long : goal.returns-in_err-checked-clause-long
returns-in_err-checked-clause-long g c = took_exit _ _ _ c.from_residual-in_err-checked.ensures.1 (took_never (verifying _) [] 0 0 _ _ (verifying_never_long c.in_ok-image.image) (c.in_err-checked.ensures.err _ _ _))

pub returns-in_err-found-clause-long : goal.returns-in_err-found-clause-long
returns-in_err-found-clause-long g c = took_exit _ _ _ c.from_residual-in_err-found.ensures.1
    (took_never (supplying_by _ _ _) [] 0 0 _ _ (supplying_by_never_long c.in_ok-checked.checked.image.unit c.in_ok-checked.checked.ways c.args.until) (c.in_err-found.ensures.err _ _ _))

pub returns-in_err-inputs-clause-long : goal.returns-in_err-inputs-clause-long
returns-in_err-inputs-clause-long g c = took_exit _ _ _ c.from_residual-in_err-inputs.ensures.1 c.in_err-inputs.ensures.long

pub returns-in_err-script-clause-long : goal.returns-in_err-script-clause-long
returns-in_err-script-clause-long g c = took_exit _ _ _ c.from_residual-in_err-script.ensures.1 c.in_err-script.ensures.long

pub returns-in_err-pace-clause-long : goal.returns-in_err-pace-clause-long
returns-in_err-pace-clause-long g c = took_exit _ _ _ c.from_residual-in_err-pace.ensures.1 (took_never (pacing c.in_ok-checked.checked.image.unit c.args.until) [] 0 0 _ _ (pacing_never_long c.in_ok-checked.checked.image.unit c.args.until) (c.in_err-pace.ensures.err _ _ _))

pub returns-in_err-bytes-clause-unread : goal.returns-in_err-bytes-clause-unread
returns-in_err-bytes-clause-unread g c = unfailed_exit _ _ _ _ c.from_residual.ensures.1 c.in_err-bytes.ensures.unread

pub returns-in_err-image-clause-unread : goal.returns-in_err-image-clause-unread
returns-in_err-image-clause-unread g c = unfailed_exit _ _ _ _ c.from_residual-in_err-image.ensures.1 (λ other. c.in_ok-bytes.ensures.unfailed)

pub returns-in_err-checked-clause-unread : goal.returns-in_err-checked-clause-unread
returns-in_err-checked-clause-unread g c = unfailed_exit _ _ _ _ c.from_residual-in_err-checked.ensures.1 (λ other. c.in_ok-bytes.ensures.unfailed)

pub returns-in_err-found-clause-unread : goal.returns-in_err-found-clause-unread
returns-in_err-found-clause-unread g c = unfailed_exit _ _ _ _ c.from_residual-in_err-found.ensures.1 (λ other. c.in_ok-bytes.ensures.unfailed)

pub returns-in_err-inputs-clause-unread : goal.returns-in_err-inputs-clause-unread
returns-in_err-inputs-clause-unread g c = unfailed_exit _ _ _ _ c.from_residual-in_err-inputs.ensures.1 (unfailed_behind _ _ _ _ c.in_ok-bytes.ensures.unfailed c.in_err-inputs.ensures.unread)

pub returns-in_err-script-clause-unread : goal.returns-in_err-script-clause-unread
returns-in_err-script-clause-unread g c = unfailed_exit _ _ _ _ c.from_residual-in_err-script.ensures.1
    (unfailed_behind _ _ _ _ (c.in_ok-inputs.ensures.unfailed ∙ c.in_ok-bytes.ensures.unfailed) c.in_err-script.ensures.unread)

pub returns-in_err-pace-clause-unread : goal.returns-in_err-pace-clause-unread
returns-in_err-pace-clause-unread g c = unfailed_exit _ _ _ _ c.from_residual-in_err-pace.ensures.1
    (λ other. c.in_ok-script.ensures.unfailed ∙ c.in_ok-inputs.ensures.unfailed ∙ c.in_ok-bytes.ensures.unfailed)
