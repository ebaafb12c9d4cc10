-- What is left of the proof of `trace_commands::audit`.
use Rattle.std.proofs.Common.{◌∙◌, refl}
use Rattle.std.specs.Prelude.{[], option_copied}
use Rattle.psy_run.specs.declared.refusal.File.TheVariants.{Trace}
use Rattle.psy_run.specs.Answer.{compiling, scripting, supplying}
use Rattle.psy_run.specs.Steps.{auditing, judged_by, pacing, reading}
use Rattle.psy_run.specs.Supplies.{supply_of}
use Rattle.psy_run.proofs.Auditing.{audit_gives, audit_unpaced, audit_unread, audit_unscripted, audit_untrue}
use Rattle.psy_run.proofs.Courses.{halts_exit, halts_first, halts_later}
use Rattle.psy_run.proofs.FaultLemmas.{unfailed_behind, unfailed_exit}
use Rattle.psy_run.proofs.LongFiles.{auditing_never_long, pacing_never_long, supplying_never_long, took_exit, took_never}
use Rattle.psy_run.proofs.ToldLemmas.{gives_behind, halts_behind}
use Rattle.psy_run.proofs.trace_commands.audit.Goals as goal

pub returns-in_err-unit-clause-err : goal.returns-in_err-unit-clause-err
returns-in_err-unit-clause-err g c = halts_exit _ _ _ _ _ _ c.from_residual.ensures.1 (halts_first (compiling _ _) _ _ _ _ _ c.in_err-unit.ensures.err)

pub returns-in_err-supply-clause-err : goal.returns-in_err-supply-clause-err
returns-in_err-supply-clause-err g c = halts_exit _ _ _ _ _ _ c.from_residual-in_err-supply.ensures.1
    (halts_later (compiling _ _) _ _ _ _ _ _ c.in_ok-unit.ensures.ok (halts_first (supplying _ _) _ _ _ _ _ (c.in_err-supply.ensures.err _ _ _)))

pub returns-in_err-text-clause-err : goal.returns-in_err-text-clause-err
returns-in_err-text-clause-err g c =
    let unit = c.in_ok-unit.unit in
    let supply = c.in_ok-supply.supply in
    let gives = c.in_ok-supply.ensures.ok in
    let script = option_copied c.args.script in
    halts_exit _ _ _ _ _ _ c.from_residual-in_err-text.ensures.1
    (audit_unread _ c.args.name.now c.args.until c.args.trace.now script _ _ _ _ unit c.in_ok-unit.ensures.ok (supply_of supply) gives
    (halts_behind (λ files. reading files Trace c.args.trace.now) c.in_ok-unit.ensures.shelf c.in_err-text.ensures.err))

pub returns-in_err-script-clause-err : goal.returns-in_err-script-clause-err
returns-in_err-script-clause-err g c =
    let unit = c.in_ok-unit.unit in
    let supply = c.in_ok-supply.supply in
    let gives = c.in_ok-supply.ensures.ok in
    let script = option_copied c.args.script in
    let read = gives_behind (λ files. reading files Trace c.args.trace.now) c.in_ok-unit.ensures.shelf c.in_ok-text.ensures.ok in
    halts_exit _ _ _ _ _ _ c.from_residual-in_err-script.ensures.1
    (audit_unscripted _ c.args.name.now c.args.until c.args.trace.now script _ _ _ _ unit c.in_ok-unit.ensures.ok (supply_of supply) gives _ read
    (halts_behind (λ files. scripting files unit script) c.in_ok-unit.ensures.shelf (halts_behind (λ files. scripting files unit script) c.in_ok-text.ensures.shelf c.in_err-script.ensures.err)))

pub returns-in_err-pace-clause-err : goal.returns-in_err-pace-clause-err
returns-in_err-pace-clause-err g c =
    let unit = c.in_ok-unit.unit in
    let supply = c.in_ok-supply.supply in
    let gives = c.in_ok-supply.ensures.ok in
    let script = option_copied c.args.script in
    let read = gives_behind (λ files. reading files Trace c.args.trace.now) c.in_ok-unit.ensures.shelf c.in_ok-text.ensures.ok in
    let scripted = gives_behind (λ files. scripting files unit script) c.in_ok-unit.ensures.shelf (gives_behind (λ files. scripting files unit script) c.in_ok-text.ensures.shelf c.in_ok-script.ensures.ok) in
    halts_exit _ _ _ _ _ _ c.from_residual-in_err-pace.ensures.1
    (audit_unpaced _ c.args.name.now c.args.until c.args.trace.now script _ _ _ _ unit c.in_ok-unit.ensures.ok (supply_of supply) gives _ read _ scripted (c.in_err-pace.ensures.err _ _ _))

pub returns-in_err-legal-clause-err : goal.returns-in_err-legal-clause-err
returns-in_err-legal-clause-err g c =
    let unit = c.in_ok-unit.unit in
    let supply = c.in_ok-supply.supply in
    let gives = c.in_ok-supply.ensures.ok in
    let script = option_copied c.args.script in
    let read = gives_behind (λ files. reading files Trace c.args.trace.now) c.in_ok-unit.ensures.shelf c.in_ok-text.ensures.ok in
    let scripted = gives_behind (λ files. scripting files unit script) c.in_ok-unit.ensures.shelf (gives_behind (λ files. scripting files unit script) c.in_ok-text.ensures.shelf c.in_ok-script.ensures.ok) in
    halts_exit _ _ _ _ _ _ c.from_residual-in_err-legal.ensures.1
    (audit_untrue _ c.args.name.now c.args.until c.args.trace.now script _ _ _ _ unit c.in_ok-unit.ensures.ok (supply_of supply) gives _ read _ scripted c.in_ok-pace.ensures.ok (c.in_err-legal.ensures.err _ _ _))

pub returns-clause-ok : goal.returns-clause-ok
returns-clause-ok g c =
    let unit = c.in_ok-unit.unit in
    let supply = c.in_ok-supply.supply in
    let gives = c.in_ok-supply.ensures.ok in
    let script = option_copied c.args.script in
    let read = gives_behind (λ files. reading files Trace c.args.trace.now) c.in_ok-unit.ensures.shelf c.in_ok-text.ensures.ok in
    let scripted = gives_behind (λ files. scripting files unit script) c.in_ok-unit.ensures.shelf (gives_behind (λ files. scripting files unit script) c.in_ok-text.ensures.shelf c.in_ok-script.ensures.ok) in
    let legal = c.in_ok-legal.legal in
    audit_gives _ c.args.name.now c.args.until c.args.trace.now script unit c.in_ok-unit.ensures.ok (supply_of supply) gives _ read _ scripted c.in_ok-pace.ensures.ok
    (record { acts = legal.acts; looks = legal.looks }) c.in_ok-legal.ensures.ok _ refl

pub returns-in_err-supply-clause-long : goal.returns-in_err-supply-clause-long
returns-in_err-supply-clause-long g c = took_exit _ _ _ c.from_residual-in_err-supply.ensures.1 (took_never (supplying _ _) [] 0 0 _ _ (supplying_never_long c.in_ok-unit.unit c.args.until) (c.in_err-supply.ensures.err _ _ _))

pub returns-in_err-text-clause-long : goal.returns-in_err-text-clause-long
returns-in_err-text-clause-long g c = took_exit _ _ _ c.from_residual-in_err-text.ensures.1 c.in_err-text.ensures.long

pub returns-in_err-script-clause-long : goal.returns-in_err-script-clause-long
returns-in_err-script-clause-long g c = took_exit _ _ _ c.from_residual-in_err-script.ensures.1 c.in_err-script.ensures.long

pub returns-in_err-pace-clause-long : goal.returns-in_err-pace-clause-long
returns-in_err-pace-clause-long g c = took_exit _ _ _ c.from_residual-in_err-pace.ensures.1 (took_never (pacing c.in_ok-unit.unit c.args.until) [] 0 0 _ _ (pacing_never_long c.in_ok-unit.unit c.args.until) (c.in_err-pace.ensures.err _ _ _))

pub returns-in_err-legal-clause-long : goal.returns-in_err-legal-clause-long
returns-in_err-legal-clause-long g c =
    let unit = c.in_ok-unit.unit in
    let supply = c.in_ok-supply.supply in
    let j = judged_by unit supply.ways.nexts supply.sizes c.args.until c.in_ok-script.script in
    let text = c.in_ok-text.text.items in
    took_exit _ _ _ c.from_residual-in_err-legal.ensures.1 (took_never (auditing j text) [] 0 0 _ _ (auditing_never_long j text) (c.in_err-legal.ensures.err _ _ _))

pub returns-in_err-text-clause-unread : goal.returns-in_err-text-clause-unread
returns-in_err-text-clause-unread g c = unfailed_exit _ _ _ _ c.from_residual-in_err-text.ensures.1 (unfailed_behind _ _ _ _ c.in_ok-unit.ensures.unfailed c.in_err-text.ensures.unread)

pub returns-in_err-script-clause-unread : goal.returns-in_err-script-clause-unread
returns-in_err-script-clause-unread g c = unfailed_exit _ _ _ _ c.from_residual-in_err-script.ensures.1
    (unfailed_behind _ _ _ _ (c.in_ok-text.ensures.unfailed ∙ c.in_ok-unit.ensures.unfailed) c.in_err-script.ensures.unread)

pub returns-in_err-pace-clause-unread : goal.returns-in_err-pace-clause-unread
returns-in_err-pace-clause-unread g c = unfailed_exit _ _ _ _ c.from_residual-in_err-pace.ensures.1
    (λ other. c.in_ok-script.ensures.unfailed ∙ c.in_ok-text.ensures.unfailed ∙ c.in_ok-unit.ensures.unfailed)
