-- What is left of the proof of `commands::judge`.
use Rattle.std.proofs.Common.{refl, subst, []}
use Rattle.std.specs.Prelude.{map, string_bytes, option_copied}
use Rattle.psy_run.specs.declared.refusal.Refusal.TheVariants.{Words}
use Rattle.psy_run.specs.Answer.{making, trying}
use Rattle.psy_run.specs.Asked.{Asks, asked_by, Run, Check, Graph, Make, Trial, Build, Exec, Audit, Trace, Save, Resume}
use Rattle.psy_run.specs.Outcome.{halts_refused}
use Rattle.psy_run.specs.Services.{service_of}
use Rattle.psy_run.specs.Steps.{asking}
use Rattle.psy_run.proofs.Courses.{halts_first, halts_last, gives_last}
use Rattle.psy_run.proofs.LongFiles.{not_words, took_last, trying_never_long}
use Rattle.psy_run.proofs.FaultLemmas.{unfailed_last}
use Rattle.psy_run.proofs.commands.judge.Goals as goal

pub returns-in-None-clause-err : goal.returns-in-None-clause-err
returns-in-None-clause-err g c = halts_first (asking _) _ _ _ _ _ (halts_refused Words (refl, c.in-None.ensures))

pub returns-in-Some-Run-clause-ok : goal.returns-in-Some-Run-clause-ok
returns-in-Some-Run-clause-ok g c = gives_last (asking _) _ (Run c.in-Some-Run.program.now c.in-Some-Run.until (option_copied c.in-Some-Run.inputs) (option_copied c.in-Some-Run.script)) service_of _ (subst (λ read. Asks (map string_bytes c.args.words.now) (asked_by read)) c.in-Some-Run.field-0-is c.in-Some-Run.ensures) c.run.ensures.ok

pub returns-in-Some-Run-clause-err : goal.returns-in-Some-Run-clause-err
returns-in-Some-Run-clause-err g c = halts_last (asking _) _ _ _ _ (Run c.in-Some-Run.program.now c.in-Some-Run.until (option_copied c.in-Some-Run.inputs) (option_copied c.in-Some-Run.script)) _ (subst (λ read. Asks (map string_bytes c.args.words.now) (asked_by read)) c.in-Some-Run.field-0-is c.in-Some-Run.ensures) c.run.ensures.err

pub returns-in-Some-Check-clause-ok : goal.returns-in-Some-Check-clause-ok
returns-in-Some-Check-clause-ok g c = gives_last (asking _) _ (Check c.in-Some-Check.program.now c.in-Some-Check.until) service_of _ (subst (λ read. Asks (map string_bytes c.args.words.now) (asked_by read)) c.in-Some-Check.field-0-is c.in-Some-Check.ensures) c.check.ensures.ok

pub returns-in-Some-Check-clause-err : goal.returns-in-Some-Check-clause-err
returns-in-Some-Check-clause-err g c = halts_last (asking _) _ _ _ _ (Check c.in-Some-Check.program.now c.in-Some-Check.until) _ (subst (λ read. Asks (map string_bytes c.args.words.now) (asked_by read)) c.in-Some-Check.field-0-is c.in-Some-Check.ensures) c.check.ensures.err

pub returns-in-Some-Graph-clause-ok : goal.returns-in-Some-Graph-clause-ok
returns-in-Some-Graph-clause-ok g c = gives_last (asking _) _ (Graph c.in-Some-Graph.program.now) service_of _ (subst (λ read. Asks (map string_bytes c.args.words.now) (asked_by read)) c.in-Some-Graph.field-0-is c.in-Some-Graph.ensures) c.draw.ensures.ok

pub returns-in-Some-Graph-clause-err : goal.returns-in-Some-Graph-clause-err
returns-in-Some-Graph-clause-err g c = halts_last (asking _) _ _ _ _ (Graph c.in-Some-Graph.program.now) _ (subst (λ read. Asks (map string_bytes c.args.words.now) (asked_by read)) c.in-Some-Graph.field-0-is c.in-Some-Graph.ensures) c.draw.ensures.err

pub returns-in-Some-Make-clause-ok : goal.returns-in-Some-Make-clause-ok
returns-in-Some-Make-clause-ok g c = gives_last (asking _) _ (Make c.in-Some-Make.seed) service_of _ (subst (λ read. Asks (map string_bytes c.args.words.now) (asked_by read)) c.in-Some-Make.field-0-is c.in-Some-Make.ensures) c.write_made.ensures.ok

pub returns-in-Some-Make-clause-err : goal.returns-in-Some-Make-clause-err
returns-in-Some-Make-clause-err g c = halts_last (asking _) _ _ _ _ (Make c.in-Some-Make.seed) _ (subst (λ read. Asks (map string_bytes c.args.words.now) (asked_by read)) c.in-Some-Make.field-0-is c.in-Some-Make.ensures) (c.write_made.ensures.err _ _ _)

pub returns-in-Some-Trial-clause-ok : goal.returns-in-Some-Trial-clause-ok
returns-in-Some-Trial-clause-ok g c = gives_last (asking _) _ (Trial c.in-Some-Trial.seed c.in-Some-Trial.until) service_of _ (subst (λ read. Asks (map string_bytes c.args.words.now) (asked_by read)) c.in-Some-Trial.field-0-is c.in-Some-Trial.ensures) c.try_made.ensures.ok

pub returns-in-Some-Trial-clause-err : goal.returns-in-Some-Trial-clause-err
returns-in-Some-Trial-clause-err g c = halts_last (asking _) _ _ _ _ (Trial c.in-Some-Trial.seed c.in-Some-Trial.until) _ (subst (λ read. Asks (map string_bytes c.args.words.now) (asked_by read)) c.in-Some-Trial.field-0-is c.in-Some-Trial.ensures) (c.try_made.ensures.err _ _ _)

pub returns-in-None-clause-long : goal.returns-in-None-clause-long
returns-in-None-clause-long g c file e = absurd (not_words file cc)

pub returns-in-Some-Make-clause-long : goal.returns-in-Some-Make-clause-long
returns-in-Some-Make-clause-long g c = took_last (making _) _ _ _ _ _ (λ file stops. stops) (c.write_made.ensures.err [] 0 0)

pub returns-in-Some-Trial-clause-long : goal.returns-in-Some-Trial-clause-long
returns-in-Some-Trial-clause-long g c = took_last (trying _ _) _ _ _ _ _ (trying_never_long _ _) (c.try_made.ensures.err [] 0 0)

pub returns-in-Some-Make-clause-unread : goal.returns-in-Some-Make-clause-unread
returns-in-Some-Make-clause-unread g c = unfailed_last _ _ _ refl

pub returns-in-Some-Trial-clause-unread : goal.returns-in-Some-Trial-clause-unread
returns-in-Some-Trial-clause-unread g c = unfailed_last _ _ _ refl

pub returns-in-Some-Build-clause-ok : goal.returns-in-Some-Build-clause-ok
returns-in-Some-Build-clause-ok g c = gives_last (asking _) _ (Build c.in-Some-Build.program.now) service_of _ (subst (λ read. Asks (map string_bytes c.args.words.now) (asked_by read)) c.in-Some-Build.field-0-is c.in-Some-Build.ensures) c.build.ensures.ok

pub returns-in-Some-Build-clause-err : goal.returns-in-Some-Build-clause-err
returns-in-Some-Build-clause-err g c = halts_last (asking _) _ _ _ _ (Build c.in-Some-Build.program.now) _ (subst (λ read. Asks (map string_bytes c.args.words.now) (asked_by read)) c.in-Some-Build.field-0-is c.in-Some-Build.ensures) c.build.ensures.err

pub returns-in-Some-Exec-clause-ok : goal.returns-in-Some-Exec-clause-ok
returns-in-Some-Exec-clause-ok g c = gives_last (asking _) _ (Exec c.in-Some-Exec.image.now c.in-Some-Exec.until (option_copied c.in-Some-Exec.inputs) (option_copied c.in-Some-Exec.script)) service_of _ (subst (λ read. Asks (map string_bytes c.args.words.now) (asked_by read)) c.in-Some-Exec.field-0-is c.in-Some-Exec.ensures) c.exec.ensures.ok

pub returns-in-Some-Exec-clause-err : goal.returns-in-Some-Exec-clause-err
returns-in-Some-Exec-clause-err g c = halts_last (asking _) _ _ _ _ (Exec c.in-Some-Exec.image.now c.in-Some-Exec.until (option_copied c.in-Some-Exec.inputs) (option_copied c.in-Some-Exec.script)) _ (subst (λ read. Asks (map string_bytes c.args.words.now) (asked_by read)) c.in-Some-Exec.field-0-is c.in-Some-Exec.ensures) c.exec.ensures.err

pub returns-in-Some-Audit-clause-ok : goal.returns-in-Some-Audit-clause-ok
returns-in-Some-Audit-clause-ok g c = gives_last (asking _) _ (Audit c.in-Some-Audit.program.now c.in-Some-Audit.until c.in-Some-Audit.trace.now (option_copied c.in-Some-Audit.script)) service_of _ (subst (λ read. Asks (map string_bytes c.args.words.now) (asked_by read)) c.in-Some-Audit.field-0-is c.in-Some-Audit.ensures) c.audit.ensures.ok

pub returns-in-Some-Audit-clause-err : goal.returns-in-Some-Audit-clause-err
returns-in-Some-Audit-clause-err g c = halts_last (asking _) _ _ _ _ (Audit c.in-Some-Audit.program.now c.in-Some-Audit.until c.in-Some-Audit.trace.now (option_copied c.in-Some-Audit.script)) _ (subst (λ read. Asks (map string_bytes c.args.words.now) (asked_by read)) c.in-Some-Audit.field-0-is c.in-Some-Audit.ensures) c.audit.ensures.err

pub returns-in-Some-Trace-clause-ok : goal.returns-in-Some-Trace-clause-ok
returns-in-Some-Trace-clause-ok g c = gives_last (asking _) _ (Trace c.in-Some-Trace.program.now c.in-Some-Trace.until (option_copied c.in-Some-Trace.inputs) (option_copied c.in-Some-Trace.script)) service_of _ (subst (λ read. Asks (map string_bytes c.args.words.now) (asked_by read)) c.in-Some-Trace.field-0-is c.in-Some-Trace.ensures) c.trace.ensures.ok

pub returns-in-Some-Trace-clause-err : goal.returns-in-Some-Trace-clause-err
returns-in-Some-Trace-clause-err g c = halts_last (asking _) _ _ _ _ (Trace c.in-Some-Trace.program.now c.in-Some-Trace.until (option_copied c.in-Some-Trace.inputs) (option_copied c.in-Some-Trace.script)) _ (subst (λ read. Asks (map string_bytes c.args.words.now) (asked_by read)) c.in-Some-Trace.field-0-is c.in-Some-Trace.ensures) c.trace.ensures.err

pub returns-in-Some-Save-clause-ok : goal.returns-in-Some-Save-clause-ok
returns-in-Some-Save-clause-ok g c = gives_last (asking _) _ (Save c.in-Some-Save.program.now c.in-Some-Save.date (option_copied c.in-Some-Save.inputs) (option_copied c.in-Some-Save.script)) service_of _ (subst (λ read. Asks (map string_bytes c.args.words.now) (asked_by read)) c.in-Some-Save.field-0-is c.in-Some-Save.ensures) c.save.ensures.ok

pub returns-in-Some-Save-clause-err : goal.returns-in-Some-Save-clause-err
returns-in-Some-Save-clause-err g c = halts_last (asking _) _ _ _ _ (Save c.in-Some-Save.program.now c.in-Some-Save.date (option_copied c.in-Some-Save.inputs) (option_copied c.in-Some-Save.script)) _ (subst (λ read. Asks (map string_bytes c.args.words.now) (asked_by read)) c.in-Some-Save.field-0-is c.in-Some-Save.ensures) c.save.ensures.err

pub returns-in-Some-Resume-clause-ok : goal.returns-in-Some-Resume-clause-ok
returns-in-Some-Resume-clause-ok g c = gives_last (asking _) _ (Resume c.in-Some-Resume.program.now c.in-Some-Resume.state.now c.in-Some-Resume.until (option_copied c.in-Some-Resume.inputs) (option_copied c.in-Some-Resume.script)) service_of _ (subst (λ read. Asks (map string_bytes c.args.words.now) (asked_by read)) c.in-Some-Resume.field-0-is c.in-Some-Resume.ensures) c.resume.ensures.ok

pub returns-in-Some-Resume-clause-err : goal.returns-in-Some-Resume-clause-err
returns-in-Some-Resume-clause-err g c = halts_last (asking _) _ _ _ _ (Resume c.in-Some-Resume.program.now c.in-Some-Resume.state.now c.in-Some-Resume.until (option_copied c.in-Some-Resume.inputs) (option_copied c.in-Some-Resume.script)) _ (subst (λ read. Asks (map string_bytes c.args.words.now) (asked_by read)) c.in-Some-Resume.field-0-is c.in-Some-Resume.ensures) c.resume.ensures.err
