-- What is left of the proof of `kernels::kernel_of`.
use Rattle.std.proofs.Common.{[]}
use Rattle.psy_run.specs.Answer.{planning}
use Rattle.psy_run.specs.Services.{planned_run}
use Rattle.psy_run.proofs.KernelPlans.{kernel_meant, refused_by, refused_where, unread_never, unread_planning}
use Rattle.psy_run.proofs.MeaningText.{are_alike}
use Rattle.psy_run.proofs.kernels.kernel_of.Goals as goal

pub returns-clause-refused : goal.returns-clause-refused
returns-clause-refused c refusal is = refused_by (planning c.args.text.now.items c.args.until) c.boot_text.result refusal (c.boot_text.ensures.err [] 0 0) is

pub returns-clause-exactly : goal.returns-clause-exactly
returns-clause-exactly c refusal stops =
    let one = c.one_answer.ensures.refused c.args.text.now.items c.args.until refusal c.requires stops in
    refused_where (planning c.args.text.now.items c.args.until) (λ kernel. planned_run kernel.plan) c.boot_text.result refusal one.0 one.1 (c.boot_text.ensures.err [] 0 0) c.boot_text.ensures.given (unread_planning c.args.text.now.items c.args.until)

pub returns-clause-unread : goal.returns-clause-unread
returns-clause-unread c file is = unread_never c.args.text.now.items c.args.until c.boot_text.result file (c.boot_text.ensures.err [] 0 0) is

pub returns-clause-meant : goal.returns-clause-meant
returns-clause-meant c =
    let law = c.alike.ensures in
    let its = c.boot_text.ensures in
    kernel_meant (are_alike law.lines law.counts law.slacks law.held law.reaches) c.boot_text.result its.booted its.planned its.alone its.unscripted
