-- What is left of the proof of `asked::of_six`.
use Rattle.psy_run.proofs.AskedLemmas.{resume_six}
use Rattle.psy_run.proofs.asked.of_six.Goals as goal

pub returns-then-eq : goal.returns-then-eq
returns-then-eq c =
    resume_six c.args.command.now c.args.program.now c.args.state.now c.args.until.now c.if-eq.ensures c.to_resume.result c.args.inputs.now c.args.script.now c.to_resume.ensures
