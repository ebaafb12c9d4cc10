-- What is left of the proof of `run::trial_loop`.
use Rattle.std.proofs.Common.{◌≡◌, ap, subst, IfErr}
use Rattle.psy_kernel.specs.Progress.{summary_told}
use Rattle.psy_kernel.specs.Texts.{text_of}
use Rattle.psy_log.specs.Writing.{Written}
use Rattle.psy_run.specs.Cuts.{IsCutAt}
use Rattle.psy_run.proofs.run.trial_loop.Goals as goal

pub returns-clause-written : goal.returns-clause-written
returns-clause-written g c =
    let summary : summary_told c.pass_dates.new.kernel ≡ summary_told c.args.kernel.now = ap summary_told c.pass_dates.ensures in
    subst (λ lines. Written (g.S.Sink.held c.args.out.now) (g.S.Sink.held c.write_summary.new.out) c.write_summary.result (text_of lines)) summary c.write_summary.ensures.written

pub returns-clause-cut : goal.returns-clause-cut
returns-clause-cut g c =
    let summary : summary_told c.pass_dates.new.kernel ≡ summary_told c.args.kernel.now = ap summary_told c.pass_dates.ensures in
    subst (λ lines. IfErr c.write_summary.result (λ fault. IsCutAt (g.S.Sink.held c.args.out.now) (g.S.Sink.held c.write_summary.new.out) lines fault.taken)) summary c.write_summary.ensures.cut
