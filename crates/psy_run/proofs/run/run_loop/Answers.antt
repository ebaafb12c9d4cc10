-- What is left of the proof of `run::run_loop`.
use Rattle.std.proofs.Common.{◌≡◌, ap, subst, ◌+◌, IfErr}
use Rattle.psy_door.specs.Growth.{Grew}
use Rattle.psy_kernel.specs.Progress.{summary_told, system}
use Rattle.psy_kernel.specs.Texts.{log_of, text_of}
use Rattle.psy_log.specs.Writing.{Written}
use Rattle.psy_run.specs.Cuts.{IsCutAt, log_lines}
use Rattle.psy_run.proofs.CutLemmas.{cut_before, cut_last, log_text}
use Rattle.psy_run.proofs.WritingLemmas.{GrewByFront-append, Written-append}
use Rattle.psy_run.proofs.run.run_loop.Goals as goal

pub returns-in-Err-clause-written : goal.returns-in-Err-clause-written
returns-in-Err-clause-written g c =
    let old = c.args.kernel.now in
    GrewByFront-append _ _ (log_of (system old) (old.plan.until + 1)) (text_of (summary_told old)) c.in-Err.ensures.written

pub returns-clause-written : goal.returns-clause-written
returns-clause-written g c =
    let old = c.args.kernel.now in
    let summary : summary_told c.run_dates.new.kernel ≡ summary_told old = ap summary_told c.in_default.ensures.over in
    Written-append _ _ _ _ (log_of (system old) (old.plan.until + 1)) (text_of (summary_told old)) c.in_default.ensures.written
    (subst (λ lines. Written (g.S.Sink.held c.run_dates.new.out) (g.S.Sink.held c.write_summary.new.out) c.write_summary.result (text_of lines)) summary c.write_summary.ensures.written)

pub returns-in-Err-clause-cut : goal.returns-in-Err-clause-cut
returns-in-Err-clause-cut g c =
    let old = c.args.kernel.now in
    cut_before _ _ (log_lines (system old) (old.plan.until + 1)) (summary_told old) c.in-Err.fault.taken c.in-Err.ensures.cut

pub returns-clause-cut : goal.returns-clause-cut
returns-clause-cut g c =
    let old = c.args.kernel.now in
    let dates = old.plan.until + 1 in
    let summary : summary_told c.run_dates.new.kernel ≡ summary_told old = ap summary_told c.in_default.ensures.over in
    cut_last _ _ _ (log_lines (system old) dates) (summary_told old) _
    (subst (Grew (g.S.Sink.held c.args.out.now) (g.S.Sink.held c.run_dates.new.out)) (log_text (system old) dates) c.in_default.ensures.written)
    (subst (λ lines. IfErr c.write_summary.result (λ fault. IsCutAt (g.S.Sink.held c.run_dates.new.out) (g.S.Sink.held c.write_summary.new.out) lines fault.taken)) summary c.write_summary.ensures.cut)
