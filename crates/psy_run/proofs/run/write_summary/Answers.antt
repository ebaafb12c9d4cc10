-- What is left of the proof of `run::write_summary`.
use Rattle.std.proofs.Common.{◌∙◌, subst, refl, ◌+◌, ◌-◌, ◌<◌, ◌≤◌, length, take, arith}
use Rattle.std.proofs.lemmas.Option.{slice_get_within}
use Rattle.psy_door.specs.Growth.{Grew, GrewByFront}
use Rattle.psy_kernel.specs.Progress.{summary_told}
use Rattle.psy_run.proofs.CutLemmas.{cut_at_line}
use Rattle.psy_run.proofs.LogLemmas.{Grew-line, GrewByFront-line}
use Rattle.psy_run.proofs.run.write_summary.Goals as goal

pub returns-in-Err-clause-written : goal.returns-in-Err-clause-written
returns-in-Err-clause-written g c =
    let at = c.if-not-summary_line.ensures.some refl in
    GrewByFront-line _ _ _ (summary_told c.args.kernel.now) c.lines.place c.summary_line.new.line at c.lines.invariant.grew
    (subst (GrewByFront (g.S.Sink.held c.lines.out) (g.S.Sink.held c.write_all_of.new.out)) c.bytes.ensures c.in-Err.ensures.written)

pub overflow_add-place : goal.overflow_add-place
overflow_add-place g c =
    let less = slice_get_within (summary_told c.args.kernel.now) c.lines.place c.summary_line.new.line (c.if-not-summary_line.ensures.some refl) in
    let few = c.summary_line.ensures.few in
    omega (arith, less, few)

pub lines-smaller : goal.lines-smaller
lines-smaller g c =
    let less = slice_get_within (summary_told c.args.kernel.now) c.lines.place c.summary_line.new.line (c.if-not-summary_line.ensures.some refl) in
    let smaller : length (summary_told c.args.kernel.now) - (c.lines.place + 1) < length (summary_told c.args.kernel.now) - c.lines.place = omega (arith, less) in
    smaller

pub lines-preserved : goal.lines-preserved
lines-preserved g c =
    let at = c.if-not-summary_line.ensures.some refl in
    let less = slice_get_within (summary_told c.args.kernel.now) c.lines.place c.summary_line.new.line at in
    let within : c.lines.place + 1 ≤ length (summary_told c.args.kernel.now) = omega (arith, less) in
    record {
      within = within;
      unfailed = c.in_default.ensures.unfailed ∙ c.lines.invariant.unfailed;
      grew =
          Grew-line _ _ _ (summary_told c.args.kernel.now) c.lines.place c.summary_line.new.line at c.lines.invariant.grew
          (subst (Grew (g.S.Sink.held c.lines.out) (g.S.Sink.held c.write_all_of.new.out)) c.bytes.ensures c.in_default.ensures.written);
    }

pub returns-in-Err-clause-cut : goal.returns-in-Err-clause-cut
returns-in-Err-clause-cut g c =
    let at = c.if-not-summary_line.ensures.some refl in
    cut_at_line _ _ _ (summary_told c.args.kernel.now) c.lines.place c.in-Err.fault.taken c.summary_line.new.line at c.lines.invariant.grew
    (subst (λ line. Grew (g.S.Sink.held c.lines.out) (g.S.Sink.held c.write_all_of.new.out) (take c.in-Err.fault.taken line)) c.bytes.ensures c.in-Err.ensures.front)
    (subst (λ line. c.in-Err.fault.taken < length line) c.bytes.ensures c.in-Err.ensures.short)
