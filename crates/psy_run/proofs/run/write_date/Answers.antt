-- What is left of the proof of `run::write_date`.
use Rattle.std.proofs.Common.{◌≡◌, ◌∙◌, ap, subst, refl, ◌+◌, ◌-◌, ◌<◌, length, slice_get, take, Some, arith}
use Rattle.std.proofs.lemmas.Option.{slice_get_within}
use Rattle.psy_door.specs.Growth.{Grew, GrewByFront}
use Rattle.psy_kernel.specs.Progress.{lines_told}
use Rattle.psy_run.proofs.CutLemmas.{cut_at_line}
use Rattle.psy_run.proofs.LogLemmas.{Grew-line, GrewByFront-line, given-set}
use Rattle.psy_run.proofs.run.write_date.Goals as goal

pub returns-in-Err-clause-written : goal.returns-in-Err-clause-written
returns-in-Err-clause-written g c =
    let told : lines_told c.lines.kernel ≡ lines_told c.args.kernel.now = ap lines_told c.lines.invariant.same in
    let at = subst (λ lines. slice_get lines c.lines.kernel.given ≡ Some c.next_line.new.line) told (c.if-not-next_line.ensures.some refl).0 in
    GrewByFront-line _ _ _ (lines_told c.args.kernel.now) c.lines.kernel.given c.next_line.new.line at c.lines.invariant.grew
    (subst (GrewByFront (g.S.Sink.held c.lines.out) (g.S.Sink.held c.write_all_of.new.out)) c.bytes.ensures c.in-Err.ensures.written)

pub lines-smaller : goal.lines-smaller
lines-smaller g c =
    let told : lines_told c.lines.kernel ≡ lines_told c.args.kernel.now = ap lines_told c.lines.invariant.same in
    let at = subst (λ lines. slice_get lines c.lines.kernel.given ≡ Some c.next_line.new.line) told (c.if-not-next_line.ensures.some refl).0 in
    let less = slice_get_within (lines_told c.args.kernel.now) c.lines.kernel.given c.next_line.new.line at in
    let next : c.next_line.new.self.given ≡ c.lines.kernel.given + 1 = ap (λ k. k.given) (c.if-not-next_line.ensures.some refl).1 in
    let smaller : length (lines_told c.args.kernel.now) - c.next_line.new.self.given < length (lines_told c.args.kernel.now) - c.lines.kernel.given = omega (arith, less, next) in
    smaller

pub lines-preserved : goal.lines-preserved
lines-preserved g c =
    let told : lines_told c.lines.kernel ≡ lines_told c.args.kernel.now = ap lines_told c.lines.invariant.same in
    let after = (c.if-not-next_line.ensures.some refl).1 in
    let at = subst (λ lines. slice_get lines c.lines.kernel.given ≡ Some c.next_line.new.line) told (c.if-not-next_line.ensures.some refl).0 in
    let less = slice_get_within (lines_told c.args.kernel.now) c.lines.kernel.given c.next_line.new.line at in
    let next : c.next_line.new.self.given ≡ c.lines.kernel.given + 1 = ap (λ k. k.given) after in
    record {
      same = given-set c.next_line.new.self c.lines.kernel c.args.kernel.now after c.lines.invariant.same;
      within = omega (arith, less, next);
      unfailed = c.in_default.ensures.unfailed ∙ c.lines.invariant.unfailed;
      grew =
          rw next
          (Grew-line _ _ _ (lines_told c.args.kernel.now) c.lines.kernel.given c.next_line.new.line at c.lines.invariant.grew
          (subst (Grew (g.S.Sink.held c.lines.out) (g.S.Sink.held c.write_all_of.new.out)) c.bytes.ensures c.in_default.ensures.written));
    }

pub returns-in-Err-clause-cut : goal.returns-in-Err-clause-cut
returns-in-Err-clause-cut g c =
    let told : lines_told c.lines.kernel ≡ lines_told c.args.kernel.now = ap lines_told c.lines.invariant.same in
    let at = subst (λ lines. slice_get lines c.lines.kernel.given ≡ Some c.next_line.new.line) told (c.if-not-next_line.ensures.some refl).0 in
    cut_at_line _ _ _ (lines_told c.args.kernel.now) c.lines.kernel.given c.in-Err.fault.taken c.next_line.new.line at c.lines.invariant.grew
    (subst (λ line. Grew (g.S.Sink.held c.lines.out) (g.S.Sink.held c.write_all_of.new.out) (take c.in-Err.fault.taken line)) c.bytes.ensures c.in-Err.ensures.front)
    (subst (λ line. c.in-Err.fault.taken < length line) c.bytes.ensures c.in-Err.ensures.short)
