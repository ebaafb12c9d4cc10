-- What is left of the proof of `run::pass_lines`.
use Rattle.std.proofs.Common.{◌≡◌, ap, subst, refl, ◌+◌, ◌-◌, ◌<◌, length, slice_get, Some, arith}
use Rattle.std.proofs.lemmas.Option.{slice_get_within}
use Rattle.psy_kernel.specs.Progress.{lines_told}
use Rattle.psy_collect.proofs.LinesGiven.{given-set}
use Rattle.psy_collect.proofs.run.pass_lines.Goals as goal

pub lines-smaller : goal.lines-smaller
lines-smaller c =
    let told : lines_told c.lines.kernel ≡ lines_told c.args.kernel.now = ap lines_told c.lines.invariant.same in
    let at = subst (λ lines. slice_get lines c.lines.kernel.given ≡ Some c.next_line.new.line) told (c.lines-test.ensures.some refl).0 in
    let less = slice_get_within (lines_told c.args.kernel.now) c.lines.kernel.given c.next_line.new.line at in
    let next : c.next_line.new.self.given ≡ c.lines.kernel.given + 1 = ap (λ k. k.given) (c.lines-test.ensures.some refl).1 in
    let smaller : length (lines_told c.args.kernel.now) - c.next_line.new.self.given < length (lines_told c.args.kernel.now) - c.lines.kernel.given = omega (arith, less, next) in
    smaller

pub lines-preserved : goal.lines-preserved
lines-preserved c =
    let told : lines_told c.lines.kernel ≡ lines_told c.args.kernel.now = ap lines_told c.lines.invariant.same in
    let after = (c.lines-test.ensures.some refl).1 in
    let at = subst (λ lines. slice_get lines c.lines.kernel.given ≡ Some c.next_line.new.line) told (c.lines-test.ensures.some refl).0 in
    let less = slice_get_within (lines_told c.args.kernel.now) c.lines.kernel.given c.next_line.new.line at in
    let next : c.next_line.new.self.given ≡ c.lines.kernel.given + 1 = ap (λ k. k.given) after in
    record {
      same = given-set c.next_line.new.self c.lines.kernel c.args.kernel.now after c.lines.invariant.same;
      within = omega (arith, less, next);
    }
