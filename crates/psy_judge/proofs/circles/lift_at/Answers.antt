-- What is left of the proof of `circles::lift_at`.
use Rattle.std.proofs.Common.{List, length, ◌<◌, sym, ap, subst, ◌∙◌, arith}
use Rattle.psy_judge.specs.declared.heights.Top.{Top}
use Rattle.psy_judge.specs.Climbing.{IsLifted, greatest_of}
use Rattle.psy_judge.specs.Highest.{top_at}
use Rattle.psy_judge.proofs.ClimbedBack.{lifted_at}
use Rattle.psy_judge.proofs.circles.lift_at.Goals as goal

pub returns-then-comes_higher-clause-lifted : goal.returns-then-comes_higher-clause-lifted
returns-then-comes_higher-clause-lifted c owner found =
    let code = c.args.code.now in
    let row = c.args.row.now in
    let place = c.args.place in
    let less : place < length row = omega (arith, c.if-place-len.false, c.len.ensures) in
    subst (λ (r : List Top). IsLifted code owner row r) (sym c.set.ensures)
    (lifted_at code owner row place c.greatest-height.result less c.requires.small found
    (c.greatest-height.ensures ∙ ap greatest_of (c.top_of.ensures ∙ ap (λ (r : List Top). top_at r place) c.as_slice.ensures))
    (c.comes_higher.ensures c.if-comes_higher.true))
