-- What is left of the proof of `few::Few::add_all`.
use Rattle.std.proofs.Common.{rules, w32, ◌<◌, fold, get_or, length, take, ap, subst, ◌∙◌, arith}
use Rattle.std.specs.Prelude.{ℤ, pos}
use Rattle.std.proofs.lemmas.List.{take_all}
use mir.Val.{SFits}
use Rattle.psy_draw.specs.Columns.{with_other}
use Rattle.psy_draw.proofs.Clean.{clean}
use Rattle.psy_draw.proofs.Different.{many_of, others_more}
use Rattle.psy_draw.proofs.few.Few.add_all.Goals as goal

pub returns-then-not-add-clause-many : goal.returns-then-not-add-clause-many
returns-then-not-add-clause-many c = λ e.
    let one = get_or c.args.values.now c.loop-value.value-index (pos 0) in
    let fits : SFits w32 one = search rules in
    let P : ℤ → Type 0 = λ v. 8 < length (with_other (take c.loop-value.self.count c.loop-value.self.seen) v) in
    many_of (take c.args.self.now.count c.args.self.now.seen) c.args.values.now c.loop-value.value-index (pos 0) _ c.loop-value-test.true c.loop-value.invariant
    (subst P (clean one fits) (c.add.ensures.many c.if-not-add.true))

pub loop-value-preserved : goal.loop-value-preserved
loop-value-preserved c =
    let one = get_or c.args.values.now c.loop-value.value-index (pos 0) in
    let fits : SFits w32 one = search rules in
    let seen = take c.loop-value.self.count c.loop-value.self.seen in
    others_more (take c.args.self.now.count c.args.self.now.seen) c.args.values.now c.loop-value.value-index (pos 0) seen _ c.loop-value-test.true c.loop-value.invariant
    (c.add.ensures.added c.if-not-add.false ∙ ap (with_other seen) (clean one fits))

pub returns-clause-added : goal.returns-clause-added
returns-clause-added c = λ e.
    c.loop-value.invariant ∙ ap (fold with_other (take c.args.self.now.count c.args.self.now.seen)) (take_all c.loop-value.value-index c.args.values.now (omega (arith, c.loop-value-test.false)))
