-- What is left of the proof of `few::is_few`.
use Rattle.std.proofs.Common.{◌<◌, List, fold, length, take, sym, subst, ap, ◌∙◌}
use Rattle.std.specs.Prelude.{ℤ}
use Rattle.psy_draw.specs.Columns.{kept, with_other}
use Rattle.psy_draw.proofs.Different.{too_many}
use Rattle.psy_draw.proofs.few.is_few.Goals as goal

pub returns-then-not-add_all : goal.returns-then-not-add_all
returns-then-not-add_all c =
    let seen = take c.loop-column.few.count c.loop-column.few.seen in
    let P : List ℤ → Type 0 = λ values. 8 < length (fold with_other seen values) in
    sym (too_many c.args.columns.now c.loop-column.column-index c.column-item.result seen c.loop-column-test.true c.loop-column.invariant
    (subst P (c.kept.ensures ∙ ap kept c.column-item.is) (c.add_all.ensures.many c.if-not-add_all.true)))
