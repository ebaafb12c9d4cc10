-- What is left of the proof of `columns::joins_value`.
use Rattle.std.proofs.Common.{rules, w32, ◌&&◌, Option, sym, ap, subst, ◌∙◌}
use Rattle.std.specs.Ordering.{int_eq}
use mir.Val.{SFits}
use Rattle.std.specs.Option.{option_copied}
use Rattle.psy_draw.specs.declared.column.Column.{Column}
use Rattle.psy_draw.specs.Columns.{Judges, is_even, is_there_still}
use Rattle.psy_draw.proofs.Clean.{clean}
use Rattle.psy_draw.proofs.Judging.{still_judged}
use Rattle.psy_draw.proofs.columns.joins_value.Goals as goal

pub returns-else-one-last : goal.returns-else-one-last
returns-else-one-last c = λ place at.
    let last = c.in-Some.last.now in
    let fits : SFits w32 c.args.one.now.first = search rules in
    let S : Option Column → Type 0 = λ o. Judges place (is_there_still place) c.is_all.result o c.args.one.now in
    subst S (sym (ap option_copied c.in-Some.is)) (still_judged place last c.args.one.now c.is_all.result at c.if-one-last.false (c.is_all.ensures ∙ ap (λ z. is_even last && int_eq z last.first) (clean c.args.one.now.first fits)))
