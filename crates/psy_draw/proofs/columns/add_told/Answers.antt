-- What is left of the proof of `columns::add_told`.
use Rattle.std.proofs.Common.{rules, w32, ◌≡◌, [], ◌∷◌, ◌-◌, ℕ, List, Option, length, slice_get, sym, ap, subst, ◌∙◌}
use Rattle.std.specs.Prelude.{ℤ}
use mir.Val.{SFits}
use Rattle.psy_draw.specs.declared.column.Column.{Column}
use Rattle.psy_draw.specs.Columns.{AddsValues, Judges, StandsFor, dated, rule}
use Rattle.psy_draw.specs.Scales.{place_by}
use Rattle.psy_draw.proofs.Clean.{clean}
use Rattle.psy_draw.proofs.Refused.{if_ok}
use Rattle.psy_draw.proofs.columns.add_told.Goals as goal

pub returns : goal.returns
returns c =
    let one = c.of-one.result in
    let fits : SFits w32 c.args.told.value = search rules in
    let is = c.of-one.ensures in
    let place = place_by c.args.scale.now in
    let goes = rule c.args.of_variable place in
    let first : one.first ≡ c.args.told.value = is.told.1 ∙ clean c.args.told.value fits in
    let at : one.x ≡ place one.date = is.place ∙ ap place (sym is.told.0) in
    let S : ℤ → Type 0 = λ z. StandsFor (z ∷ []) one in
    let L : Option Column → Type 0 = λ last. Judges place goes c.joins-joins.result last one in
    let C : List Column → Type 0 = λ columns. Judges place goes c.joins-joins.result (slice_get columns (length columns - 1)) one in
    let judged : C c.args.columns.now.items = subst C c.deref.ensures.value (subst L c.last.ensures.value (c.joins-joins.ensures place at)) in
    let P : ℕ → ℤ → Type 0 = λ date value. AddsValues place goes (dated date value ∷ []) c.args.columns.now.items c.add.new.columns.items in
    if_ok _ (P c.args.told.date c.args.told.value) c.add.result
    (λ adds. subst (P c.args.told.date) first (subst (λ date. P date one.first) is.told.0 (adds place goes at (subst S (sym is.told.1) is.stands) judged))) c.add.ensures
