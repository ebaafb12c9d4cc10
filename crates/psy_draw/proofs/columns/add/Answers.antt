-- What is left of the proof of `columns::add`.
use Rattle.std.proofs.Common.{rules, w32, Bool, true, false, Some, List, Option, [], ◌∷◌, ◌++◌, ◌-◌, length, slice_get, ◌∙◌, sym, subst, ap, append-nil, arith}
use Rattle.std.specs.Prelude.{ℤ}
use mir.Val.{SFits}
use Rattle.psy_draw.specs.declared.column.Column.{Column}
use Rattle.psy_draw.specs.Columns.{Dated, Judges, Keeps, StandsAt, StandsFor, dated}
use Rattle.psy_draw.proofs.Clean.{clean}
use Rattle.psy_draw.proofs.Keeping.{keeps_first, keeps_merged, keeps_more, no_columns}
use Rattle.psy_draw.proofs.Standing.{last_got, stands_at_one}
use Rattle.psy_draw.proofs.columns.add.Goals as goal

pub returns-in_ok-push-in-None : goal.returns-in_ok-push-in-None
returns-in_ok-push-in-None c = λ place goes at stands judged values keeps.
    let v = dated c.args.one.date c.args.one.first in
    let none = no_columns c.pop.new.self.items (omega (arith, c.pop.new.self.ok, c.in-None.ensures.cases.1)) in
    let P : List Column → Type 0 = λ columns. Keeps place goes (values ++ v ∷ []) columns in
    let before : Keeps place goes values [] = subst (Keeps place goes values) (c.in-None.ensures.items ∙ append-nil c.pop.new.self.items ∙ none) keeps in
    subst P (sym (c.in_ok-push-in-None.ensures.items ∙ ap (λ columns. columns ++ c.args.one ∷ []) none)) (keeps_first place goes values v c.args.one before stands (stands_at_one place c.args.one at))

pub returns-in_ok-push-in-Some : goal.returns-in_ok-push-in-Some
returns-in_ok-push-in-Some c = λ place goes at stands judged values keeps.
    let fits : SFits w32 c.args.one.first = search rules in
    let v = dated c.args.one.date c.args.one.first in
    let last = c.in-Some.last in
    let P : List Column → Type 0 = λ columns. Keeps place goes (values ++ v ∷ []) columns in
    let R : List Column → Bool → Type 0 = λ columns b. Judges place goes b (slice_get columns (length columns - 1)) c.args.one in
    let S : Option Column → Type 0 = λ o. Judges place goes true o c.args.one in
    let there : Judges place goes true (Some last) c.args.one = subst S (last_got c.pop.new.self.items last) (subst (λ columns. R columns true) c.in-Some.ensures.items
    (subst (R c.args.columns.now.items) c.if-joins.true judged)) in
    let more = λ (group : List ℤ) (s : StandsFor group last).
    let Q : ℤ → Type 0 = λ z. StandsFor (group ++ z ∷ []) c.and.result in subst Q (clean c.args.one.first fits) (c.and.ensures.stands group s) in
    let stays = λ (piece : List Dated) (s : StandsAt place piece last). c.and.ensures.place place piece v s in
    subst P (sym c.in_ok-push-in-Some.ensures.items) (keeps_merged place goes values v c.pop.new.self.items last c.and.result (subst (Keeps place goes values) c.in-Some.ensures.items keeps) there more stays)

pub returns-in_ok-push-in-Some-2-2 : goal.returns-in_ok-push-in-Some-2-2
returns-in_ok-push-in-Some-2-2 c = λ place goes at stands judged values keeps.
    let v = dated c.args.one.date c.args.one.first in
    let front = c.pop.new.self.items in
    let last = c.in-Some-2.last in
    let P : List Column → Type 0 = λ columns. Keeps place goes (values ++ v ∷ []) columns in
    let R : List Column → Bool → Type 0 = λ columns b. Judges place goes b (slice_get columns (length columns - 1)) c.args.one in
    let S : Option Column → Type 0 = λ o. Judges place goes false o c.args.one in
    let behind : Judges place goes false (Some last) c.args.one =
    subst S (last_got front last) (subst (λ columns. R columns false) c.in-Some-2.ensures.items (subst (R c.args.columns.now.items) c.if-joins.false judged)) in
    subst P (sym (c.in_ok-push-in-Some-2-2.ensures.items ∙ ap (λ columns. columns ++ c.args.one ∷ []) c.in_ok-push-in-Some-2.ensures.items))
    (keeps_more place goes values v front last c.args.one (subst (Keeps place goes values) c.in-Some-2.ensures.items keeps) behind stands (stands_at_one place c.args.one at))
