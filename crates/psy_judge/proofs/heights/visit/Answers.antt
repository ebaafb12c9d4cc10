-- What is left of the proof of `heights::visit`.
use Rattle.std.proofs.Common.{◌≡◌, Bool, Some, get_or, sym, ap, subst, ◌∙◌}
use Rattle.std.specs.Prelude.{slice_get}
use Rattle.std.proofs.lemmas.Option.{slice_get-get_or}
use Rattle.psy_code.specs.declared.instr.Instr.{Instr}
use Rattle.std.specs.Prelude.{List}
use Rattle.psy_judge.specs.declared.heights.Top.{Top}
use Rattle.psy_judge.specs.Highest.{IsClosedAt, IsCourse, top_at}
use Rattle.psy_judge.proofs.RowsTaken.{count_visited, or_is_left, or_is_right, small_visited, visit_with}
use Rattle.psy_judge.proofs.heights.visit.Goals as goal

pub returns-then-next-clause-small : goal.returns-then-next-clause-small
returns-then-next-clause-small c =
    small_visited _ c.args.row.now c.follow_some-next.new.row c.follow_some-jump.new.row c.top_of-top.result c.steps_at-on.result c.requires.count c.requires.small c.follow_some-next.ensures.row c.follow_some-jump.ensures.row

pub returns-else-next-clause-small : goal.returns-else-next-clause-small
returns-else-next-clause-small c =
    small_visited _ c.args.row.now c.follow_some-next.new.row c.follow_some-jump.new.row c.top_of-top.result c.steps_at-on.result c.requires.count c.requires.small c.follow_some-next.ensures.row c.follow_some-jump.ensures.row

pub returns-then-next-clause-count : goal.returns-then-next-clause-count
returns-then-next-clause-count c =
    count_visited _ c.args.row.now c.follow_some-next.new.row c.follow_some-jump.new.row c.top_of-top.result c.steps_at-on.result c.requires.count c.follow_some-next.ensures.row c.follow_some-jump.ensures.row

pub returns-else-next-clause-count : goal.returns-else-next-clause-count
returns-else-next-clause-count c =
    count_visited _ c.args.row.now c.follow_some-next.new.row c.follow_some-jump.new.row c.top_of-top.result c.steps_at-on.result c.requires.count c.follow_some-next.ensures.row c.follow_some-jump.ensures.row

pub returns-then-next-clause-course : goal.returns-then-next-clause-course
returns-then-next-clause-course c owner found =
    let code = c.args.code.now in
    let place = c.args.place in
    let row = c.args.row.now in
    let i = c.index-as_slice-place.result in
    let at : slice_get code.instrs place ≡ Some i = slice_get-get_or code.instrs place i c.requires.place ∙ ap Some (sym (c.index-as_slice-place.is ∙ ap (λ (is : List Instr). get_or is place i) c.as_slice-2.ensures)) in
    subst (λ (b : Bool). IsCourse code owner (λ after. IsClosedAt code after place) row c.follow_some-jump.new.row b) (or_is_left c.follow_some-next.result c.follow_some-jump.result c.if-next.true)
    (visit_with code owner row c.follow_some-next.new.row c.follow_some-jump.new.row place i c.steps_at-on.result c.top_of-top.result c.follow_some-next.result c.follow_some-jump.result
    c.requires.count c.requires.small found at c.steps_at-on.ensures (c.top_of-top.ensures ∙ ap (λ (r : List Top). top_at r place) c.as_slice.ensures)
    c.follow_some-next.ensures.row c.follow_some-next.ensures.rose c.follow_some-jump.ensures.row c.follow_some-jump.ensures.rose)

pub returns-else-next-clause-course : goal.returns-else-next-clause-course
returns-else-next-clause-course c owner found =
    let code = c.args.code.now in
    let place = c.args.place in
    let row = c.args.row.now in
    let i = c.index-as_slice-place.result in
    let at : slice_get code.instrs place ≡ Some i = slice_get-get_or code.instrs place i c.requires.place ∙ ap Some (sym (c.index-as_slice-place.is ∙ ap (λ (is : List Instr). get_or is place i) c.as_slice-2.ensures)) in
    subst (λ (b : Bool). IsCourse code owner (λ after. IsClosedAt code after place) row c.follow_some-jump.new.row b) (or_is_right c.follow_some-next.result c.follow_some-jump.result c.if-next.false)
    (visit_with code owner row c.follow_some-next.new.row c.follow_some-jump.new.row place i c.steps_at-on.result c.top_of-top.result c.follow_some-next.result c.follow_some-jump.result
    c.requires.count c.requires.small found at c.steps_at-on.ensures (c.top_of-top.ensures ∙ ap (λ (r : List Top). top_at r place) c.as_slice.ensures)
    c.follow_some-next.ensures.row c.follow_some-next.ensures.rose c.follow_some-jump.ensures.row c.follow_some-jump.ensures.rose)
