-- What is left of the proof of `points::tops_from`.
use Rattle.std.proofs.Common.{◌≡◌, ◌∙◌, ◌-◌, ℕ, ap, subst}
use Rattle.psy_meaning.specs.Rest.{rests_of_list}
use Rattle.psy_flow.specs.declared.points.Search.{Search}
use Rattle.psy_flow.specs.Tops.{called, capped_tops, stmts_tops, in_step, behind}
use Rattle.psy_flow.specs.Behind.{IsBehind}
use Rattle.psy_flow.proofs.BehindTops.{from_head, from_point}
use Rattle.psy_flow.proofs.points.tops_from.Goals as goal

pub returns-then-point-eq0 : goal.returns-then-point-eq0
returns-then-point-eq0 c = from_head c.args.gauge c.args.wanted (called c.args.row.now) c.tops_of_stmts-body.result c.args.stmts.now c.args.point c.if-point-eq0.true c.tops_of_stmts-body.ensures

pub returns-in-Found : goal.returns-in-Found
returns-in-Found c =
    let g = c.args.gauge in
    let calls : ℕ → ℕ = called c.args.row.now in
    let P : Search → Type 0 = λ r. IsBehind g c.args.wanted calls (rests_of_list c.args.stmts.now) (c.args.point - 1) r in
    let again : c.behind-in-Found.result ≡ capped_tops g (behind (in_step g) (capped_tops g (stmts_tops g c.args.wanted calls c.args.stmts.now))) =
    c.behind-in-Found.ensures
    ∙ ap (λ n. capped_tops g (behind n c.tops_of_stmts-body.result)) c.step.ensures
    ∙ ap (λ x. capped_tops g (behind (in_step g) x)) c.tops_of_stmts-body.ensures in
    from_point g c.args.wanted calls c.in-Found.tops c.behind-in-Found.result c.and_on.result c.args.stmts.now c.args.point c.if-point-eq0.false
    (subst P c.in-Found.is c.behind.ensures) again c.and_on.ensures
