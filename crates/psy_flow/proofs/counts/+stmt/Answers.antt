-- What is left of the proof of `counts::+stmt`.
use Rattle.std.proofs.Common.{◌≡◌, ◌+◌, take, sym, ap, ◌∙◌}
use Rattle.psy_tree.specs.declared.unit.Stmt.{Stmt}
use Rattle.psy_tree.specs.declared.unit.Stmt.TheVariants as stmt
use Rattle.psy_flow.specs.declared.tops.Tops.{Tops}
use Rattle.psy_flow.specs.Tops.{in_step, falling, or_else, and_on, turning, called, capped_tops, expr_most, stmt_tops, stmts_tops}
use Rattle.psy_flow.proofs.Layers.{tops_if_else, tops_bounded}
use Rattle.psy_flow.proofs.Limits.{step_is, falling_step_is, sum_step_is, or_else_is, behind_is, and_on_is}
use Rattle.psy_flow.proofs.Throughs.{through_more}
use Rattle.psy_flow.proofs.Turnings.{turning_like}
use Rattle.psy_flow.proofs.counts.+stmt.Goals as goal

pub tops_of_stmt-returns-in-Some : goal.tops_of_stmt-returns-in-Some
tops_of_stmt-returns-in-Some t c =
    let g = c.args.gauge in
    let calls = called c.args.row.now in
    let tops : Stmt → Tops = stmt_tops g c.args.wanted calls in
    let branch = stmts_tops g c.args.wanted calls c.in-If.branch in
    let other = stmts_tops g c.args.wanted calls c.in-Some.other in
    let hop = falling (in_step g) in
    let test = expr_most g calls c.in-If.test in
    let first : c.tops_of_stmts-branch.result ≡ capped_tops g branch = c.tops_of_stmts-branch.ensures ∙ ap (λ ss. capped_tops g (stmts_tops g c.args.wanted calls ss)) c.as_slice.ensures in
    let second : c.tops_of_stmts-other.result ≡ capped_tops g other = c.tops_of_stmts-other.ensures ∙ ap (λ ss. capped_tops g (stmts_tops g c.args.wanted calls ss)) c.as_slice-in-Some.ensures in
    let hopped = and_on_is g c.and_on-branch.result c.tops_of_stmts-branch.result c.falling-in-Some.result branch hop c.and_on-branch.ensures first
    (falling_step_is g c.falling-in-Some.result c.step-step.result c.falling-in-Some.ensures c.step-step.ensures) in
    let either = or_else_is g c.or_else-in-Some.result c.and_on-branch.result c.tops_of_stmts-other.result (and_on branch hop) other c.or_else-in-Some.ensures hopped second in
    let tested = sum_step_is g c.sum-test.result c.most_of_expr-in-If.result c.step-step.result test c.sum-test.ensures c.most_of_expr-in-If.ensures c.step-step.ensures in
    behind_is g c.behind-in-Some.result c.sum-test.result (test + in_step g) c.or_else-in-Some.result (or_else (and_on branch hop) other) c.behind-in-Some.ensures tested either
    ∙ ap (capped_tops g) (sym (tops_if_else g c.args.wanted calls c.in-If.test c.in-If.branch c.in-Some.other))
    ∙ ap (λ o. capped_tops g (tops (stmt.If c.in-If.test c.in-If.branch o))) (sym c.in-Some.is)
    ∙ ap (λ s. capped_tops g (tops s)) (sym c.in-If.is)

pub tops_of_stmt-returns-in-Bounded : goal.tops_of_stmt-returns-in-Bounded
tops_of_stmt-returns-in-Bounded t c =
    let g = c.args.gauge in
    let calls = called c.args.row.now in
    let tops : Stmt → Tops = stmt_tops g c.args.wanted calls in
    let body = stmts_tops g c.args.wanted calls c.in-Bounded.body in
    let test = expr_most g calls c.in-Bounded.test in
    let most = c.in-Bounded.most in
    let inside : c.tops_of_stmts-body.result ≡ capped_tops g body = c.tops_of_stmts-body.ensures ∙ ap (λ ss. capped_tops g (stmts_tops g c.args.wanted calls ss)) c.as_slice-in-Bounded.ensures in
    let turned = c.turning.ensures ∙ turning_like g most c.most_of_expr-test.result test c.tops_of_stmts-body.result body c.most_of_expr-test.ensures inside in
    behind_is g c.behind-in-Bounded.result c.step-step.result (in_step g) c.turning.result (turning g most test body) c.behind-in-Bounded.ensures (c.step-step.ensures ∙ step_is g) turned
    ∙ ap (capped_tops g) (sym (tops_bounded g c.args.wanted calls c.in-Bounded.test most c.in-Bounded.body))
    ∙ ap (λ s. capped_tops g (tops s)) (sym c.in-Bounded.is)

pub tops_of_stmts-loop-stmt-preserved : goal.tops_of_stmts-loop-stmt-preserved
tops_of_stmts-loop-stmt-preserved t c =
    let g = c.args.gauge in
    let tops : Stmt → Tops = stmt_tops g c.args.wanted (called c.args.row.now) in
    let before = stmts_tops g c.args.wanted (called c.args.row.now) (take c.loop-stmt.stmt-index c.args.stmts.now) in
    and_on_is g c.and_on-tops.result c.loop-stmt.tops c.tops_of_stmt.result before (tops c.stmt-item.result) c.and_on-tops.ensures c.loop-stmt.invariant c.tops_of_stmt.ensures
    ∙ ap (capped_tops g) (sym (through_more tops c.args.stmts.now c.loop-stmt.stmt-index c.stmt-item.result c.loop-stmt-test.true (sym c.stmt-item.is)))
