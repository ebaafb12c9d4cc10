-- What is left of the proof of `delays::+stmt`.
use Rattle.std.proofs.Common.{◌≡◌, Some, take, max, ap, sym, ◌∙◌}
use Rattle.psy_tree.specs.declared.unit.Stmt.TheVariants as stmt
use Rattle.psy_meaning.specs.Sendings.{sendings_in, sendings_of}
use Rattle.psy_flow.specs.Listed.{delay_among}
use Rattle.psy_flow.proofs.DelaysAmong.{branches, stmt_more}
use Rattle.psy_flow.proofs.delays.+stmt.Goals as goal

pub delay_in_stmt-returns-in-Some : goal.delay_in_stmt-returns-in-Some
delay_in_stmt-returns-in-Some t c =
    let unit = c.args.unit.now in
    let stream = c.args.stream in
    let test = c.in-If.field-0 in
    let is : c.args.stmt.now ≡ stmt.If test c.in-If.branch (Some c.in-Some.other) = c.in-If.is ∙ ap (stmt.If test c.in-If.branch) c.in-Some.is in
    let first : c.delay_in-branch.result ≡ delay_among unit stream (sendings_in c.in-If.branch) = c.delay_in-branch.ensures ∙ ap (λ stmts. delay_among unit stream (sendings_in stmts)) c.as_slice.ensures in
    let second : c.delay_in-other.result ≡ delay_among unit stream (sendings_in c.in-Some.other) =
    c.delay_in-other.ensures ∙ ap (λ stmts. delay_among unit stream (sendings_in stmts)) c.as_slice-in-Some.ensures in
    c.max.ensures
    ∙ ap (λ delay. max delay c.delay_in-other.result) first
    ∙ ap (max (delay_among unit stream (sendings_in c.in-If.branch))) second
    ∙ sym (branches unit stream test c.in-If.branch c.in-Some.other)
    ∙ ap (λ s. delay_among unit stream (sendings_of s)) (sym is)

pub delay_in-loop-stmt-preserved : goal.delay_in-loop-stmt-preserved
delay_in-loop-stmt-preserved t c =
    let unit = c.args.unit.now in
    let stream = c.args.stream in
    let item = c.stmt-item.result in
    let i = c.loop-stmt.stmt-index in
    c.max-greatest.ensures
    ∙ ap (λ delay. max delay c.delay_in_stmt.result) c.loop-stmt.invariant
    ∙ ap (max (delay_among unit stream (sendings_in (take i c.args.stmts.now)))) (c.delay_in_stmt.ensures ∙ ap (λ s. delay_among unit stream (sendings_of s)) c.stmt-item.is)
    ∙ sym (stmt_more unit stream c.args.stmts.now i item c.loop-stmt-test.true)
