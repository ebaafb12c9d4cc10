-- What is left of the proof of `backwards::+back`.
use Rattle.std.proofs.Common.{◌≡◌, ◌+◌, ◌-◌, ◌<◌, ◌++◌, ℕ, List, [], ◌∷◌, drop, length, reverse, append-nil, sym, ap, subst, ◌∙◌, arith, rules}
use Rattle.std.proofs.lemmas.List.{drop_all}
use Rattle.psy_tree.specs.declared.unit.Stmt.{Stmt, the_lemmas}
use Rattle.psy_tree.specs.declared.unit.Stmt.TheVariants as stmt
use Rattle.psy_meaning.specs.Rest.{rests_of, rests_of_list}
use Rattle.psy_flow.specs.declared.tops.Tops.{Tops}
use Rattle.psy_flow.specs.Costs.{counts_then, to_point}
use Rattle.psy_flow.specs.Tops.{called, capped_tops, expr_most, stmt_tops, stmts_tops, in_step, behind, or_else, and_on}
use Rattle.psy_flow.proofs.AndOns.{counted, and_on_next, if_on, if_else_on}
use Rattle.psy_flow.proofs.BehindTops.{rests_bare}
use Rattle.psy_flow.proofs.CountsThen.{advance_listed, if_else_listed, timed_listed, more_listed, more_whole}
use Rattle.psy_flow.proofs.Limits.{sum_step_is, or_else_is, behind_is, and_on_is}
use Rattle.psy_flow.proofs.Rests.{rests_if, rests_bounded}
use Rattle.psy_flow.proofs.Throughs.{and_on-first}
use Rattle.psy_flow.proofs.backwards.+back.Goals as goal

-- ---- statements one after the other

pub back-back_in-requires : goal.back-back_in-requires
back-back_in-requires t c =
    let after : List Stmt = drop c.each.place c.args.stmts.now in
    let less : c.each.place - 1 < length c.args.stmts.now = omega (arith, c.each-test.true, c.each.auto.place) in
    (search (rules, the_lemmas, less), counted c.args.gauge c.each.behind (and_on (stmts_tops c.args.gauge c.args.wanted (called c.args.row.now) after) c.args.last) c.each.invariant.whole)

pub back-each-init : goal.back-each-init
back-each-init t c =
    let g = c.args.gauge in
    let calls : ℕ → ℕ = called c.args.row.now in
    let stmts = c.args.stmts.now in
    let none : drop (length stmts) stmts ≡ [] = drop_all (length stmts) stmts (omega arith) in
    record {
      whole = c.requires.counted ∙ ap (capped_tops g) (sym (and_on-first c.args.last)) ∙ ap (λ ss. capped_tops g (and_on (stmts_tops g c.args.wanted calls ss) c.args.last)) (sym none);
      listed = sym (append-nil c.args.counts.now.items) ∙ ap (λ ss. c.args.counts.now.items ++ reverse (counts_then g c.args.wanted calls (rests_of_list ss) c.args.last)) (sym none);
    }

pub back-each-preserved : goal.back-each-preserved
back-each-preserved t c =
    let g = c.args.gauge in
    let calls : ℕ → ℕ = called c.args.row.now in
    let stmts = c.args.stmts.now in
    let last = c.args.last in
    let old = c.args.counts.now.items in
    let place = c.each.place in
    let x = c.index-stmts-place.result in
    let next = c.each.behind in
    let before : ℕ = place - 1 in
    let one : place ≡ before + 1 = omega (arith, c.each-test.true) in
    let less : before < length stmts = omega (arith, c.each-test.true, c.each.auto.place) in
    let P : ℕ → Type 0 = λ n. next ≡ capped_tops g (and_on (stmts_tops g c.args.wanted calls (drop n stmts)) last) in
    let Q : ℕ → Type 0 = λ n. c.each.counts.items ≡ old ++ reverse (counts_then g c.args.wanted calls (rests_of_list (drop n stmts)) last) in
    let whole : P (before + 1) = subst P one c.each.invariant.whole in
    let listed : Q (before + 1) = subst Q one c.each.invariant.listed in
    record {
      whole = more_whole g c.args.wanted calls c.in_ok-behind.behind stmts before x next last less c.index-stmts-place.is whole c.in_ok-behind.ensures.whole;
      listed = more_listed g c.args.wanted calls old c.each.counts.items c.back_in.new.counts.items stmts before x next last less c.index-stmts-place.is whole listed c.in_ok-behind.ensures.counts;
    }

pub back-returns-clause-whole : goal.back-returns-clause-whole
back-returns-clause-whole t c =
    let g = c.args.gauge in
    let none : c.each.place ≡ 0 = omega (arith, c.each-test.false) in
    c.each.invariant.whole ∙ ap (λ n. capped_tops g (and_on (stmts_tops g c.args.wanted (called c.args.row.now) (drop n c.args.stmts.now)) c.args.last)) none

pub back-returns-clause-counts : goal.back-returns-clause-counts
back-returns-clause-counts t c =
    let none : c.each.place ≡ 0 = omega (arith, c.each-test.false) in
    c.each.invariant.listed ∙ ap (λ n. c.args.counts.now.items ++ reverse (counts_then c.args.gauge c.args.wanted (called c.args.row.now) (rests_of_list (drop n c.args.stmts.now)) c.args.last)) none

-- ---- a statement

pub back_in-returns-in_ok-push-in-Advance-clause-counts : goal.back_in-returns-in_ok-push-in-Advance-clause-counts
back_in-returns-in_ok-push-in-Advance-clause-counts t c =
    let calls : ℕ → ℕ = called c.args.row.now in
    let old = c.args.counts.now.items in
    let pushed : c.push.new.self.items ≡ old ++ to_point c.args.last ∷ [] = c.in_ok-push-in-Advance.ensures.items ∙ ap (λ n. old ++ n ∷ []) c.unwrap_or.ensures in
    advance_listed c.args.gauge c.args.wanted calls old c.push.new.self.items c.in-Advance.field-0 c.args.last c.requires.counted pushed
    ∙ ap (λ s. old ++ reverse (counts_then c.args.gauge c.args.wanted calls (rests_of s) c.args.last)) (sym c.in-Advance.is)

pub back_in-returns-in_ok-branch-in-None-clause-whole : goal.back_in-returns-in_ok-branch-in-None-clause-whole
back_in-returns-in_ok-branch-in-None-clause-whole t c =
    let g = c.args.gauge in
    let calls : ℕ → ℕ = called c.args.row.now in
    let last = c.args.last in
    let most = expr_most g calls c.in-If.test in
    let branch = stmts_tops g c.args.wanted calls c.in-If.branch in
    let tested = sum_step_is g c.sum-test.result c.most_of_expr.result c.step.result most c.sum-test.ensures c.most_of_expr.ensures c.step.ensures in
    let inside : c.in_ok-branch-in-None.branch ≡ capped_tops g (and_on branch last) =
    c.in_ok-branch-in-None.ensures.whole ∙ ap (λ ss. capped_tops g (and_on (stmts_tops g c.args.wanted calls ss) last)) c.as_slice.ensures in
    let either = or_else_is g c.or_else.result c.in_ok-branch-in-None.branch last (and_on branch last) last c.or_else.ensures inside c.requires.counted in
    behind_is g c.behind.result c.sum-test.result (most + in_step g) c.or_else.result (or_else (and_on branch last) last) c.behind.ensures tested either
    ∙ ap (capped_tops g) (sym (if_on g c.args.wanted calls c.in-If.test c.in-If.branch last))
    ∙ ap (λ o. capped_tops g (and_on (stmt_tops g c.args.wanted calls (stmt.If c.in-If.test c.in-If.branch o)) last)) (sym c.in-None.is)
    ∙ ap (λ s. capped_tops g (and_on (stmt_tops g c.args.wanted calls s) last)) (sym c.in-If.is)

pub back_in-returns-in_ok-branch-in-None-clause-counts : goal.back_in-returns-in_ok-branch-in-None-clause-counts
back_in-returns-in_ok-branch-in-None-clause-counts t c = rw (c.in-If.is, c.in-None.is, rests_if, ← c.as_slice.ensures) c.in_ok-branch-in-None.ensures.counts

pub back_in-returns-in_ok-branch-in-Some-clause-whole : goal.back_in-returns-in_ok-branch-in-Some-clause-whole
back_in-returns-in_ok-branch-in-Some-clause-whole t c =
    let g = c.args.gauge in
    let calls : ℕ → ℕ = called c.args.row.now in
    let last = c.args.last in
    let most = expr_most g calls c.in-If.test in
    let branch = stmts_tops g c.args.wanted calls c.in-If.branch in
    let other = stmts_tops g c.args.wanted calls c.in-Some.other in
    let hopped : Tops = behind (in_step g) last in
    let jump : c.behind-jump.result ≡ capped_tops g hopped = c.behind-jump.ensures ∙ ap (λ n. capped_tops g (behind n last)) c.step-in-Some.ensures in
    let tested = sum_step_is g c.sum-test.result c.most_of_expr.result c.step.result most c.sum-test.ensures c.most_of_expr.ensures c.step.ensures in
    let second : c.in_ok-other-in-Some.other ≡ capped_tops g (and_on other last) =
    c.in_ok-other-in-Some.ensures.whole ∙ ap (λ ss. capped_tops g (and_on (stmts_tops g c.args.wanted calls ss) last)) c.as_slice-in-Some.ensures in
    let first : c.in_ok-branch-in-Some.branch ≡ capped_tops g (and_on branch hopped) =
    c.in_ok-branch-in-Some.ensures.whole ∙ ap (λ ss. capped_tops g (and_on (stmts_tops g c.args.wanted calls ss) c.behind-jump.result)) c.as_slice-in-Some-2.ensures
    ∙ and_on_next g branch c.behind-jump.result hopped jump in
    let either = or_else_is g c.or_else-in-Some.result c.in_ok-branch-in-Some.branch c.in_ok-other-in-Some.other (and_on branch hopped) (and_on other last) c.or_else-in-Some.ensures first second in
    behind_is g c.behind-in-Some.result c.sum-test.result (most + in_step g) c.or_else-in-Some.result (or_else (and_on branch hopped) (and_on other last)) c.behind-in-Some.ensures tested either
    ∙ ap (capped_tops g) (sym (if_else_on g c.args.wanted calls c.in-If.test c.in-If.branch c.in-Some.other last))
    ∙ ap (λ o. capped_tops g (and_on (stmt_tops g c.args.wanted calls (stmt.If c.in-If.test c.in-If.branch o)) last)) (sym c.in-Some.is)
    ∙ ap (λ s. capped_tops g (and_on (stmt_tops g c.args.wanted calls s) last)) (sym c.in-If.is)

pub back_in-returns-in_ok-branch-in-Some-clause-counts : goal.back_in-returns-in_ok-branch-in-Some-clause-counts
back_in-returns-in_ok-branch-in-Some-clause-counts t c =
    let g = c.args.gauge in
    let calls : ℕ → ℕ = called c.args.row.now in
    let last = c.args.last in
    let jump : c.behind-jump.result ≡ capped_tops g (behind (in_step g) last) = c.behind-jump.ensures ∙ ap (λ n. capped_tops g (behind n last)) c.step-in-Some.ensures in
    rw (c.in-If.is, c.in-Some.is, ← c.as_slice-in-Some.ensures, ← c.as_slice-in-Some-2.ensures)
    (if_else_listed g c.args.wanted calls c.args.counts.now.items c.back-in-Some.new.counts.items c.back-in-Some-2.new.counts.items c.in-If.test c.as_slice-in-Some-2.result.now c.as_slice-in-Some.result.now c.behind-jump.result last
    jump c.in_ok-other-in-Some.ensures.counts c.in_ok-branch-in-Some.ensures.counts)

pub back_in-returns-in_ok-back-in-Timed-clause-whole : goal.back_in-returns-in_ok-back-in-Timed-clause-whole
back_in-returns-in_ok-back-in-Timed-clause-whole t c =
    and_on_is c.args.gauge c.and_on-whole.result c.tops_of_stmt-in-Timed.result c.args.last (stmt_tops c.args.gauge c.args.wanted (called c.args.row.now) c.args.stmt.now) c.args.last
    c.and_on-whole.ensures c.tops_of_stmt-in-Timed.ensures c.requires.counted

pub back_in-returns-in_ok-back-in-Timed-clause-counts : goal.back_in-returns-in_ok-back-in-Timed-clause-counts
back_in-returns-in_ok-back-in-Timed-clause-counts t c =
    let g = c.args.gauge in
    let calls : ℕ → ℕ = called c.args.row.now in
    let last = c.args.last in
    let turn = c.as_slice-in-Timed.result.now in
    let is : c.args.stmt.now ≡ stmt.Timed c.in-Timed.field-0 turn = c.in-Timed.is ∙ ap (stmt.Timed c.in-Timed.field-0) (sym c.as_slice-in-Timed.ensures) in
    let both : c.and_on-whole.result ≡ capped_tops g (and_on (stmt_tops g c.args.wanted calls (stmt.Timed c.in-Timed.field-0 turn)) last) =
    and_on_is g c.and_on-whole.result c.tops_of_stmt-in-Timed.result last (stmt_tops g c.args.wanted calls c.args.stmt.now) last c.and_on-whole.ensures c.tops_of_stmt-in-Timed.ensures c.requires.counted
    ∙ ap (λ s. capped_tops g (and_on (stmt_tops g c.args.wanted calls s) last)) is in
    let again : c.behind-again.result ≡ capped_tops g (behind (in_step g) c.and_on-whole.result) = c.behind-again.ensures ∙ ap (λ n. capped_tops g (behind n c.and_on-whole.result)) c.step-in-Timed.ensures in
    timed_listed g c.args.wanted calls c.args.counts.now.items c.back-in-Timed.new.counts.items c.in-Timed.field-0 turn c.behind-again.result c.and_on-whole.result last both again c.in_ok-back-in-Timed.ensures.counts
    ∙ ap (λ s. c.args.counts.now.items ++ reverse (counts_then g c.args.wanted calls (rests_of s) last)) (sym is)

pub back_in-returns-in_ok-back-in-Bounded-clause-whole : goal.back_in-returns-in_ok-back-in-Bounded-clause-whole
back_in-returns-in_ok-back-in-Bounded-clause-whole t c =
    and_on_is c.args.gauge c.and_on-in-Bounded.result c.tops_of_stmt-in-Bounded.result c.args.last (stmt_tops c.args.gauge c.args.wanted (called c.args.row.now) c.args.stmt.now) c.args.last
    c.and_on-in-Bounded.ensures c.tops_of_stmt-in-Bounded.ensures c.requires.counted

pub back_in-returns-in_ok-back-in-Bounded-clause-counts : goal.back_in-returns-in_ok-back-in-Bounded-clause-counts
back_in-returns-in_ok-back-in-Bounded-clause-counts t c = rw (c.in-Bounded.is, rests_bounded, ← c.as_slice-in-Bounded.ensures) c.in_ok-back-in-Bounded.ensures.counts

pub back_in-returns-in_default : goal.back_in-returns-in_default
back_in-returns-in_default t c =
    let g = c.args.gauge in
    let calls : ℕ → ℕ = called c.args.row.now in
    let old = c.args.counts.now.items in
    let not = c.in_default in
    let none : rests_of c.args.stmt.now ≡ [] = rests_bare c.args.stmt.now (record { advance = not.not-Advance; branches = not.not-If; timed = not.not-Timed; bounded = not.not-Bounded }) in
    record {
      whole = and_on_is g c.and_on-in_default.result c.tops_of_stmt-in_default.result c.args.last (stmt_tops g c.args.wanted calls c.args.stmt.now) c.args.last
          c.and_on-in_default.ensures c.tops_of_stmt-in_default.ensures c.requires.counted;
      counts = sym (append-nil old) ∙ ap (λ rests. old ++ reverse (counts_then g c.args.wanted calls rests c.args.last)) (sym none);
    }
