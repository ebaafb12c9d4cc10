-- What is left of the proof of `statements::+emit_stmt`.
use Rattle.std.proofs.Common.{rules, ◌+◌, ◌++◌, drop, length, refl, sym, ap, ◌∙◌, arith, append-nil, append_assoc}
use Rattle.std.proofs.lemmas.Result.{on_ok_weaker}
use Rattle.psy_lists.proofs.lemmas.Places.{drop_read}
use Rattle.psy_tree.specs.declared.unit.Stmt.{the_lemmas}
use Rattle.psy_tree.specs.declared.unit.Stmt.TheVariants as stmt
use Rattle.psy_meaning.specs.Sizes.{stmt_size, stmts_size}
use Rattle.psy_meaning.specs.Depths.{loops, loops_in}
use Rattle.psy_gen.specs.Emission.{stmts_code, stmts_places}
use Rattle.psy_gen.proofs.Equations.{code_set, code_set_copy, code_set_cell, code_send, code_advance, code_return, places_set, places_set_copy, places_set_cell, places_send, places_advance, places_return, places_if, places_if_else, places_bounded, places_timed, size_set_cell, size_if_front, size_if_else, size_bounded, size_timed, size_advance, loops_if_front, loops_if_else, loops_bounded, loops_timed}
use Rattle.psy_gen.proofs.Patches.{then_one, then_operator, stmts_more, places_more, loops_more, to_first, to_second, to_turn, behind_one, behind_expr, behind_stmts, patch_if, patch_if_else, patch_bounded, patch_timed}
use Rattle.psy_gen.proofs.Small.{stmts_left}
use Rattle.psy_gen.proofs.statements.+emit_stmt.Goals as goal

pub emit_stmt-returns-in_ok-emit_expr-in-Set-clause-code : goal.emit_stmt-returns-in_ok-emit_expr-in-Set-clause-code
emit_stmt-returns-in_ok-emit_expr-in-Set-clause-code t c =
    rw (c.in-Set.is, code_set, ← c.base.ensures) (on_ok_weaker c.push.result (then_one _ _ _ _ _ c.in_ok-emit_expr-in-Set.ensures) c.push.ensures)

pub emit_stmt-returns-in_ok-emit_expr-in-Set-clause-places : goal.emit_stmt-returns-in_ok-emit_expr-in-Set-clause-places
emit_stmt-returns-in_ok-emit_expr-in-Set-clause-places t c = rw (c.in-Set.is, places_set) (on_ok_weaker c.push.result (λ _. sym (append-nil c.args.body.now.places)) c.push.ensures)

pub emit_stmt-returns-in_ok-emit_expr-in-SetCopy-clause-code : goal.emit_stmt-returns-in_ok-emit_expr-in-SetCopy-clause-code
emit_stmt-returns-in_ok-emit_expr-in-SetCopy-clause-code t c =
    rw (c.in-SetCopy.is, code_set_copy) (on_ok_weaker c.push-in-SetCopy.result (then_one _ _ _ _ _ c.in_ok-emit_expr-in-SetCopy.ensures) c.push-in-SetCopy.ensures)

pub emit_stmt-returns-in_ok-emit_expr-in-SetCopy-clause-places : goal.emit_stmt-returns-in_ok-emit_expr-in-SetCopy-clause-places
emit_stmt-returns-in_ok-emit_expr-in-SetCopy-clause-places t c = rw (c.in-SetCopy.is, places_set_copy) (on_ok_weaker c.push-in-SetCopy.result (λ _. sym (append-nil c.args.body.now.places)) c.push-in-SetCopy.ensures)

pub emit_stmt-returns-in_ok-emit_expr-in-SetCell-2-clause-code : goal.emit_stmt-returns-in_ok-emit_expr-in-SetCell-2-clause-code
emit_stmt-returns-in_ok-emit_expr-in-SetCell-2-clause-code t c =
    rw (c.in-SetCell.is, code_set_cell, ← c.base-in-SetCell.ensures, ← c.cells.ensures)
    (on_ok_weaker c.push-in-SetCell.result (then_operator c.args.layout.now _ _ _ _ _ _ _ c.in_ok-emit_expr-in-SetCell.ensures c.in_ok-emit_expr-in-SetCell-2.ensures) c.push-in-SetCell.ensures)

pub emit_stmt-returns-in_ok-emit_expr-in-SetCell-2-clause-places : goal.emit_stmt-returns-in_ok-emit_expr-in-SetCell-2-clause-places
emit_stmt-returns-in_ok-emit_expr-in-SetCell-2-clause-places t c = rw (c.in-SetCell.is, places_set_cell) (on_ok_weaker c.push-in-SetCell.result (λ _. sym (append-nil c.args.body.now.places)) c.push-in-SetCell.ensures)

pub emit_stmt-returns-in_ok-emit_expr-in-Send-clause-code : goal.emit_stmt-returns-in_ok-emit_expr-in-Send-clause-code
emit_stmt-returns-in_ok-emit_expr-in-Send-clause-code t c =
    rw (c.in-Send.is, code_send) (on_ok_weaker c.push-in-Send.result (then_one _ _ _ _ _ c.in_ok-emit_expr-in-Send.ensures) c.push-in-Send.ensures)

pub emit_stmt-returns-in_ok-emit_expr-in-Send-clause-places : goal.emit_stmt-returns-in_ok-emit_expr-in-Send-clause-places
emit_stmt-returns-in_ok-emit_expr-in-Send-clause-places t c = rw (c.in-Send.is, places_send) (on_ok_weaker c.push-in-Send.result (λ _. sym (append-nil c.args.body.now.places)) c.push-in-Send.ensures)

pub emit_stmt-returns-in_ok-emit_expr-in-Return-clause-code : goal.emit_stmt-returns-in_ok-emit_expr-in-Return-clause-code
emit_stmt-returns-in_ok-emit_expr-in-Return-clause-code t c =
    rw (c.in-Return.is, code_return) (on_ok_weaker c.push-in-Return.result (then_one _ _ _ _ _ c.in_ok-emit_expr-in-Return.ensures) c.push-in-Return.ensures)

pub emit_stmt-returns-in_ok-emit_expr-in-Return-clause-places : goal.emit_stmt-returns-in_ok-emit_expr-in-Return-clause-places
emit_stmt-returns-in_ok-emit_expr-in-Return-clause-places t c = rw (c.in-Return.is, places_return) (on_ok_weaker c.push-in-Return.result (λ _. sym (append-nil c.args.body.now.places)) c.push-in-Return.ensures)

pub emit_stmt-returns-in_ok-push-in-Advance-2-clause-code : goal.emit_stmt-returns-in_ok-push-in-Advance-2-clause-code
emit_stmt-returns-in_ok-push-in-Advance-2-clause-code t c = rw (c.in-Advance.is, code_advance) c.in_ok-push-in-Advance.ensures

pub emit_stmt-returns-in_ok-push-in-Advance-2-clause-places : goal.emit_stmt-returns-in_ok-push-in-Advance-2-clause-places
emit_stmt-returns-in_ok-push-in-Advance-2-clause-places t c =
    let behind = c.place-in-Advance.ensures ∙ behind_one _ _ _ c.in_ok-push-in-Advance.ensures in
    rw (c.in-Advance.is, places_advance, ← behind) c.in_ok-push-in-Advance-2.ensures.ok

pub emit_stmt-returns-in_ok-push-in-Timed-clause-code : goal.emit_stmt-returns-in_ok-push-in-Timed-clause-code
emit_stmt-returns-in_ok-push-in-Timed-clause-code t c =
    rw (c.set-in-Timed.ensures, c.place-in-Timed.ensures, c.in-Timed.is, ← c.as_slice-in-Timed.ensures)
    (patch_timed c.args.layout.now _ _ _ _ _ _ _ _ _ _ c.place-again-in-Timed.ensures c.in_ok-emit_expr-in-Timed.ensures c.in_ok-out-in-Timed.ensures.place c.in_ok-out-in-Timed.ensures.held c.in_ok-emit_stmts-in-Timed.ensures.code c.in_ok-push-in-Timed.ensures)

pub emit_stmt-returns-in_ok-push-in-Timed-clause-places : goal.emit_stmt-returns-in_ok-push-in-Timed-clause-places
emit_stmt-returns-in_ok-push-in-Timed-clause-places t c =
    let first = to_first c.args.layout.now c.in-Timed.test _ _ _ c.in_ok-emit_expr-in-Timed.ensures c.in_ok-out-in-Timed.ensures.held in
    rw (c.in-Timed.is, places_timed, ← first, ← c.as_slice-in-Timed.ensures) c.in_ok-emit_stmts-in-Timed.ensures.places

pub emit_stmt-returns-in_ok-push-in-Bounded-3-clause-code : goal.emit_stmt-returns-in_ok-push-in-Bounded-3-clause-code
emit_stmt-returns-in_ok-push-in-Bounded-3-clause-code t c =
    rw (c.set-in-Bounded.ensures, c.place-in-Bounded.ensures, c.in-Bounded.is, ← c.as_slice-in-Bounded.ensures)
    (patch_bounded c.args.layout.now c.in-Bounded.test c.in-Bounded.most _ _ _ _ _ _ _ _ _ _ _ _ c.in_ok-push-in-Bounded.ensures c.place-again.ensures c.in_ok-emit_expr-in-Bounded.ensures c.in_ok-push-in-Bounded-2.ensures c.in_ok-out-in-Bounded.ensures.place c.in_ok-out-in-Bounded.ensures.held refl c.in_ok-emit_stmts-in-Bounded.ensures.code c.in_ok-push-in-Bounded-3.ensures)

pub emit_stmt-returns-in_ok-push-in-Bounded-3-clause-places : goal.emit_stmt-returns-in_ok-push-in-Bounded-3-clause-places
emit_stmt-returns-in_ok-push-in-Bounded-3-clause-places t c =
    let first = to_turn c.args.layout.now c.in-Bounded.test c.args.body.now.loops c.in-Bounded.most _ _ _ _ _ c.in_ok-push-in-Bounded.ensures c.in_ok-emit_expr-in-Bounded.ensures c.in_ok-push-in-Bounded-2.ensures c.in_ok-out-in-Bounded.ensures.held in
    rw (c.in-Bounded.is, places_bounded, ← first, ← c.as_slice-in-Bounded.ensures) c.in_ok-emit_stmts-in-Bounded.ensures.places

pub emit_stmts-loop-stmt-preserved : goal.emit_stmts-loop-stmt-preserved
emit_stmts-loop-stmt-preserved t c =
    let layout = c.args.layout.now in
    let s = c.stmt-item.result in
    let rest = drop (c.loop-stmt.stmt-index + 1) c.args.stmts.now in
    let here = drop_read c.args.stmts.now c.loop-stmt.stmt-index s c.loop-stmt-test.true c.stmt-item.is in
    let code = c.in_ok-emit_stmt.ensures.code in
    let at = length c.loop-stmt.code in
    record {
      code = stmts_more layout s rest _ _ _ _ code c.in_ok-emit_stmt.ensures.loops ∙ ap (λ ss. c.loop-stmt.code ++ stmts_code layout ss c.loop-stmt.body.loops at) (sym here) ∙ c.loop-stmt.invariant.code;
      places = places_more layout s rest _ _ _ _ _ code c.in_ok-emit_stmt.ensures.places ∙ ap (λ ss. c.loop-stmt.body.places ++ stmts_places ss at) (sym here) ∙ c.loop-stmt.invariant.places;
      loops = loops_more s rest _ _ c.in_ok-emit_stmt.ensures.loops ∙ ap (λ ss. c.loop-stmt.body.loops + loops_in ss) (sym here) ∙ c.loop-stmt.invariant.loops;
    }

pub emit_stmt-returns-in-None-clause-code : goal.emit_stmt-returns-in-None-clause-code
emit_stmt-returns-in-None-clause-code t c =
    rw (c.set.ensures, c.place.ensures, c.in-If.is, c.in-None.is, ← c.as_slice.ensures)
    (patch_if c.args.layout.now _ _ _ _ _ _ _ _ c.in_ok-emit_expr-in-If.ensures c.in_ok-over-in-If.ensures.place c.in_ok-over-in-If.ensures.held c.in_ok-emit_stmts-in-If.ensures.code)

pub emit_stmt-returns-in-None-clause-places : goal.emit_stmt-returns-in-None-clause-places
emit_stmt-returns-in-None-clause-places t c =
    let first = to_first c.args.layout.now c.in-If.test _ _ _ c.in_ok-emit_expr-in-If.ensures c.in_ok-over-in-If.ensures.held in
    rw (c.in-If.is, c.in-None.is, places_if, ← first, ← c.as_slice.ensures) c.in_ok-emit_stmts-in-If.ensures.places

pub emit_stmt-returns-in_ok-emit_stmts-in-Some-clause-code : goal.emit_stmt-returns-in_ok-emit_stmts-in-Some-clause-code
emit_stmt-returns-in_ok-emit_stmts-in-Some-clause-code t c =
    let over = rw c.place-in-Some.ensures at c.set-in-Some.ensures in
    rw (c.set-in-Some-2.ensures, c.place-in-Some-2.ensures, c.in-If.is, c.in-Some.is, ← c.as_slice.ensures, ← c.as_slice-in-Some.ensures)
    (patch_if_else c.args.layout.now _ _ _ _ _ _ _ _ _ _ _ _ _ _ c.in_ok-emit_expr-in-If.ensures c.in_ok-over-in-If.ensures.place c.in_ok-over-in-If.ensures.held c.in_ok-emit_stmts-in-If.ensures.code c.in_ok-behind-in-Some.ensures.place c.in_ok-behind-in-Some.ensures.held over c.in_ok-emit_stmts-in-If.ensures.loops c.in_ok-emit_stmts-in-Some.ensures.code)

pub emit_stmt-returns-in_ok-emit_stmts-in-Some-clause-places : goal.emit_stmt-returns-in_ok-emit_stmts-in-Some-clause-places
emit_stmt-returns-in_ok-emit_stmts-in-Some-clause-places t c =
    let layout = c.args.layout.now in
    let first = to_first layout c.in-If.test _ _ _ c.in_ok-emit_expr-in-If.ensures c.in_ok-over-in-If.ensures.held in
    let second = to_second layout c.in-If.test c.as_slice.result.now _ _ _ _ _ _ _ _ _ c.in_ok-emit_expr-in-If.ensures c.in_ok-over-in-If.ensures.held c.in_ok-emit_stmts-in-If.ensures.code c.in_ok-behind-in-Some.ensures.held c.set-in-Some.ensures in
    rw (c.in-If.is, c.in-Some.is, places_if_else, ← c.as_slice.ensures, ← c.as_slice-in-Some.ensures, ← second, ← first, ← append_assoc, ← c.in_ok-emit_stmts-in-If.ensures.places)
    c.in_ok-emit_stmts-in-Some.ensures.places

-- ---- places and counters are numbers of 32 bits

pub emit_stmt-emit_expr-requires-in-SetCell-2 : goal.emit_stmt-emit_expr-requires-in-SetCell-2
emit_stmt-emit_expr-requires-in-SetCell-2 t c =
    omega (arith, c.requires.room, ap stmt_size c.in-SetCell.is, size_set_cell c.in-SetCell.slot c.in-SetCell.index c.in-SetCell.value, behind_expr _ _ _ _ c.in_ok-emit_expr-in-SetCell.ensures)

pub emit_stmt-hold-requires : goal.emit_stmt-hold-requires
emit_stmt-hold-requires t c =
    omega (arith, c.requires.room, ap stmt_size c.in-If.is, size_if_front c.in-If.test c.in-If.branch c.in-If.other, behind_expr _ _ _ _ c.in_ok-emit_expr-in-If.ensures)

pub emit_stmt-emit_stmts-requires : goal.emit_stmt-emit_stmts-requires
emit_stmt-emit_stmts-requires t c =
    let first = to_first c.args.layout.now c.in-If.test _ _ _ c.in_ok-emit_expr-in-If.ensures c.in_ok-over-in-If.ensures.held in (
      search (rules, the_lemmas),
      (
        omega (arith, c.requires.room, ap stmt_size c.in-If.is, size_if_front c.in-If.test c.in-If.branch c.in-If.other, ap stmts_size c.as_slice.ensures, first),
        omega (arith, c.requires.counters, ap loops c.in-If.is, loops_if_front c.in-If.test c.in-If.branch c.in-If.other, ap loops_in c.as_slice.ensures),
      ),
    )

pub emit_stmt-place-requires : goal.emit_stmt-place-requires
emit_stmt-place-requires t c =
    let first = to_first c.args.layout.now c.in-If.test _ _ _ c.in_ok-emit_expr-in-If.ensures c.in_ok-over-in-If.ensures.held in
    omega (arith, c.requires.room, ap stmt_size c.in-If.is, size_if_front c.in-If.test c.in-If.branch c.in-If.other, ap stmts_size c.as_slice.ensures, first, behind_stmts _ _ _ _ _ c.in_ok-emit_stmts-in-If.ensures.code)

pub emit_stmt-hold-requires-in-Some : goal.emit_stmt-hold-requires-in-Some
emit_stmt-hold-requires-in-Some t c =
    let first = to_first c.args.layout.now c.in-If.test _ _ _ c.in_ok-emit_expr-in-If.ensures c.in_ok-over-in-If.ensures.held in
    omega (arith, c.requires.room, ap stmt_size c.in-If.is, size_if_front c.in-If.test c.in-If.branch c.in-If.other, ap stmts_size c.as_slice.ensures, first, behind_stmts _ _ _ _ _ c.in_ok-emit_stmts-in-If.ensures.code)

pub emit_stmt-place-requires-in-Some : goal.emit_stmt-place-requires-in-Some
emit_stmt-place-requires-in-Some t c =
    let size = ap stmt_size c.in-If.is ∙ ap (λ o. stmt_size (stmt.If c.in-If.test c.in-If.branch o)) c.in-Some.is ∙ size_if_else c.in-If.test c.in-If.branch c.in-Some.other in
    let first = to_first c.args.layout.now c.in-If.test _ _ _ c.in_ok-emit_expr-in-If.ensures c.in_ok-over-in-If.ensures.held in
    omega (arith, c.requires.room, size, ap stmts_size c.as_slice.ensures, first, behind_stmts _ _ _ _ _ c.in_ok-emit_stmts-in-If.ensures.code, behind_one _ _ _ c.in_ok-behind-in-Some.ensures.held)

pub emit_stmt-emit_stmts-requires-in-Some : goal.emit_stmt-emit_stmts-requires-in-Some
emit_stmt-emit_stmts-requires-in-Some t c =
    let size = ap stmt_size c.in-If.is ∙ ap (λ o. stmt_size (stmt.If c.in-If.test c.in-If.branch o)) c.in-Some.is ∙ size_if_else c.in-If.test c.in-If.branch c.in-Some.other in
    let counted = ap loops c.in-If.is ∙ ap (λ o. loops (stmt.If c.in-If.test c.in-If.branch o)) c.in-Some.is ∙ loops_if_else c.in-If.test c.in-If.branch c.in-Some.other in
    let second = to_second c.args.layout.now c.in-If.test c.as_slice.result.now _ _ _ _ _ _ _ _ _ c.in_ok-emit_expr-in-If.ensures c.in_ok-over-in-If.ensures.held c.in_ok-emit_stmts-in-If.ensures.code c.in_ok-behind-in-Some.ensures.held c.set-in-Some.ensures in (
      search (rules, the_lemmas),
      (
        omega (arith, c.requires.room, size, ap stmts_size c.as_slice.ensures, ap stmts_size c.as_slice-in-Some.ensures, second),
        omega (arith, c.requires.counters, counted, ap loops_in c.as_slice.ensures, ap loops_in c.as_slice-in-Some.ensures, c.in_ok-emit_stmts-in-If.ensures.loops),
      ),
    )

pub emit_stmt-place-requires-in-Some-2 : goal.emit_stmt-place-requires-in-Some-2
emit_stmt-place-requires-in-Some-2 t c =
    let size = ap stmt_size c.in-If.is ∙ ap (λ o. stmt_size (stmt.If c.in-If.test c.in-If.branch o)) c.in-Some.is ∙ size_if_else c.in-If.test c.in-If.branch c.in-Some.other in
    let second = to_second c.args.layout.now c.in-If.test c.as_slice.result.now _ _ _ _ _ _ _ _ _ c.in_ok-emit_expr-in-If.ensures c.in_ok-over-in-If.ensures.held c.in_ok-emit_stmts-in-If.ensures.code c.in_ok-behind-in-Some.ensures.held c.set-in-Some.ensures in
    omega (arith, c.requires.room, size, ap stmts_size c.as_slice.ensures, ap stmts_size c.as_slice-in-Some.ensures, second, behind_stmts _ _ _ _ _ c.in_ok-emit_stmts-in-Some.ensures.code)

pub emit_stmt-place-again-requires : goal.emit_stmt-place-again-requires
emit_stmt-place-again-requires t c = omega (arith, c.requires.room, ap stmt_size c.in-Bounded.is, size_bounded c.in-Bounded.test c.in-Bounded.most c.in-Bounded.turn, behind_one _ _ _ c.in_ok-push-in-Bounded.ensures)

pub emit_stmt-emit_expr-requires-in-Bounded : goal.emit_stmt-emit_expr-requires-in-Bounded
emit_stmt-emit_expr-requires-in-Bounded t c =
    omega (arith, c.requires.room, ap stmt_size c.in-Bounded.is, size_bounded c.in-Bounded.test c.in-Bounded.most c.in-Bounded.turn, behind_one _ _ _ c.in_ok-push-in-Bounded.ensures)

pub emit_stmt-hold-requires-in-Bounded : goal.emit_stmt-hold-requires-in-Bounded
emit_stmt-hold-requires-in-Bounded t c =
    omega (
      arith,
      c.requires.room,
      ap stmt_size c.in-Bounded.is,
      size_bounded c.in-Bounded.test c.in-Bounded.most c.in-Bounded.turn,
      behind_one _ _ _ c.in_ok-push-in-Bounded.ensures,
      behind_expr _ _ _ _ c.in_ok-emit_expr-in-Bounded.ensures,
      behind_one _ _ _ c.in_ok-push-in-Bounded-2.ensures,
    )

pub emit_stmt-emit_stmts-requires-in-Bounded : goal.emit_stmt-emit_stmts-requires-in-Bounded
emit_stmt-emit_stmts-requires-in-Bounded t c =
    let first = to_turn c.args.layout.now c.in-Bounded.test c.args.body.now.loops c.in-Bounded.most _ _ _ _ _ c.in_ok-push-in-Bounded.ensures c.in_ok-emit_expr-in-Bounded.ensures c.in_ok-push-in-Bounded-2.ensures c.in_ok-out-in-Bounded.ensures.held in (
      search (rules, the_lemmas),
      (
        omega (arith, c.requires.room, ap stmt_size c.in-Bounded.is, size_bounded c.in-Bounded.test c.in-Bounded.most c.in-Bounded.turn, ap stmts_size c.as_slice-in-Bounded.ensures, first),
        omega (arith, c.requires.counters, ap loops c.in-Bounded.is, loops_bounded c.in-Bounded.test c.in-Bounded.most c.in-Bounded.turn, ap loops_in c.as_slice-in-Bounded.ensures),
      ),
    )

pub emit_stmt-place-requires-in-Bounded : goal.emit_stmt-place-requires-in-Bounded
emit_stmt-place-requires-in-Bounded t c =
    let first = to_turn c.args.layout.now c.in-Bounded.test c.args.body.now.loops c.in-Bounded.most _ _ _ _ _ c.in_ok-push-in-Bounded.ensures c.in_ok-emit_expr-in-Bounded.ensures c.in_ok-push-in-Bounded-2.ensures c.in_ok-out-in-Bounded.ensures.held in
    omega (
      arith,
      c.requires.room,
      ap stmt_size c.in-Bounded.is,
      size_bounded c.in-Bounded.test c.in-Bounded.most c.in-Bounded.turn,
      ap stmts_size c.as_slice-in-Bounded.ensures,
      first,
      behind_stmts _ _ _ _ _ c.in_ok-emit_stmts-in-Bounded.ensures.code,
      behind_one _ _ _ c.in_ok-push-in-Bounded-3.ensures,
    )

pub emit_stmt-hold-requires-in-Timed : goal.emit_stmt-hold-requires-in-Timed
emit_stmt-hold-requires-in-Timed t c = omega (arith, c.requires.room, ap stmt_size c.in-Timed.is, size_timed c.in-Timed.test c.in-Timed.turn, behind_expr _ _ _ _ c.in_ok-emit_expr-in-Timed.ensures)

pub emit_stmt-emit_stmts-requires-in-Timed : goal.emit_stmt-emit_stmts-requires-in-Timed
emit_stmt-emit_stmts-requires-in-Timed t c =
    let first = to_first c.args.layout.now c.in-Timed.test _ _ _ c.in_ok-emit_expr-in-Timed.ensures c.in_ok-out-in-Timed.ensures.held in (
      search (rules, the_lemmas),
      (
        omega (arith, c.requires.room, ap stmt_size c.in-Timed.is, size_timed c.in-Timed.test c.in-Timed.turn, ap stmts_size c.as_slice-in-Timed.ensures, first),
        omega (arith, c.requires.counters, ap loops c.in-Timed.is, loops_timed c.in-Timed.test c.in-Timed.turn, ap loops_in c.as_slice-in-Timed.ensures),
      ),
    )

pub emit_stmt-place-requires-in-Timed : goal.emit_stmt-place-requires-in-Timed
emit_stmt-place-requires-in-Timed t c =
    let first = to_first c.args.layout.now c.in-Timed.test _ _ _ c.in_ok-emit_expr-in-Timed.ensures c.in_ok-out-in-Timed.ensures.held in
    omega (
      arith,
      c.requires.room,
      ap stmt_size c.in-Timed.is,
      size_timed c.in-Timed.test c.in-Timed.turn,
      ap stmts_size c.as_slice-in-Timed.ensures,
      first,
      behind_stmts _ _ _ _ _ c.in_ok-emit_stmts-in-Timed.ensures.code,
      behind_one _ _ _ c.in_ok-push-in-Timed.ensures,
    )

pub emit_stmt-place-requires-in-Advance : goal.emit_stmt-place-requires-in-Advance
emit_stmt-place-requires-in-Advance t c = omega (arith, c.requires.room, ap stmt_size c.in-Advance.is, size_advance c.in-Advance.point, behind_one _ _ _ c.in_ok-push-in-Advance.ensures)

pub emit_stmts-emit_stmt-requires : goal.emit_stmts-emit_stmt-requires
emit_stmts-emit_stmt-requires t c =
    let stmts = c.args.stmts.now in
    let i = c.loop-stmt.stmt-index in
    let here = drop_read stmts i c.stmt-item.result c.loop-stmt-test.true c.stmt-item.is in
    let left = stmts_left c.args.layout.now (drop i stmts) stmts _ _ c.args.code.now c.loop-stmt.code c.loop-stmt.invariant.code in (
      search (rules, the_lemmas),
      (
        omega (arith, c.requires.room, ap stmts_size here, left),
        omega (arith, c.requires.counters, ap loops_in here, c.loop-stmt.invariant.loops),
      ),
    )
