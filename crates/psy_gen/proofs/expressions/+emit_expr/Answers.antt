-- What is left of the proof of `expressions::+emit_expr`.
use Rattle.std.proofs.Common.{rules, ◌+◌, List, ◌++◌, drop, map, length, ap, sym, ◌∙◌, arith}
use Rattle.std.proofs.lemmas.Result.{on_ok_weaker}
use Rattle.psy_lists.proofs.lemmas.Places.{drop_read}
use Rattle.psy_tree.specs.declared.unit.Expr.{Expr, the_lemmas}
use Rattle.psy_tree.specs.Paths.{total}
use Rattle.psy_meaning.specs.Sizes.{expr_size}
use Rattle.psy_gen.specs.Emission.{exprs_code}
use Rattle.psy_gen.proofs.Equations.{operand, code_number, code_slot, code_copy, code_cell, code_past, code_ready, code_take, code_unary, code_cast, code_binary, code_call, arguments_behind, binary_eager, size_binary, size_lazy}
use Rattle.psy_gen.proofs.Patches.{then_one, patch_either, then_operator, exprs_more, behind_expr, behind_one}
use Rattle.psy_gen.proofs.Small.{exprs_left}
use Rattle.psy_gen.proofs.expressions.+emit_expr.Goals as goal

pub emit_expr-returns-in-Number : goal.emit_expr-returns-in-Number
emit_expr-returns-in-Number t c = rw (c.in-Number.is, code_number) (search rules)

pub emit_expr-returns-in-Slot : goal.emit_expr-returns-in-Slot
emit_expr-returns-in-Slot t c = rw (c.in-Slot.is, code_slot, ← c.base.ensures) c.push-in-Slot.ensures

pub emit_expr-returns-in-Copy : goal.emit_expr-returns-in-Copy
emit_expr-returns-in-Copy t c = rw (c.in-Copy.is, code_copy) c.push-in-Copy.ensures

pub emit_expr-returns-in_ok-emit_expr-in-Cell : goal.emit_expr-returns-in_ok-emit_expr-in-Cell
emit_expr-returns-in_ok-emit_expr-in-Cell t c =
    rw (c.in-Cell.is, code_cell, ← c.get.ensures, ← c.base-in-Cell.ensures, ← c.cells.ensures) (on_ok_weaker c.push-in-Cell.result (then_one _ _ _ _ _ c.in_ok-emit_expr-in-Cell.ensures) c.push-in-Cell.ensures)

pub emit_expr-returns-in-Past : goal.emit_expr-returns-in-Past
emit_expr-returns-in-Past t c = rw (c.in-Past.is, code_past) c.push-in-Past.ensures

pub emit_expr-returns-in-Ready : goal.emit_expr-returns-in-Ready
emit_expr-returns-in-Ready t c = rw (c.in-Ready.is, code_ready) c.push-in-Ready.ensures

pub emit_expr-returns-in-Take : goal.emit_expr-returns-in-Take
emit_expr-returns-in-Take t c = rw (c.in-Take.is, code_take) c.push-in-Take.ensures

pub emit_expr-returns-in_ok-emit_expr-in-Unary : goal.emit_expr-returns-in_ok-emit_expr-in-Unary
emit_expr-returns-in_ok-emit_expr-in-Unary t c =
    rw (c.in-Unary.is, code_unary, ← c.get-in-Unary.ensures, ← c.width_of.ensures) (on_ok_weaker c.push-in-Unary.result (then_one _ _ _ _ _ c.in_ok-emit_expr-in-Unary.ensures) c.push-in-Unary.ensures)

pub emit_expr-returns-in_ok-emit_expr-in-Cast : goal.emit_expr-returns-in_ok-emit_expr-in-Cast
emit_expr-returns-in_ok-emit_expr-in-Cast t c =
    rw (c.in-Cast.is, code_cast, ← c.get-in-Cast.ensures) (on_ok_weaker c.push-in-Cast.result (then_one _ _ _ _ _ c.in_ok-emit_expr-in-Cast.ensures) c.push-in-Cast.ensures)

pub emit_expr-returns-in_ok-emit_exprs-in-Call : goal.emit_expr-returns-in_ok-emit_exprs-in-Call
emit_expr-returns-in_ok-emit_exprs-in-Call t c =
    rw (c.in-Call.is, code_call, arguments_behind, ← c.as_slice.ensures) (on_ok_weaker c.push-in-Call.result (then_one _ _ _ _ _ c.in_ok-emit_exprs-in-Call.ensures) c.push-in-Call.ensures)

pub emit_exprs-loop-expr-preserved : goal.emit_exprs-loop-expr-preserved
emit_exprs-loop-expr-preserved t c =
    let next = exprs_more c.args.layout.now c.expr-item.result (drop (c.loop-expr.expr-index + 1) c.args.exprs.now) c.loop-expr.code c.emit_expr.new.code c.in_ok-emit_expr.ensures in
    next ∙ ap (λ es. c.loop-expr.code ++ exprs_code c.args.layout.now es (length c.loop-expr.code)) (sym (drop_read c.args.exprs.now c.loop-expr.expr-index c.expr-item.result c.loop-expr-test.true c.expr-item.is)) ∙ c.loop-expr.invariant

pub emit_expr-returns-in_ok-push-in-None : goal.emit_expr-returns-in_ok-push-in-None
emit_expr-returns-in_ok-push-in-None t c =
    let new = rw c.in-None.is at c.new.ensures in
    rw (c.set.ensures, c.in-Binary.is, code_binary, ← c.get-in-Binary.ensures, ← c.get-in-None.ensures)
    (patch_either c.args.layout.now c.in-Binary.op c.in-Binary.width c.lazy_test.result _ _ _ _ _ _ _ _ new (rw c.place.ensures at c.lazy_test.ensures.and) (rw c.place.ensures at c.lazy_test.ensures.or) c.in_ok-emit_expr-in-Binary.ensures c.in_ok-test-in-None.ensures.place c.in_ok-test-in-None.ensures.held c.in_ok-emit_expr-in-None.ensures c.in_ok-push-in-None.ensures)

pub emit_expr-returns-in_ok-emit_expr-in-Some : goal.emit_expr-returns-in_ok-emit_expr-in-Some
emit_expr-returns-in_ok-emit_expr-in-Some t c =
    let layout = c.args.layout.now in
    let p = length c.args.code.now in
    let new = rw c.in-Some.is at c.new.ensures in
    let eager = binary_eager c.in-Binary.op c.in-Binary.width (operand layout c.in-Binary.left) (operand layout c.in-Binary.right) p new.1.0 new.1.1 in
    rw (c.in-Binary.is, code_binary, eager, ← c.get-in-Binary.ensures, ← c.get-in-Some.ensures, ← new.0)
    (on_ok_weaker c.push-in-Some.result (then_operator layout _ _ _ _ _ _ _ c.in_ok-emit_expr-in-Binary.ensures c.in_ok-emit_expr-in-Some.ensures) c.push-in-Some.ensures)

-- ---- places are numbers of 32 bits

pub emit_expr-hold-requires : goal.emit_expr-hold-requires
emit_expr-hold-requires t c =
    omega (arith, c.requires, ap expr_size c.in-Binary.is, size_binary c.in-Binary.op c.in-Binary.width c.in-Binary.left c.in-Binary.right, size_lazy c.in-Binary.op (rw c.in-None.is at c.new.ensures), ap expr_size c.get-in-Binary.ensures, behind_expr _ _ _ _ c.in_ok-emit_expr-in-Binary.ensures)

pub emit_expr-emit_expr-requires-in-None : goal.emit_expr-emit_expr-requires-in-None
emit_expr-emit_expr-requires-in-None t c = (
  search (rules, the_lemmas),
  omega (
    arith,
    c.requires,
    ap expr_size c.in-Binary.is,
    size_binary c.in-Binary.op c.in-Binary.width c.in-Binary.left c.in-Binary.right,
    size_lazy c.in-Binary.op (rw c.in-None.is at c.new.ensures),
    ap expr_size c.get-in-Binary.ensures,
    ap expr_size c.get-in-None.ensures,
    behind_expr _ _ _ _ c.in_ok-emit_expr-in-Binary.ensures,
    behind_one _ _ _ c.in_ok-test-in-None.ensures.held,
  ),
)

pub emit_expr-place-requires : goal.emit_expr-place-requires
emit_expr-place-requires t c =
    omega (
      arith,
      c.requires,
      ap expr_size c.in-Binary.is,
      size_binary c.in-Binary.op c.in-Binary.width c.in-Binary.left c.in-Binary.right,
      size_lazy c.in-Binary.op (rw c.in-None.is at c.new.ensures),
      ap expr_size c.get-in-Binary.ensures,
      ap expr_size c.get-in-None.ensures,
      behind_expr _ _ _ _ c.in_ok-emit_expr-in-Binary.ensures,
      behind_one _ _ _ c.in_ok-test-in-None.ensures.held,
      behind_expr _ _ _ _ c.in_ok-emit_expr-in-None.ensures,
      behind_one _ _ _ c.in_ok-push-in-None.ensures,
    )

pub emit_expr-emit_expr-requires-in-Some : goal.emit_expr-emit_expr-requires-in-Some
emit_expr-emit_expr-requires-in-Some t c =
    (search (rules, the_lemmas), omega (arith, c.requires, ap expr_size c.in-Binary.is, size_binary c.in-Binary.op c.in-Binary.width c.in-Binary.left c.in-Binary.right, ap expr_size c.get-in-Binary.ensures, ap expr_size c.get-in-Some.ensures, behind_expr _ _ _ _ c.in_ok-emit_expr-in-Binary.ensures))

pub emit_exprs-emit_expr-requires : goal.emit_exprs-emit_expr-requires
emit_exprs-emit_expr-requires t c =
    let e = c.expr-item.result in
    let rest = drop (c.loop-expr.expr-index + 1) c.args.exprs.now in
    let here = ap (λ (es : List Expr). total (map expr_size es)) (drop_read c.args.exprs.now c.loop-expr.expr-index e c.loop-expr-test.true c.expr-item.is) in
    (search (rules, the_lemmas), omega (arith, c.requires, here, exprs_left c.args.layout.now (drop c.loop-expr.expr-index c.args.exprs.now) c.args.exprs.now c.args.code.now c.loop-expr.code c.loop-expr.invariant))
