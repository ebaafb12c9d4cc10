-- What is left of the proof of `statements::+lower_stmt`.
use Rattle.std.proofs.Common.{rules, ◌++◌, ◌∷◌, [], List, take, sym, ap, ◌∙◌, arith}
use Rattle.psy_tree.specs.declared.raw.RawStmt.{the_lemmas}
use Rattle.psy_tree.specs.declared.unit.Stmt.{Stmt}
use Rattle.psy_tree.specs.declared.unit.Point.{Point}
use Rattle.psy_tree.specs.Stands.{stmt_of, stmts_of}
use Rattle.psy_rules.specs.Lowered.{site}
use Rattle.psy_rules.proofs.Judging.{advances_more}
use Rattle.psy_rules.proofs.Lowering.{stmts_more, room_more}
use Rattle.psy_rules.proofs.statements.+lower_stmt.Goals as goal

pub lower_stmts-loop-stmt-preserved : goal.lower_stmts-loop-stmt-preserved
lower_stmts-loop-stmt-preserved t c =
    let before : List Stmt × List Point = stmts_of (site c.args.numbered.now) (take c.loop-stmt.stmt-index c.args.stmts.now) c.args.points.now in
    let e = stmts_more (site c.args.numbered.now) c.args.stmts.now c.loop-stmt.stmt-index c.stmt-item.result c.args.points.now c.loop-stmt-test.true (sym c.stmt-item.is) in
    record {
      stmts = c.in_ok-push.ensures.ok ∙ ap (λ l. l ++ c.in_ok-lower_stmt.field-0 ∷ []) c.loop-stmt.invariant.stmts
          ∙ ap (λ s. (stmts_of (site c.args.numbered.now) (take c.loop-stmt.stmt-index c.args.stmts.now) c.args.points.now).0 ++ s ∷ []) (c.in_ok-lower_stmt.ensures.stmt ∙ ap (λ ps. (stmt_of (site c.args.numbered.now) c.stmt-item.result ps).0) c.loop-stmt.invariant.points)
          ∙ sym (ap (λ (r : List Stmt × List Point). r.0) e);
      points = c.in_ok-lower_stmt.ensures.points ∙ ap (λ ps. (stmt_of (site c.args.numbered.now) c.stmt-item.result ps).1) c.loop-stmt.invariant.points
          ∙ sym (ap (λ (r : List Stmt × List Point). r.1) e);
      room = omega (arith, c.in_ok-lower_stmt.ensures.room, c.loop-stmt.invariant.room, advances_more c.args.stmts.now c.loop-stmt.stmt-index c.stmt-item.result c.loop-stmt-test.true (sym c.stmt-item.is));
    }

pub lower_stmts-lower_stmt-requires : goal.lower_stmts-lower_stmt-requires
lower_stmts-lower_stmt-requires t c = (
  search (rules, the_lemmas),
  (
    c.requires.numbered,
    omega (arith, c.requires.room, c.loop-stmt.invariant.room, room_more c.args.stmts.now c.loop-stmt.stmt-index c.stmt-item.result c.loop-stmt-test.true c.stmt-item.is),
  ),
)
