-- What each loop of `statements::+lower_stmt` keeps.
use Rattle.std.proofs.Common.{◌≡◌, ◌+◌, ◌≤◌, take, length}
use Rattle.psy_tree.specs.Paths.{advances_list}
use Rattle.psy_tree.specs.Stands.{stmts_of}
use Rattle.psy_rules.specs.Lowered.{site}
use Rattle.psy_rules.proofs.statements.+lower_stmt.Given as goal

abbrev pub invariant-lower_stmts-loop-stmt : goal.invariant-lower_stmts-loop-stmt
invariant-lower_stmts-loop-stmt l = record {
  stmts : l.lowered ≡ (stmts_of (site l.numbered) (take l.stmt-index l.stmts) l.fn.points).0;
  points : l.points ≡ (stmts_of (site l.numbered) (take l.stmt-index l.stmts) l.fn.points).1;
  room : length l.points ≤ length l.fn.points + advances_list (take l.stmt-index l.stmts);
}
