-- What each loop of `walk::+stmt` keeps.
use Rattle.std.proofs.Common.{◌≡◌, take}
use Rattle.std.specs.Prelude.{nat_lt}
use Rattle.psy_tree.specs.Places.{stmts_places}
use Rattle.psy_tree.specs.Paths as paths
use Rattle.psy_rules.specs.Sites.{site_of}
use Rattle.psy_rules.specs.Judged.{judged_all}
use Rattle.psy_rules.proofs.walk.+stmt.Given as goal

abbrev pub invariant-walk_stmts-loop-stmt : goal.invariant-walk_stmts-loop-stmt
invariant-walk_stmts-loop-stmt l = record {
  least : l.least.fault ≡ judged_all (site_of l.scope) (stmts_places (take l.stmt-index l.stmts)) l.fn.least.fault;
  quiet : l.paths.quiet ≡ paths.quiet_list (take l.stmt-index l.stmts);
  advances : l.paths.advances ≡ nat_lt 0 (paths.advances_list (take l.stmt-index l.stmts));
}
