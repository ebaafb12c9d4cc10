-- What each loop of `statements::+stmt` keeps.
use Rattle.std.proofs.Common.{◌≡◌, map, take}
use Rattle.psy_meaning.specs.Depths.{stmts_depth}
use Rattle.psy_flow.specs.Counted.{held, capped_depth}
use Rattle.psy_flow.proofs.statements.+stmt.Given as goal

abbrev pub invariant-depth_of_stmts-loop-stmt : goal.invariant-depth_of_stmts-loop-stmt
invariant-depth_of_stmts-loop-stmt l = held l.depths ≡ capped_depth (stmts_depth (map held l.functions) (take l.stmt-index l.stmts))
