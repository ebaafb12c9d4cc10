-- What each loop of `counts::+advances` keeps.
use Rattle.std.proofs.Common.{◌≡◌, ◌-◌, ◌^◌, take, min}
use Rattle.psy_tree.specs.Paths as paths
use Rattle.psy_rules.proofs.counts.+advances.Given as goal

abbrev pub invariant-advances_in-loop-stmt : goal.invariant-advances_in-loop-stmt
invariant-advances_in-loop-stmt l = l.n ≡ min (paths.advances_list (take l.stmt-index l.stmts)) (2 ^ 64 - 1)
