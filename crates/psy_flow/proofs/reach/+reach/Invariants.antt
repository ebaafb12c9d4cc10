-- What each loop of `reach::+reach` keeps.
use Rattle.std.proofs.Common.{◌≡◌, drop}
use Rattle.psy_flow.specs.Reach.{all_fall, some_reaches, marked}
use Rattle.psy_flow.proofs.reach.+reach.Given as goal

abbrev pub invariant-reach_stmts-loop-stmt : goal.invariant-reach_stmts-loop-stmt
invariant-reach_stmts-loop-stmt l =
    (all_fall (drop l.stmt-index l.stmts) ≡ all_fall l.stmts) × (marked l.marks (some_reaches (drop l.stmt-index l.stmts)) ≡ marked l.fn.marks (some_reaches l.stmts))
