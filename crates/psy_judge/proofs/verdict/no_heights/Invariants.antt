-- What each loop of `verdict::no_heights` keeps.
use Rattle.std.proofs.Common.{◌≡◌, replicate}
use Rattle.psy_judge.specs.declared.heights.Top.TheVariants as top
use Rattle.psy_judge.proofs.verdict.no_heights.Given as goal

abbrev pub invariant-loop : goal.invariant-loop
invariant-loop l = l.row ≡ replicate l.counter top.Nothing
