-- What each loop of `judge::judge_locals` keeps.
use Rattle.std.proofs.Common.{◌≡◌, take, map}
use Rattle.psy_tree.specs.Scope.{Site}
use Rattle.psy_tree.specs.Places.{local_place}
use Rattle.psy_rules.specs.Judged.{judged_all}
use Rattle.psy_rules.proofs.judge.judge_locals.Given as goal

abbrev pub invariant-loop-local : goal.invariant-loop-local
invariant-loop-local l = (site : Site) → l.least.fault ≡ judged_all site (map local_place (take l.local-index l.locals)) l.fn.least.fault
