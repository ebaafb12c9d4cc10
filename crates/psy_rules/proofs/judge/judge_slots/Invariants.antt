-- What each loop of `judge::judge_slots` keeps.
use Rattle.std.proofs.Common.{◌≡◌, take, map}
use Rattle.psy_rules.specs.Sites.{site_of}
use Rattle.psy_rules.specs.Heads.{name_places}
use Rattle.psy_rules.specs.Judged.{judged_all}
use Rattle.psy_rules.proofs.judge.judge_slots.Given as goal

abbrev pub invariant-loop-k : goal.invariant-loop-k
invariant-loop-k l = l.least.fault ≡ judged_all (site_of l.scope) (name_places 0 (map (λ n. n.now) (take l.k l.names))) l.fn.least.fault
