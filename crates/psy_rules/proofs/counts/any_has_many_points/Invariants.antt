-- What each loop of `counts::any_has_many_points` keeps.
use Rattle.std.proofs.Common.{◌≡◌, take, false}
use Rattle.std.specs.Prelude.{nat_lt}
use Rattle.std.specs.List.{list_any}
use Rattle.psy_base.specs.declared.limits.TheConstants.{POINTS}
use Rattle.psy_tree.specs.Stands.{points_of}
use Rattle.psy_rules.proofs.counts.any_has_many_points.Given as goal

abbrev pub invariant-loop-item : goal.invariant-loop-item
invariant-loop-item l = list_any (λ i. nat_lt POINTS (points_of i)) (take l.item-index l.items) ≡ false
