-- What each loop of `counts::any_has_many_names` keeps.
use Rattle.std.proofs.Common.{◌≡◌, take, false, length}
use Rattle.std.specs.Prelude.{nat_lt}
use Rattle.std.specs.List.{list_any}
use Rattle.psy_base.specs.declared.limits.TheConstants.{NAMES}
use Rattle.psy_tree.specs.Scope.{slots_of}
use Rattle.psy_rules.proofs.counts.any_has_many_names.Given as goal

abbrev pub invariant-loop-item : goal.invariant-loop-item
invariant-loop-item l = list_any (λ i. nat_lt NAMES (length (slots_of i))) (take l.item-index l.items) ≡ false
