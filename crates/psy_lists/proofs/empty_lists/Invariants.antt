-- What each loop of `empty_lists` keeps.
use Rattle.std.proofs.Common.{◌≡◌, [], replicate}
use Rattle.psy_lists.proofs.empty_lists.Given as goal

abbrev pub invariant-lists : goal.invariant-lists
invariant-lists g l = l.lists.items ≡ replicate l.counter []
