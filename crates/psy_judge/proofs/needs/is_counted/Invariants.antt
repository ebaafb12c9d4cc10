-- What each loop of `needs::is_counted` keeps.
use Rattle.std.proofs.Common.{ℕ, ◌<◌, get_or, length}
use Rattle.psy_flow.specs.Heights.{IsBalanced}
use Rattle.psy_flow.specs.Owners.{Function}
use Rattle.psy_judge.proofs.needs.is_counted.Given as goal

abbrev pub invariant-places : goal.invariant-places
invariant-places l = (k : ℕ) → k < l.place-index → k < length l.places → IsBalanced l.code (Function l.number) (get_or l.places k 0)
