-- What each loop of `walks::unmark` keeps.
use Rattle.psy_flow.proofs.WalksMet.{AreLeft}
use Rattle.psy_flow.proofs.walks.unmark.Given as goal

abbrev pub invariant-places : goal.invariant-places
invariant-places l = AreLeft l.fn.marks l.marks l.places l.place-index
