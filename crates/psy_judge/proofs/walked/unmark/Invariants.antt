-- What each loop of `walked::unmark` keeps.
use Rattle.psy_judge.proofs.PlacesMet.{AreLeft}
use Rattle.psy_judge.proofs.walked.unmark.Given as goal

abbrev pub invariant-places : goal.invariant-places
invariant-places l = AreLeft l.fn.marks l.marks l.places l.place-index
