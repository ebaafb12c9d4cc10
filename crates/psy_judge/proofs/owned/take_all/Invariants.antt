-- What each loop of `owned::take_all` keeps.
use Rattle.psy_judge.proofs.TakenPlaces.{AreTakenTo}
use Rattle.psy_judge.proofs.owned.take_all.Given as goal

abbrev pub invariant-places : goal.invariant-places
invariant-places l = AreTakenTo l.places l.fn.taken l.place-index l.taken
