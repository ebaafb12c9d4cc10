-- What each loop of `needs::gather` keeps.
use Rattle.psy_judge.specs.Gathering.{IsGathered}
use Rattle.psy_judge.proofs.needs.gather.Given as goal

abbrev pub invariant-places : goal.invariant-places
invariant-places l = IsGathered l.code l.number l.places l.place-index l.need
