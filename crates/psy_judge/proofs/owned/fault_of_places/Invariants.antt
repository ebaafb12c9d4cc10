-- What each loop of `owned::fault_of_places` keeps.
use Rattle.std.proofs.Common.{take}
use Rattle.psy_judge.specs.Deciding.{owner_of}
use Rattle.psy_judge.specs.Judged.{IsLeast}
use Rattle.psy_judge.specs.Judging.{IsEarlier, KeepsFor}
use Rattle.psy_judge.proofs.OwnersJudged.{Among}
use Rattle.psy_judge.proofs.owned.fault_of_places.Given as goal

abbrev pub invariant-places : goal.invariant-places
invariant-places l = IsLeast (Among (take l.place-index l.places) (KeepsFor l.unit l.code (IsEarlier l.code (owner_of l.whose)) (owner_of l.whose))) l.least
