-- What each loop of `ends::mark_ends` keeps.
use Rattle.std.proofs.Common.{◌≡◌, take}
use Rattle.psy_flow.specs.Reach.{marked}
use Rattle.psy_flow.proofs.CodeEnds.{some_ends}
use Rattle.psy_flow.proofs.ends.mark_ends.Given as goal

abbrev pub invariant-places : goal.invariant-places
invariant-places l = l.reached ≡ marked l.fn.reached (some_ends l.instrs (take l.place-index l.places))
