-- What each loop of `gather::pass` keeps.
use Rattle.psy_flow.proofs.Gathered.{IsPassingBack}
use Rattle.psy_flow.proofs.gather.pass.Given as goal

abbrev pub invariant-places : goal.invariant-places
invariant-places l = IsPassingBack l.instrs l.fn.row l.row l.more l.place

abbrev pub decreases-places : goal.decreases-places
decreases-places l = l.place
