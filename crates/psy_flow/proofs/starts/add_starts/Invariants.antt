-- What each loop of `starts::add_starts` keeps.
use Rattle.psy_flow.specs.CodeLists.{AreStartsUpTo}
use Rattle.psy_flow.proofs.starts.add_starts.Given as goal

abbrev pub invariant-points : goal.invariant-points
invariant-points l = AreStartsUpTo l.code l.agent l.point l.starts
