-- What each loop of `commits::commit_listed` keeps.
use Rattle.psy_dates.proofs.Committing.{CopiedTo}
use Rattle.psy_dates.proofs.commits.commit_listed.Given as goal

abbrev pub invariant-copies : goal.invariant-copies
invariant-copies l = CopiedTo l.own l.ended l.fn.committed l.committed l.place
