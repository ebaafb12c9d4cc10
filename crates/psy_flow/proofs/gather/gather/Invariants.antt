-- What each loop of `gather::gather` keeps.
use Rattle.psy_flow.specs.Bits.{IsGathered, spare}
use Rattle.psy_flow.proofs.gather.gather.Given as goal

abbrev pub invariant-passes : goal.invariant-passes
invariant-passes l = IsGathered l.instrs l.fn.row l.row

abbrev pub decreases-passes : goal.decreases-passes
decreases-passes l = spare l.row
