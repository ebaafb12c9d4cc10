-- What is left of the proof of `laws::units`.
use Rattle.psy_kernel.proofs.CountedUnits.{known, more, own, whole}
use Rattle.psy_kernel.proofs.laws.units.Goals as goal

pub returns-clause-known : goal.returns-clause-known
returns-clause-known e p script begun = known p script begun

pub returns-clause-own : goal.returns-clause-own
returns-clause-own e p script begun = own p script begun

pub returns-clause-more : goal.returns-clause-more
returns-clause-more e p processor script begun less = more p script begun processor less

pub returns-clause-whole : goal.returns-clause-whole
returns-clause-whole e p processor none = whole p processor none
