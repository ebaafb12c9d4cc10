-- What is left of the proof of `laws::by_sayings`.
use Rattle.psy_draw.proofs.Agreeing.{agree, agreed}
use Rattle.psy_draw.proofs.Sayings.{counts_same}
use Rattle.psy_draw.proofs.laws.by_sayings.Goals as goal

pub returns-clause-same : goal.returns-clause-same
returns-clause-same c = counts_same

pub returns-clause-agree : goal.returns-clause-agree
returns-clause-agree c = agree

pub returns-clause-agreed : goal.returns-clause-agreed
returns-clause-agreed c = agreed
