-- What is left of the proof of `laws::horizons`.
use Rattle.psy_rate.proofs.GroupHorizons.{groups_some, groups_one}
use Rattle.psy_rate.proofs.LeastCovers.{horizon_some, horizon_one}
use Rattle.psy_rate.proofs.laws.horizons.Goals as goal

pub returns-clause-some : goal.returns-clause-some
returns-clause-some c = horizon_some

pub returns-clause-one : goal.returns-clause-one
returns-clause-one c = horizon_one

pub returns-clause-groups : goal.returns-clause-groups
returns-clause-groups c = groups_some

pub returns-clause-only : goal.returns-clause-only
returns-clause-only c = groups_one
