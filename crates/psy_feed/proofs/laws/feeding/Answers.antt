-- What is left of the proof of `laws::feeding`.
use Rattle.psy_feed.proofs.FedBy.{fed, feeds, from_input, once, to_looker}
use Rattle.psy_feed.proofs.laws.feeding.Goals as goal

pub returns-clause-feeds : goal.returns-clause-feeds
returns-clause-feeds c unit from to = (fed unit from to, feeds unit from to)

pub returns-clause-inputs : goal.returns-clause-inputs
returns-clause-inputs c unit input to = (from_input unit input to, to_looker unit input to)

pub returns-clause-once : goal.returns-clause-once
returns-clause-once c unit = once unit
