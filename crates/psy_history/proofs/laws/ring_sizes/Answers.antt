-- What is left of the proof of `laws::ring_sizes`.
use Rattle.std.specs.Prelude.{◌+◌}
use Rattle.std.proofs.lemmas.List.Elements.{All-contains}
use Rattle.psy_history.specs.History.{history}
use Rattle.psy_history.specs.Regular.{IsRegular}
use Rattle.psy_history.proofs.LookAges.{age_below}
use Rattle.psy_history.proofs.RingReaches.{reach_below}
use Rattle.psy_history.proofs.laws.ring_sizes.Goals as goal

pub returns-clause-look : goal.returns-clause-look
returns-clause-look c s ways order until dates agent variable back size date decl r supplied there declared looks low ring begun early =
    let its = All-contains (IsRegular s agent) (history s dates agent) r (supplied.lawful.actions dates agent).each there in
    age_below s ways supplied.graphs supplied.drawn agent variable decl declared r its back size date looks low ring early

pub returns-clause-reached : goal.returns-clause-reached
returns-clause-reached c s ways code run order until cycles variable size n supplied early ring is =
    reach_below s ways code run order until cycles variable size n supplied early ring (c.regular.ensures.runs s ways code run) (until + 1) is
