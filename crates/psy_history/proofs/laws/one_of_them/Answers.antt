-- What is left of the proof of `laws::one_of_them`.
use Rattle.psy_history.proofs.OwnAgents.{edges_by_homes, few_of_them, one_of_them}
use Rattle.psy_history.proofs.laws.one_of_them.Goals as goal

pub returns-clause-one : goal.returns-clause-one
returns-clause-one c unit agent = one_of_them unit agent

pub returns-clause-few : goal.returns-clause-few
returns-clause-few c unit bare = few_of_them unit bare

pub returns-clause-homes : goal.returns-clause-homes
returns-clause-homes c unit processor graphs = edges_by_homes unit processor graphs
