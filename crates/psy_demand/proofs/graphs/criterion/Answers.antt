-- What is left of the proof of `graphs::criterion`.
use Rattle.psy_demand.specs.Criterion.{edges_of}
use Rattle.psy_demand.proofs.Verdicts.{fits, passes}
use Rattle.psy_demand.proofs.graphs.criterion.Goals as goal

pub returns-clause-yes : goal.returns-clause-yes
returns-clause-yes c = fits c.args.homes.now (edges_of c.args.graphs.now) c.args.quantum c.args.top c.in_ok-find.field-0 c.in_ok-find.ensures

pub returns-clause-no : goal.returns-clause-no
returns-clause-no c = passes c.args.homes.now (edges_of c.args.graphs.now) c.args.quantum c.args.top c.in_ok-find.field-0 c.in_ok-find.ensures
