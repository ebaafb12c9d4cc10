-- What each loop of `graph::foreign_in_graph` keeps.
use Rattle.std.proofs.Common.{◌≡◌, [], drop}
use Rattle.psy_match.specs.Belonging.{first_in_graph, further}
use Rattle.psy_match.proofs.graph.foreign_in_graph.Given as goal

-- The notes so far are the program's, and what is left decides.
abbrev pub invariant-each : goal.invariant-each
invariant-each l = first_in_graph [] l.unit.agents l.notes ≡ further l.index (first_in_graph l.left.points.now l.left.agents.now (drop l.index l.notes))
