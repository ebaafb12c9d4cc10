-- What each loop of `rounds::follow` keeps.
use Rattle.std.proofs.Common.{◌≡◌, List, length}
use Rattle.psy_base.specs.declared.edge.Edge.{Edge}
use Rattle.psy_rate.specs.Followed.{IsFollowed}
use Rattle.psy_rate.specs.Lines.{end_of}
use Rattle.psy_rate.proofs.rounds.follow.Given as goal

abbrev pub invariant-loop : goal.invariant-loop
invariant-loop l = (path : List Edge) × IsFollowed l.edges l.chosen l.from path × (length path ≡ l.counter) × (end_of l.from path ≡ l.node)
