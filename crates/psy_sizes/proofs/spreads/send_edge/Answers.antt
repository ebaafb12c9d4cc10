-- What is left of the proof of `spreads::send_edge`.
use Rattle.std.proofs.Common.{get_or, refl, subst}
use Rattle.psy_meaning.specs.KnownWays.{HasMost, Listed, Ways}
use Rattle.psy_graph.specs.declared.graph.Node.{Node}
use Rattle.psy_sizes.proofs.Tables.{point_of}
use Rattle.psy_sizes.proofs.spreads.send_edge.Goals as goal

-- The node of no number
abbrev no_node : Node
no_node = record { point = 0; phase = 0; due = 0; budget = 0 }

pub returns-clause-sent : goal.returns-clause-sent
returns-clause-sent c =
    let nodes = c.args.nodes.now in
    let edge = c.args.edge in
    let ways : Ways = Listed c.args.ways.now in
    let agent = c.args.agent in
    let stream = c.args.stream in
    let n = c.most.result in
    record {
      same = refl;
      most = λ from to at also.
          subst (λ p. HasMost ways agent from.point p stream n) (point_of nodes edge.to no_node to c.requires.edge.to also)
          (subst (λ p. HasMost ways agent p (get_or nodes edge.to no_node).point stream n) (point_of nodes edge.from no_node from c.requires.edge.from at) c.most.ensures.most);
    }
