-- What is left of the proof of `outboxes::outbox`.
use Rattle.std.proofs.Common.{◌≡◌, ◌<◌, ◌+◌, [], length, get_or, refl, ap, subst, ◌∙◌, arith}
use Rattle.std.proofs.lemmas.List.{get_or_default}
use Rattle.std.proofs.lemmas.List.Elements.{Contains-get_or}
use Rattle.psy_base.specs.Extremes.{IsMost}
use Rattle.psy_tree.specs.Parts.{agent_at, no_agent}
use Rattle.psy_meaning.specs.KnownWays.{Listed, Ways}
use Rattle.psy_sizes.specs.Sending.{HasSendsAmong, HasSendsBefore}
use Rattle.psy_sizes.proofs.OutboxesOf.{most_is, no_point, point_more, sends_some}
use Rattle.psy_sizes.proofs.Passed.{most_max}
use Rattle.psy_sizes.proofs.ReadLists.{cut, nexts_agent, nexts_points, sends_points}
use Rattle.psy_sizes.proofs.outboxes.outbox.Goals as goal
use Rattle.psy_sizes.proofs.outboxes.outbox.Goals.{After-as_slice-nexts}

-- The agent's next points, by point
own : (c : After-as_slice-nexts) → c.as_slice-nexts.result.now ≡ get_or c.args.ways.now.nexts c.args.agent []
own c =
    let nexts = c.args.ways.now.nexts in
    let agent = c.args.agent in
    let list = c.index-as_slice-agent.result in
    c.as_slice-nexts.ensures ∙ c.index-as_slice-agent.is ∙ ap (λ xs. get_or xs agent list) c.as_slice.ensures
    ∙ get_or_default nexts agent list [] (nexts_agent c.args.unit.now c.args.ways.now c.requires.ways agent c.requires.agent)

count : (c : After-as_slice-nexts) → length c.as_slice-nexts.result.now ≡ length (agent_at c.args.unit.now c.args.agent).points
count c = ap length (own c) ∙ nexts_points c.args.unit.now c.args.ways.now c.requires.ways c.args.agent c.requires.agent

pub points-init : goal.points-init
points-init c = no_point (Listed c.args.ways.now) c.args.agent c.len-streams.result (get_or c.args.ways.now.nexts c.args.agent [])

pub overflow_cast-point : goal.overflow_cast-point
overflow_cast-point c =
    let few = (c.requires.bare.agents c.args.agent no_agent c.requires.agent).limit in
    let whole = count (goal.at.overflow_cast-point c).After-as_slice-nexts in
    omega (arith, few, whole, c.points-test.true)

pub most_among-requires-clause-point : goal.most_among-requires-clause-point
most_among-requires-clause-point c =
    let whole = count (goal.at.most_among-requires-clause-point c).After-as_slice-nexts in
    let same = sends_points c.args.unit.now c.args.ways.now c.requires.ways c.args.agent c.requires.agent in
    omega (arith, same, whole, c.points-test.true)

pub most_among-requires-clause-cut : goal.most_among-requires-clause-cut
most_among-requires-clause-cut c = cut c.args.unit.now c.args.ways.now c.requires.ways c.args.agent c.requires.agent

pub points-preserved : goal.points-preserved
points-preserved c =
    let ways : Ways = Listed c.args.ways.now in
    let agent = c.args.agent in
    let streams = c.len-streams.result in
    let point = c.points.point in
    let list = get_or c.args.ways.now.nexts agent [] in
    let one = c.index-nexts-point.result in
    let mine = own (goal.at.points-preserved c).After-as_slice-nexts in
    let inside : point < length list = omega (arith, ap length mine, c.points-test.true) in
    let read : c.as_slice-in-points.result.now ≡ get_or list point [] = c.as_slice-in-points.ensures ∙ c.index-nexts-point.is ∙ ap (λ xs. get_or xs point one) mine ∙ get_or_default list point one [] inside in
    let found : IsMost (HasSendsAmong ways agent streams point (get_or list point [])) c.most_among.result = subst (λ xs. IsMost (HasSendsAmong ways agent streams point xs) c.most_among.result) read c.most_among.ensures in
    most_max (HasSendsBefore ways agent streams list point) (HasSendsAmong ways agent streams point (get_or list point [])) (HasSendsBefore ways agent streams list (point + 1)) c.points.greatest c.most_among.result c.max-greatest.result c.max-greatest.ensures
    c.points.invariant found (point_more ways agent streams list point)

pub returns : goal.returns
returns c =
    let unit = c.args.unit.now in
    let lists = c.args.ways.now in
    let ways : Ways = Listed lists in
    let agent = c.args.agent in
    let list = get_or lists.nexts agent [] in
    let points = length (agent_at unit agent).points in
    let whole = count (goal.at.returns c).After-as_slice-nexts in
    let all : c.points.point ≡ points = omega (arith, whole, c.points-test.false) in
    let timed = c.one_graph.ensures.timed unit lists agent c.requires.bare c.requires.ways c.requires.agent in
    let to = get_or (get_or list 0 []) 0 0 in
    let follows = Contains-get_or (get_or list 0 []) 0 0 (omega (arith, timed.some 0 (omega (arith, timed.head)))) in
    let streams = length unit.streams in
    let (m, sums) = sends_some ways agent 0 to (λ stream. (_, refl)) streams in
    let found : IsMost (HasSendsBefore ways agent streams list points) c.points.greatest =
    subst (λ n. IsMost (HasSendsBefore ways agent n list points) c.points.greatest) c.len-streams.ensures (subst (λ k. IsMost (HasSendsBefore ways agent c.len-streams.result list k) c.points.greatest) all c.points.invariant) in
    most_is (HasSendsBefore ways agent streams list points) c.points.greatest m (0, to, timed.head, follows, sums) found
