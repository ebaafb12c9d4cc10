-- What is left of the proof of `paths::most_points`.
use Rattle.std.proofs.Common.{◌≡◌, ◌+◌, ◌<◌, max, [], ◌∷◌, length, get_or, map, take, sym, ap, ◌∙◌, arith}
use Rattle.std.proofs.lemmas.List.{take_all}
use Rattle.psy_base.specs.Extremes.{most_of}
use Rattle.psy_tree.specs.declared.unit.AgentDecl.{AgentDecl}
use Rattle.psy_flow.proofs.DelaysAmong.{most_append}
use Rattle.psy_flow.proofs.Lists.{map_more}
use Rattle.psy_flow.proofs.paths.most_points.Goals as goal

pub agents-preserved : goal.agents-preserved
agents-preserved c =
    let agents = c.args.unit.now.agents in
    let i = c.agents.agent-index in
    let agent = c.agent-item.result in
    let points = λ (a : AgentDecl). length a.points in
    let all = c.as_slice-agent-items.ensures in
    let less : i < length agents = omega (arith, c.agents-test.true, ap length all) in
    let is : agent ≡ get_or agents i agent = c.agent-item.is ∙ ap (λ xs. get_or xs i agent) all in
    let more : most_of (map points (take (i + 1) agents)) ≡ max (most_of (map points (take i agents))) (max (points agent) 0) =
    ap most_of (map_more points agents i agent less (sym is)) ∙ most_append (map points (take i agents)) (points agent ∷ []) in
    omega (arith, more, c.max-most.ensures, c.agents.invariant, c.len.ensures)

pub returns : goal.returns
returns c =
    let agents = c.args.unit.now.agents in
    c.agents.invariant ∙ ap (λ xs. most_of (map (λ (a : AgentDecl). length a.points) xs)) (take_all c.agents.agent-index agents (omega (arith, c.agents-test.false, ap length c.as_slice-agent-items.ensures)))
