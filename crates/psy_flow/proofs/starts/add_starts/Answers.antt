-- What is left of the proof of `starts::add_starts`.
use Rattle.std.proofs.Common.{◌≡◌, ◌+◌, [], ◌∷◌, ◌++◌, length, sym, ap, subst, ◌∙◌, arith}
use Rattle.psy_meaning.specs.CodeWays.{agent_code_at, place_of}
use Rattle.psy_flow.specs.CodeLists.{AreStartsUpTo}
use Rattle.psy_flow.proofs.StartPlaces.{one_point}
use Rattle.psy_flow.proofs.starts.add_starts.Goals as goal

pub points-preserved : goal.points-preserved
points-preserved c =
    let code = c.args.code.now in
    let agent = c.args.agent in
    let point = c.points.point in
    let is : c.push.new.self ≡ c.points.starts ++ place_of code agent point ∷ [] = c.in_ok-push.ensures.ok ∙ ap (λ p. c.points.starts ++ p ∷ []) c.place_at.ensures in
    subst (AreStartsUpTo code agent (point + 1)) (sym is) (one_point code agent point c.points.starts c.points.invariant)

pub returns : goal.returns
returns c =
    let code = c.args.code.now in
    let agent = c.args.agent in
    let all : c.points.point ≡ length (agent_code_at code agent).points = omega (arith, c.points-test.false, c.points.auto.point-end, c.points_in-point-end.ensures) in
    subst (λ n. AreStartsUpTo code agent n c.points.starts) all c.points.invariant
