-- What is left of the proof of `rounds::follow`.
use Rattle.std.proofs.Common.{◌≡◌, List, [], ◌∷◌, ◌++◌, length, length-append, subst, sym, arith}
use Rattle.psy_base.specs.declared.edge.Edge.{Edge}
use Rattle.psy_rate.specs.Followed.{IsChosen, IsFollowed}
use Rattle.psy_rate.proofs.Followed.{at_none, both, end_both, stops}
use Rattle.psy_rate.proofs.rounds.follow.Goals as goal

pub returns-in_err-node : goal.returns-in_err-node
returns-in_err-node c =
    let graph = c.args.edges.now in
    let chosen = c.args.chosen.now in
    let (path, follows, count, ends) = c.loop.invariant in
    at_none c.from_residual.result ((way : List Edge) → IsFollowed graph chosen c.args.from way → length way ≡ c.args.steps → ⊥) _ c.from_residual.ensures
    (λ longer its same. stops graph chosen c.args.from c.loop.node path longer follows ends c.in_err-node.ensures.chosen its (omega (arith, count, same, c.loop-test.true)))

pub loop-preserved : goal.loop-preserved
loop-preserved c =
    let graph = c.args.edges.now in
    let chosen = c.args.chosen.now in
    let e = c.in_ok-node.field-0 in
    let (path, follows, count, ends) = c.loop.invariant in (
      path ++ e ∷ [],
      both graph chosen c.args.from path (e ∷ []) follows (subst (λ n. IsChosen graph chosen n e) (sym ends) c.in_ok-node.ensures.chosen, tt),
      omega (arith, count, length-append path (e ∷ [])),
      end_both c.args.from path (e ∷ []),
    )
