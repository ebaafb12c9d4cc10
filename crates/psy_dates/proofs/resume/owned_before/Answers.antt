-- What is left of the proof of `resume::owned_before`.
use Rattle.std.proofs.Common.{◌≡◌, ◌<◌, length, get_or, ap, ◌∙◌, arith}
use Rattle.psy_meaning.specs.Alike.{owned_copy}
use Rattle.psy_tree.specs.declared.unit.VarDecl.{VarDecl}
use Rattle.psy_dates.proofs.OwnValues.{owned_more}
use Rattle.psy_dates.proofs.resume.owned_before.Goals as goal

pub variables-preserved : goal.variables-preserved
variables-preserved c =
    let vs = c.args.variables.now in
    let place = c.variables.place in
    let v = c.index-variables-place.result in
    let within : place < length vs = omega (arith, c.variables-test.true, c.requires) in
    let count : c.owned-count.result ≡ length (owned_copy c.args.agent 0 (get_or vs place v) (get_or vs place v).owner) =
    c.owned-count.ensures.number 0 ∙ ap (λ (x : VarDecl). length (owned_copy c.args.agent 0 x x.owner)) c.index-variables-place.is in
    record {
      few = omega (arith, c.variables.invariant.few, c.owned-count.ensures.few);
      number = omega (arith, c.variables.invariant.number, owned_more c.args.agent 0 0 vs place v within, count);
    }
