-- What is left of the proof of `engine::freeze::values_left`.
use Rattle.std.proofs.Common.{◌≡◌, [], ◌∷◌, ◌++◌, ap, ◌∙◌, of_z, to_z, w32, arith}
use Rattle.std.proofs.lemmas.Int.{to_z-of_z}
use Rattle.psy_kernel.proofs.Pushed.{taken_next}
use Rattle.psy_kernel.proofs.engine.freeze.values_left.Goals as goal

pub values-preserved : goal.values-preserved
values-preserved c =
    let old = c.values.values in
    let value : to_z w32 (of_z w32 c.look.result) ≡ c.look.result = grind (arith, to_z-of_z) in
    taken_next c.args.ring.now old c.push.new.self c.values.age c.look.result (c.in_ok-push.ensures.ok ∙ ap (λ z. old ++ z ∷ []) value) c.values.invariant c.look.ensures
