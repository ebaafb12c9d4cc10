-- What is left of the proof of `engine::boot::runners_of`.
use Rattle.std.proofs.Common.{◌≡◌, [], ◌∷◌, ◌++◌, length, length-append, ap, sym, subst, arith}
use Rattle.psy_lists.proofs.lemmas.Places.{each_pushed}
use Rattle.psy_kernel.specs.Starting.{AreNew, IsNewRunner}
use Rattle.psy_kernel.proofs.engine.boot.runners_of.Goals as goal

pub agents-preserved : goal.agents-preserved
agents-preserved c =
    let code = c.args.code.now in
    let script = c.args.script.now in
    let old = c.agents.runners.items in
    let runner = c.in_ok-runner_of.field-0 in
    let pushed : c.push.new.self.items ≡ old ++ runner ∷ [] = c.in_ok-push.ensures.items in
    let count = c.agents.invariant.count in
    record {
      count = omega (arith, ap length pushed, count, length-append old (runner ∷ []));
      new = subst (AreNew code script) (sym pushed)
          (each_pushed (IsNewRunner code script) old runner c.agents.invariant.new (subst (λ agent. IsNewRunner code script agent runner) (sym count) c.in_ok-runner_of.ensures));
    }
