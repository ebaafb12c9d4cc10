-- What is left of the proof of `resume::values_of`.
use Rattle.std.proofs.Common.{◌≡◌, ℕ, w32, to_z, of_z, ◌∙◌, arith}
use Rattle.std.specs.Prelude.{ℤ}
use Rattle.std.proofs.lemmas.Int.{to_z-of_z}
use Rattle.psy_tree.specs.Parts.{variable_at}
use Rattle.psy_dates.specs.Beginnings.{committed_of}
use Rattle.psy_dates.proofs.Filled.{each_more}
use Rattle.psy_dates.proofs.resume.values_of.Goals as goal

pub variables-preserved : goal.variables-preserved
variables-preserved c =
    let committed : ℕ → ℤ = λ variable. committed_of c.args.plan.now c.args.opening.now variable (variable_at c.args.plan.now.unit variable).owner in
    let value : to_z w32 (of_z w32 c.value_of.result) ≡ c.value_of.result = grind (arith, to_z-of_z) in
    record {
      count = omega (arith, c.in_ok-push.ensures.len, c.variables.invariant.count);
      committed = each_more committed c.variables.values.items c.push.new.self.items c.variables.variable (to_z w32 (of_z w32 c.value_of.result)) c.variables.invariant.count c.in_ok-push.ensures.items (value ∙ c.value_of.ensures) c.variables.invariant.committed;
    }
