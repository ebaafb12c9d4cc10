-- What is left of the proof of `run`.
use Rattle.std.proofs.Common.{sym, subst}
use Rattle.psy_history.specs.Compiled.{AreInputs}
use Rattle.psy_history.proofs.lemmas.NoInputs.{are_no_inputs}
use Rattle.psy_byhand.proofs.run.Goals as goal

pub boot-requires-clause-inputs : goal.boot-requires-clause-inputs
boot-requires-clause-inputs g c = subst (AreInputs c.args.plan.unit) (sym c.in-Ok.ensures) (are_no_inputs c.args.plan.unit)
