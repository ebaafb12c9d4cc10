-- What is left of the proof of `told::pace`.
use Rattle.std.proofs.Common.{◌≡◌, refl, subst, ◌*◌, ◌<◌}
use Rattle.psy_base.specs.declared.limits.TheConstants.{RUN}
use Rattle.psy_run.specs.declared.refusal.Refusal.TheVariants.{Cycles}
use Rattle.psy_run.specs.Outcome.{halts_refused}
use Rattle.psy_run.proofs.told.pace.Goals as goal

pub returns-else-from-le-RUN-clause-err : goal.returns-else-from-le-RUN-clause-err
returns-else-from-le-RUN-clause-err c failed before after =
    let cycles : c.from.result * c.from-2.result ≡ c.args.until * c.args.unit.now.quantum = λ i. c.from.ensures i * c.from-2.ensures i in
    halts_refused Cycles (refl, subst (λ n. RUN < n) cycles c.if-from-le-RUN.false)
