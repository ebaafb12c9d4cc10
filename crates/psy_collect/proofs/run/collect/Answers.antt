-- What is left of the proof of `run::collect`.
use Rattle.std.proofs.Common.{◌∙◌, ap, length, subst, sym}
use Rattle.psy_collect.specs.Collected.{IsRunning}
use Rattle.psy_collect.specs.Keeping.{nothing_kept}
use Rattle.psy_history.specs.Processors.{processors}
use Rattle.psy_collect.proofs.Beginning.{begun}
use Rattle.psy_collect.proofs.run.collect.Goals as goal

pub keep_dates-requires : goal.keep_dates-requires
keep_dates-requires c = record {
  running = subst (IsRunning c.args.kernel.now) (sym (c.in_ok-kept.ensures ∙ ap (λ q. nothing_kept (length q.unit.agents) (processors q.unit)) c.plan.ensures.plan)) (begun c.args.kernel.now c.requires.booted);
}
