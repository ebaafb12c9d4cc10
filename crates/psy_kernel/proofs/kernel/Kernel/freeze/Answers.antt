-- What is left of the proof of `kernel::Kernel::freeze`.
use Rattle.std.proofs.Common.{◌≡◌, ℕ, Err, sym, subst}
use Rattle.std.specs.Prelude.{IfOk, OnOk}
use Rattle.psy_dates.specs.Beginnings.{behind}
use Rattle.psy_history.specs.Resuming.{IsQuiet}
use Rattle.psy_kernel.specs.declared.fault.FreezeFault.TheVariants.{Busy}
use Rattle.psy_kernel.specs.declared.stage.Stage.TheVariants.{Over}
use Rattle.psy_kernel.specs.Freezing.{BeginWithFirst, IsFirstBusy, left_by, state_by}
use Rattle.psy_kernel.specs.Kernels.{progress_of}
use Rattle.psy_kernel.specs.Progress.{Progress, stage_of, system}
use Rattle.psy_kernel.specs.Resuming.{HasShapeOf}
use Rattle.psy_kernel.proofs.Stages.{over_due}
use Rattle.psy_kernel.proofs.kernel.Kernel.freeze.Goals as goal

pub freeze-requires : goal.freeze-requires
freeze-requires c = record { over = over_due (progress_of c.self.inside) (subst (λ (p : Progress). stage_of p ≡ Over) (sym c.self.view_is) c.requires.over) }

pub returns : goal.returns
returns c = record {
  quiet = subst (λ (p : Progress). OnOk c.freeze.result (IsQuiet (system p) p.plan.until)) c.self.view_is c.freeze.ensures.quiet;
  busy = subst (λ (p : Progress). (agent : ℕ) → c.freeze.result ≡ Err (Busy agent) → IsFirstBusy (system p) p.plan.until agent) c.self.view_is c.freeze.ensures.busy;
  shape = subst (λ (p : Progress). IfOk c.freeze.result (HasShapeOf p.plan)) c.self.view_is c.freeze.ensures.shape;
  state = subst (λ (p : Progress). IfOk c.freeze.result (λ opening. opening ≡ state_by p.plan (left_by p))) c.self.view_is c.freeze.ensures.state;
  opened = subst (λ (p : Progress). BeginWithFirst p.plan → IfOk c.freeze.result (λ opening. behind p.plan opening ≡ left_by p)) c.self.view_is c.freeze.ensures.opened;
}
