-- What is left of the proof of `kernel::Kernel::summary_line`.
use Rattle.std.proofs.Common.{◌≡◌, ◌<◌, ◌≤◌, ◌^◌, length, slice_get, sym, ap, subst, ◌∙◌}
use Rattle.psy_kernel.specs.declared.stage.Stage.TheVariants.{Over}
use Rattle.psy_kernel.specs.Kernels.{progress_of}
use Rattle.psy_kernel.specs.Progress.{Progress, stage_of, summary_told}
use Rattle.psy_kernel.proofs.Stages.{over_due}
use Rattle.psy_kernel.proofs.kernel.Kernel.summary_line.Goals as goal

pub summary_line-requires : goal.summary_line-requires
summary_line-requires c = record { over = over_due (progress_of c.self.inside) (subst (λ (p : Progress). stage_of p ≡ Over) (sym c.self.view_is) c.requires.over) }

pub returns : goal.returns
returns c = record {
  some = λ is. ap (λ (p : Progress). slice_get (summary_told p) c.args.place) (sym c.self.view_is) ∙ c.summary_line.ensures.some is;
  none = λ is. subst (λ (p : Progress). (length (summary_told p) ≤ c.args.place) × (c.summary_line.new.line ≡ c.args.line.now)) c.self.view_is (c.summary_line.ensures.none is);
  few = subst (λ (p : Progress). length (summary_told p) < 2 ^ 32) c.self.view_is c.summary_line.ensures.few;
}
