-- What is left of the proof of `runs::text_of`.
use Rattle.std.proofs.Common.{◌≡◌, refl, subst, sym}
use Rattle.psy_kernel.specs.Progress.{Progress, began}
use Rattle.psy_drives.proofs.runs.text_of.Goals as goal

pub run_loop-requires : goal.run_loop-requires
run_loop-requires c = record { began = subst (λ (k : Progress). k ≡ began k.plan k.inputs k.script k.opening) (sym c.requires.booted) refl }
